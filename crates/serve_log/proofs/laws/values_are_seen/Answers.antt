use Rattle.serve_log.proofs.SeenLemmas.{text_seen}
use Rattle.serve_log.proofs.laws.values_are_seen.Goals as goal

pub returns : goal.returns
returns c = record { values = text_seen }
