use Rattle.session_table.proofs.HoldingLemmas.{live_numbered}
use Rattle.session_table.proofs.laws.live_sessions_are_told_by_number.Goals as goal

pub returns : goal.returns
returns c = live_numbered
