use Rattle.bosh_client.proofs.ReadingLemmas.{broken_is, means_exactly, one_meaning}
use Rattle.bosh_client.proofs.laws.reading_gives_what_an_answer_means.Goals as goal

pub returns : goal.returns
returns c = record { one = one_meaning; read = means_exactly; broken = broken_is }
