use Rattle.bosh_client.proofs.RunLemmas.{client_is}
use Rattle.bosh_client.proofs.laws.acknowledgements_are_of_taken_answers.Goals as goal

pub returns : goal.returns
returns c = λ setup calls some. (client_is setup calls some).acks
