use Rattle.bosh_client.proofs.RunLemmas.{client_is}
use Rattle.bosh_client.proofs.laws.answers_tell_their_bodies.Goals as goal

pub returns : goal.returns
returns c = λ setup calls some. (client_is setup calls some).reads
