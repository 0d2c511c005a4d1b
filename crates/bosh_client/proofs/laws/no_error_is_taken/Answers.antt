use Rattle.bosh_client.proofs.RunLemmas.{client_is}
use Rattle.bosh_client.proofs.laws.no_error_is_taken.Goals as goal

pub returns : goal.returns
returns c = λ setup calls some. (client_is setup calls some).no_errors
