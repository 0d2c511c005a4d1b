use Rattle.bosh_client.specs.Runs.{client_after}
use Rattle.bosh_client.proofs.RunLemmas.{client_is, put_is_made}
use Rattle.bosh_client.proofs.laws.what_is_put_is_made_once.Goals as goal

pub returns : goal.returns
returns c = record {
  all = λ setup calls some. (client_is setup calls some).all;
  put = λ setup calls some. put_is_made setup (client_after setup calls) (client_is setup calls some);
  ids = λ setup calls some. (client_is setup calls some).ids;
}
