use Rattle.bosh_client.proofs.OpenLemmas.{few_open}
use Rattle.bosh_client.proofs.laws.few_requests_are_open.Goals as goal

pub returns : goal.returns
returns c = few_open
