use Rattle.bosh_client.proofs.CarriedLemmas.{requests_carry}
use Rattle.bosh_client.proofs.laws.requests_carry_what_they_took.Goals as goal

pub returns : goal.returns
returns c = requests_carry
