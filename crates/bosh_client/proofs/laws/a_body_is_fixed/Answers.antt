use Rattle.bosh_client.proofs.RunLemmas.{copies_after, fixed_after}
use Rattle.bosh_client.proofs.laws.a_body_is_fixed.Goals as goal

pub returns : goal.returns
returns c = record { request = fixed_after; copies = copies_after }
