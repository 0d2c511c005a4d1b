use Rattle.std.proofs.Common.{arith}
use Rattle.bosh_client.proofs.PlacesLemmas.{answered_within}
use Rattle.bosh_client.proofs.exchanges.Exchanges.open_count.Goals as goal

pub overflow_sub-result : goal.overflow_sub-result
overflow_sub-result c = omega (arith, c.self.invariant.answered_is, answered_within c.self.inside.slots.items)
