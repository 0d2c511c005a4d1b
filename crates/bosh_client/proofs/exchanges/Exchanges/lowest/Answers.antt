use Rattle.std.proofs.Common.{arith}
use Rattle.bosh_client.proofs.PlacesLemmas.{answered_within}
use Rattle.bosh_client.proofs.exchanges.Exchanges.lowest.Goals as goal

pub overflow_add-result : goal.overflow_add-result
overflow_add-result c = omega (arith, c.self.invariant.within, c.self.invariant.answered_is, answered_within c.self.inside.slots.items)
