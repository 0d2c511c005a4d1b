use Rattle.std.proofs.Common.{refl}
use Rattle.xmpp_backend.proofs.OpenedLemmas.{opened_held, opened_same}
use Rattle.xmpp_backend.proofs.ledger.Ledger.hold.Goals as goal

pub invariant_of-self : goal.invariant_of-self
invariant_of-self c = opened_same _ _ _ _ refl c.hold.ensures (opened_held _ _ _ c.self.invariant)
