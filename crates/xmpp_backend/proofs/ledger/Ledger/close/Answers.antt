use Rattle.std.proofs.Common.{ap}
use Rattle.xmpp_backend.specs.Told.{wires_of}
use Rattle.xmpp_backend.proofs.OpenedLemmas.{opened_closed, opened_same}
use Rattle.xmpp_backend.proofs.ledger.Ledger.close.Goals as goal

pub invariant_of-self : goal.invariant_of-self
invariant_of-self c = opened_same _ _ _ _ (ap (λ done. wires_of done.opened) c.close-2.ensures) c.close.ensures (opened_closed _ _ _ c.self.invariant)
