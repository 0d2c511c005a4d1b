use Rattle.std.proofs.Common.{refl}
use Rattle.xmpp_backend.proofs.OpenedLemmas.{opened_resumed, opened_same}
use Rattle.xmpp_backend.proofs.ledger.Ledger.resume.Goals as goal

pub invariant_of-self : goal.invariant_of-self
invariant_of-self c = opened_same _ _ _ _ refl c.resume.ensures (opened_resumed _ _ _ c.self.invariant)
