use Rattle.std.proofs.Common.{ap}
use Rattle.xmpp_backend.specs.Told.{wires_of}
use Rattle.xmpp_backend.proofs.OpenedLemmas.{opened_owes_all, opened_same}
use Rattle.xmpp_backend.proofs.ledger.Ledger.pass_for.Goals as goal

pub invariant_of-self-2 : goal.invariant_of-self-2
invariant_of-self-2 c = opened_same _ _ _ _ (ap (λ done. wires_of done.opened) c.pass.ensures) c.in_ok-put_all.ensures.ok (opened_owes_all _ c.args.stanzas.items _ c.self.invariant)
