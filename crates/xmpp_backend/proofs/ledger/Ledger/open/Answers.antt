use Rattle.std.proofs.Common.{ap, ◌∙◌}
use Rattle.xmpp_backend.specs.Told.{wires_of}
use Rattle.xmpp_backend.proofs.OpenedLemmas.{opened_opened, opened_same, wires_and}
use Rattle.xmpp_backend.proofs.ledger.Ledger.open.Goals as goal

pub invariant_of-self-2 : goal.invariant_of-self-2
invariant_of-self-2 c = opened_same _ _ _ _ (ap (λ done. wires_of done.opened) c.open-2.ensures ∙ wires_and _ c.args.wire _) c.in_ok-open.ensures.ok (opened_opened _ _ _ c.self.invariant)
