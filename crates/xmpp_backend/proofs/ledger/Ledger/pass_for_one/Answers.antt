use Rattle.std.proofs.Common.{ap}
use Rattle.xmpp_backend.specs.Told.{wires_of}
use Rattle.xmpp_backend.proofs.OpenedLemmas.{opened_owes, opened_same}
use Rattle.xmpp_backend.proofs.ledger.Ledger.pass_for_one.Goals as goal

pub invariant_of-self-in-Some : goal.invariant_of-self-in-Some
invariant_of-self-in-Some c = opened_same _ _ _ _ (ap (λ done. wires_of done.opened) c.pass.ensures) c.in_ok-put_one.ensures.ok (opened_owes _ (c.args.wire, c.in-Some.stanza) _ c.self.invariant)
