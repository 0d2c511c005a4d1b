use Rattle.std.proofs.Common.{List, ap, refl, subst, sym, ◌∙◌, ℕ}
use Rattle.std.specs.Prelude.{Contains}
use Rattle.xmpp_backend.specs.Told.{wires_of}
use Rattle.xmpp_backend.proofs.OpenedLemmas.{gives_opened, opened_first, opened_same}
use Rattle.xmpp_backend.proofs.ledger.Ledger.poll.Goals as goal

pub invariant_of-self-in-Some : goal.invariant_of-self-in-Some
invariant_of-self-in-Some c =
    opened_same _ _ _ _ (ap (λ done. wires_of done.opened) c.give.ensures) refl (opened_first _ _ _ c.in-Some.due c.in-Some.ensures.owed c.pop.ensures.same c.self.invariant).1

pub returns-in-Some-clause-opened : goal.returns-in-Some-clause-opened
returns-in-Some-clause-opened c =
    let on : Contains (wires_of c.self.inside.lists.opened) c.in-Some.due.0 = (opened_first _ _ _ c.in-Some.due c.in-Some.ensures.owed c.pop.ensures.same c.self.invariant).0 in
    gives_opened c.args.self.now _ _ _ c.polled_on.ensures.stanza c.polled_on.ensures.closed
    (subst (λ n. Contains (wires_of c.args.self.now.done.opened) n) (sym c.into_parts-wire.ensures.wire) (subst (λ (o : List ℕ). Contains o c.in-Some.due.0) (ap (λ l. wires_of l.done.opened) c.self.view_is) on))
