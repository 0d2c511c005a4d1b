use Rattle.std.proofs.Common.{◌≡◌, ◌∙◌, Some, None, sym, ap, subst}
use Rattle.std.specs.Result.{OnOk}
use Rattle.session_core.specs.Rules.{Asks, asked_of, broken_rule}
use Rattle.session_core.specs.StandsFor.{StandsFor}
use Rattle.session_core.specs.State.{PlainSession, answered_of}
use Rattle.session_core.proofs.ProcessLemmas.{asks_is, broken_answerable, process_broken, process_unbroken}
use Rattle.session_core.proofs.TakenUp.{next_stands}
use Rattle.session_core.proofs.session.Session.process.Goals as goal

pub returns-in-Some : goal.returns-in-Some
unfolding StandsFor
returns-in-Some c = λ plain stands next.
    let broken : broken_rule (asked_of plain) c.args.copy.now ≡ Some c.in-Some.ending =
    ap (λ (a : Asks). broken_rule a c.args.copy.now) (sym (asks_is stands)) ∙ sym c.broken_rule.ensures ∙ c.in-Some.is in
    subst (λ (p : PlainSession). OnOk c.end.result (StandsFor c.end.new.self p)) (sym (process_broken plain c.args.copy.now c.in-Some.ending broken))
    (c.end.ensures plain stands (next_stands plain c.args.copy.now next).0 (broken_answerable (answered_of plain) (asked_of plain) c.args.copy.now c.in-Some.ending broken))

pub returns-in-None : goal.returns-in-None
unfolding StandsFor
returns-in-None c = λ plain stands next.
    let unbroken : broken_rule (asked_of plain) c.args.copy.now ≡ None =
    ap (λ (a : Asks). broken_rule a c.args.copy.now) (sym (asks_is stands)) ∙ sym c.broken_rule.ensures ∙ c.in-None.is in
    subst (λ (p : PlainSession). OnOk c.accept.result (StandsFor c.accept.new.self p)) (sym (process_unbroken plain c.args.copy.now unbroken))
    (c.accept.ensures plain stands next unbroken)
