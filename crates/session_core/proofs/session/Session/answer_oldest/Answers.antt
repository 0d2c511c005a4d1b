use Rattle.std.proofs.Common.{◌≡◌, ◌∙◌, Some, None, sym, ap, subst}
use Rattle.std.specs.Result.{OnOk}
use Rattle.session_core.specs.declared.held.HeldRequest.{HeldRequest}
use Rattle.session_core.specs.Answers.{answer_oldest, front_for, with_answer}
use Rattle.bosh_types.specs.declared.ending.Ending.TheVariants.{Closed}
use Rattle.session_core.specs.Copy.{id_of}
use Rattle.session_core.specs.Endings.{ended}
use Rattle.session_core.specs.StandsFor.{StandsFor, held_of}
use Rattle.session_core.specs.State.{PlainSession}
use Rattle.session_core.proofs.AnsweredLemmas.{closed_none, closed_some, held_some, some_same}
use Rattle.session_core.proofs.session.Session.answer_oldest.Goals as goal

pub returns-in_default : goal.returns-in_default
unfolding StandsFor
returns-in_default c = λ plain stands reason.
    let some = held_some stands reason in
    let none : None ≡ Some (held_of some.0) = sym c.in_default.is ∙ c.oldest.ensures ∙ some.4 in
    absurd (cc)

pub returns-in-None : goal.returns-in-None
unfolding StandsFor
returns-in-None c = λ plain stands reason.
    let some = held_some stands reason in
    let same : c.in-Some.oldest ≡ held_of some.0 = some_same (sym c.in-Some.is ∙ c.oldest.ensures ∙ some.4) in
    let done = c.in_ok-answer.ensures plain some.0 some.1 stands some.2 some.3 same in
    subst (λ (p : PlainSession). StandsFor c.answer.new.self p)
    (sym (ap (answer_oldest plain) some.2 ∙ closed_none (id_of some.0.copy) (front_for plain some.0) (with_answer plain some.0 (front_for plain some.0)) (sym c.in-None.is ∙ done.closing_is)))
    done.after

pub returns-in-Some-2 : goal.returns-in-Some-2
unfolding StandsFor
returns-in-Some-2 c = λ plain stands reason.
    let some = held_some stands reason in
    let same : c.in-Some.oldest ≡ held_of some.0 = some_same (sym c.in-Some.is ∙ c.oldest.ensures ∙ some.4) in
    let done = c.in_ok-answer.ensures plain some.0 some.1 stands some.2 some.3 same in
    let closed = c.close.ensures (with_answer plain some.0 (front_for plain some.0)) done.after some.3 in
    subst (λ (p : PlainSession). OnOk c.close.result (StandsFor c.close.new.self p))
    (sym (ap (answer_oldest plain) some.2 ∙ closed_some (id_of some.0.copy) (front_for plain some.0) (with_answer plain some.0 (front_for plain some.0)) c.in-Some-2.closing (sym c.in-Some-2.is ∙ done.closing_is)
    ∙ ap (λ (r : HeldRequest). ended (Closed c.in-Some-2.closing r.rid) (with_answer plain some.0 (front_for plain some.0))) (sym same)))
    closed
