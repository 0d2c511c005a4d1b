use Rattle.std.proofs.Common.{◌∙◌, ℕ, ap, sym, subst, arith, Some}
use Rattle.pause_rules.specs.Due.{IsFirstMoment}
use Rattle.session_core.specs.Time.{is_due}
use Rattle.session_core.specs.StandsFor.{StandsFor}
use Rattle.session_core.proofs.DueLemmas.{due_over, due_struck, holds_beyond}
use Rattle.session_core.proofs.StandingLemmas.{over_is}
use Rattle.session_core.proofs.session.Session.due.Goals as goal

pub returns-then-is_due : goal.returns-then-is_due
unfolding StandsFor
returns-then-is_due c = λ plain stands.
    subst (λ (m : ℕ). IsFirstMoment (is_due plain) (Some m)) (sym c.from_millis-start.ensures)
    (ap (is_due plain) (sym c.from_millis-start.ensures) ∙ (sym (c.is_due.ensures plain stands) ∙ c.if-is_due.true), λ other holds. omega arith)

pub returns-then-is_some : goal.returns-then-is_some
unfolding StandsFor
returns-then-is_some c = λ plain stands. λ moment small. due_over plain moment (sym (over_is stands) ∙ sym c.is_some.ensures ∙ c.if-is_some.true)

pub returns-then-owes_nothing_beyond : goal.returns-then-owes_nothing_beyond
unfolding StandsFor
returns-then-owes_nothing_beyond c = λ plain stands.
    c.due_within.ensures plain stands (sym (over_is stands) ∙ sym c.is_some.ensures ∙ c.if-is_some.false)
    (sym (c.owes_nothing_beyond.ensures plain stands) ∙ c.if-owes_nothing_beyond.true)
    (ap (is_due plain) (sym c.from_millis-start.ensures) ∙ (sym (c.is_due.ensures plain stands) ∙ c.if-is_due.false))

pub returns : goal.returns
unfolding StandsFor
returns c = λ plain stands.
    let on = sym (over_is stands) ∙ sym c.is_some.ensures ∙ c.if-is_some.false in
    let owes = sym (c.owes_nothing_beyond.ensures plain stands) ∙ c.if-owes_nothing_beyond.false in
    subst (IsFirstMoment (is_due plain)) (sym c.earlier_of.ensures)
    (due_struck stands on owes (ap (is_due plain) (sym c.from_millis-start.ensures) ∙ (sym (c.is_due.ensures plain stands) ∙ c.if-is_due.false))
    c.first_wait_due.result c.first_strike_due.result
    (record { first_is = c.first_wait_due.ensures.first; small = c.first_wait_due.ensures.small })
    (record { first_is = c.first_strike_due.ensures.first plain stands on (holds_beyond plain owes); small = c.first_strike_due.ensures.small }))
