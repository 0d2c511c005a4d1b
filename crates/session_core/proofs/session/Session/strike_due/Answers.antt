use Rattle.std.proofs.Common.{◌≡◌, ◌∙◌, ◌+◌, ◌-◌, ◌≤◌, ℕ, ap, arith, sym, subst}
use Rattle.session_core.specs.Gap.{owes_errors, strike_each, struck}
use Rattle.session_core.specs.StandsFor.{StandsFor}
use Rattle.session_core.specs.State.{PlainSession, last_of}
use Rattle.session_core.proofs.StandingLemmas.{moment_is, terms_is}
use Rattle.session_core.proofs.StruckLemmas.{ahead_struck, first_struck, strike_end, strike_next, struck_none}
use Rattle.session_core.proofs.session.Session.strike_due.Goals as goal

pub returns-then-not-owes_errors_at : goal.returns-then-not-owes_errors_at
unfolding StandsFor
returns-then-not-owes_errors_at c = λ plain stands.
    let none = ap (λ (now : ℕ). owes_errors (record plain { now = now })) (sym (moment_is stands)) ∙ sym (c.owes_errors_at.ensures plain stands) ∙ c.if-not-owes_errors_at.true in
    subst (λ (p : PlainSession). StandsFor c.args.self.now p) (sym (struck_none plain none)) stands

pub loop-ahead-init : goal.loop-ahead-init
loop-ahead-init c = record { some = omega arith; few = omega arith; stands = λ plain stands. stands }

pub loop-ahead-preserved : goal.loop-ahead-preserved
unfolding StandsFor
loop-ahead-preserved c =
    let inv = c.loop-ahead.invariant in
    record {
      some = omega (arith, inv.some);
      few = omega (arith, c.end_of_window-ahead-end.ensures, c.loop-ahead-test.true);
      stands = λ plain stands.
          let few : c.loop-ahead.ahead ≤ plain.terms.requests + 1 =
          omega (arith, c.end_of_window-ahead-end.ensures, c.loop-ahead-test.true, ap (λ t. t.requests) (terms_is stands)) in
          subst (λ (p : PlainSession). StandsFor c.strike_where_due.new.self p) (strike_next plain c.loop-ahead.ahead inv.some)
          (c.in_ok-strike_where_due.ensures (strike_each (first_struck plain (c.loop-ahead.ahead - 1)) plain) (last_of plain + c.loop-ahead.ahead) (inv.stands plain stands)
          (ahead_struck plain c.loop-ahead.ahead inv.some few) c.in_ok-error.ensures);
    }

pub returns : goal.returns
unfolding StandsFor
returns c = λ plain stands.
    let inv = c.loop-ahead.invariant in
    let owes = ap (λ (now : ℕ). owes_errors (record plain { now = now })) (sym (moment_is stands)) ∙ sym (c.owes_errors_at.ensures plain stands) ∙ c.if-not-owes_errors_at.false in
    let end : c.loop-ahead.ahead ≡ plain.terms.requests + 2 =
    omega (arith, inv.few, c.end_of_window-ahead-end.ensures, c.loop-ahead-test.false, ap (λ t. t.requests) (terms_is stands)) in
    subst (λ (p : PlainSession). StandsFor c.loop-ahead.self p) (strike_end plain c.loop-ahead.ahead end owes) (inv.stands plain stands)
