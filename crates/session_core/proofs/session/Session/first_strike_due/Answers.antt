use Rattle.std.proofs.Common.{◌≡◌, ◌∙◌, ◌+◌, ◌-◌, ◌<◌, ◌≤◌, ◌^◌, ℕ, Option, ap, arith, sym, subst}
use Rattle.std.specs.Prelude.{IfSome}
use Rattle.bosh_types.specs.declared.terms.Terms.{Terms}
use Rattle.session_core.specs.StandsFor.{StandsFor}
use Rattle.session_core.specs.State.{PlainSession, last_of}
use Rattle.session_core.proofs.DueLemmas.{IsFirst, any_struck, earlier_small, first_strike, strikes_more}
use Rattle.session_core.proofs.StandingLemmas.{terms_is}
use Rattle.session_core.proofs.StruckLemmas.{ahead_is}
use Rattle.session_core.proofs.session.Session.first_strike_due.Goals as goal

pub loop-ahead-preserved : goal.loop-ahead-preserved
unfolding StandsFor
loop-ahead-preserved c =
    let some : 1 ≤ c.loop-ahead.ahead = c.loop-ahead.invariant.some in
    record {
      some = omega (arith, some);
      few = omega (arith, c.end_of_window-ahead-end.ensures, c.loop-ahead-test.true);
      small = subst (λ (o : Option ℕ). IfSome o (λ moment. moment < 2 ^ 64)) (sym c.earlier_of-first.ensures)
          (earlier_small c.loop-ahead.first c.strike_due_at.result c.loop-ahead.invariant.small c.strike_due_at.ensures.small);
      first = λ plain stands.
          let few : c.loop-ahead.ahead ≤ plain.terms.requests + 1 =
          omega (arith, c.end_of_window-ahead-end.ensures, c.loop-ahead-test.true, ap (λ (t : Terms). t.requests) (terms_is stands)) in
          let count : c.loop-ahead.ahead - 1 + 1 ≡ c.loop-ahead.ahead + 1 - 1 = omega (arith, some) in
          subst (λ (n : ℕ). IsFirst (any_struck plain n) c.earlier_of-first.result) count
          (subst (IsFirst (any_struck plain (c.loop-ahead.ahead - 1 + 1))) (sym c.earlier_of-first.ensures)
          (strikes_more plain (c.loop-ahead.ahead - 1) (last_of plain + c.loop-ahead.ahead) c.loop-ahead.first c.strike_due_at.result (omega (arith, some)) (c.loop-ahead.invariant.first plain stands)
          (record {
            first_is = c.strike_due_at.ensures.first plain (last_of plain + c.loop-ahead.ahead) stands (ahead_is plain c.loop-ahead.ahead some few);
            small = c.strike_due_at.ensures.small;
          })));
    }

pub returns-clause-first : goal.returns-clause-first
unfolding StandsFor
returns-clause-first c = λ plain stands on holds.
    let count : c.loop-ahead.ahead - 1 ≡ plain.terms.requests + 1 =
    omega (arith, c.loop-ahead.invariant.few, c.end_of_window-ahead-end.ensures, c.loop-ahead-test.false, ap (λ (t : Terms). t.requests) (terms_is stands)) in
    (first_strike plain c.loop-ahead.first on holds (subst (λ (n : ℕ). IsFirst (any_struck plain n) c.loop-ahead.first) count (c.loop-ahead.invariant.first plain stands))).first_is
