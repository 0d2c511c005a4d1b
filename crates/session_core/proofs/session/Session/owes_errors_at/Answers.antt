use Rattle.std.proofs.Common.{◌≡◌, ◌∙◌, ◌+◌, ◌-◌, ◌<◌, ◌≤◌, ℕ, true, false, ap, arith, sym}
use Rattle.bosh_types.specs.declared.terms.Terms.{Terms}
use Rattle.bosh_types.specs.Rid.{greatest_rid}
use Rattle.std.specs.Prelude.{nat_le}
use Rattle.session_core.specs.Gap.{is_to_strike}
use Rattle.session_core.specs.StandsFor.{StandsFor}
use Rattle.session_core.specs.State.{PlainSession, is_over, last_of}
use Rattle.session_core.proofs.StandingLemmas.{moved, over_is, terms_is}
use Rattle.session_core.proofs.StruckLemmas.{ahead_is, never_struck, none_end, none_next, none_rid, owes_over, owes_polled, some_rid, some_struck, struck_test}
use Rattle.session_core.proofs.session.Session.owes_errors_at.Goals as goal
use Rattle.session_core.proofs.session.Session.owes_errors_at.Goals.{then-is_some-via-then-is_some, then-is_some-via-else-is_some+then-terms, in-Some+else-is_to_strike, in_default}

pub returns-then-is_some : goal.returns-then-is_some
unfolding StandsFor
returns-then-is_some c = λ plain stands. elim c.then-is_some.branch [
  | then-is_some-via-then-is_some w ↦ sym (owes_over (record plain { now = c.args.moment }) (sym (over_is stands) ∙ sym c.is_some.ensures ∙ w.if-is_some.true))
  | then-is_some-via-else-is_some+then-terms w ↦
      sym (owes_polled (record plain { now = c.args.moment }) (sym (ap (λ (t : Terms). t.polled) (terms_is stands)) ∙ sym (ap (λ (t : Terms). t.polled) w.terms.ensures) ∙ w.if-terms.true))
]

pub returns-then-is_to_strike : goal.returns-then-is_to_strike
unfolding StandsFor
returns-then-is_to_strike c = λ plain stands.
    let live : is_over plain ≡ false = sym (over_is stands) ∙ sym c.is_some.ensures ∙ c.if-is_some.false in
    let holds : plain.terms.polled ≡ false = sym (ap (λ (t : Terms). t.polled) (terms_is stands)) ∙ sym (ap (λ (t : Terms). t.polled) c.terms.ensures) ∙ c.if-terms.false in
    let some : 1 ≤ c.loop-ahead.ahead = c.loop-ahead.invariant.some in
    let few : c.loop-ahead.ahead ≤ plain.terms.requests + 1 =
    omega (arith, c.end_of_window-ahead-end.ensures, c.loop-ahead-test.true, ap (λ (t : Terms). t.requests) (terms_is stands)) in
    let rid : ℕ = last_of plain + c.loop-ahead.ahead in
    let found : c.in-Some.rid ≡ rid = some_rid (nat_le rid greatest_rid) rid c.in-Some.rid (sym (c.id_ahead.ensures plain rid stands (ahead_is plain c.loop-ahead.ahead some few)) ∙ c.in-Some.is) in
    let later : last_of plain < c.in-Some.rid = omega (arith, found, some) in
    sym (some_struck (record plain { now = c.args.moment }) c.loop-ahead.ahead some few live holds
    (sym (struck_test plain c.args.moment rid c.in-Some.rid c.is_to_strike.result found later (c.is_to_strike.ensures plain stands later)) ∙ c.if-is_to_strike.true))

pub loop-ahead-preserved : goal.loop-ahead-preserved
unfolding StandsFor
loop-ahead-preserved c =
    let some : 1 ≤ c.loop-ahead.ahead = c.loop-ahead.invariant.some in
    record {
      some = omega (arith, some);
      few = omega (arith, c.end_of_window-ahead-end.ensures, c.loop-ahead-test.true);
      none = λ plain stands.
          let few : c.loop-ahead.ahead ≤ plain.terms.requests + 1 =
          omega (arith, c.end_of_window-ahead-end.ensures, c.loop-ahead-test.true, ap (λ (t : Terms). t.requests) (terms_is stands)) in
          let rid : ℕ = last_of plain + c.loop-ahead.ahead in
          let told = c.id_ahead.ensures plain rid stands (ahead_is plain c.loop-ahead.ahead some few) in
          let none : is_to_strike (record plain { now = c.args.moment }) rid ≡ false = elim c.match-id_ahead.branch [
            | in-Some+else-is_to_strike w ↦
                let found : w.in-Some.rid ≡ rid = some_rid (nat_le rid greatest_rid) rid w.in-Some.rid (sym told ∙ w.in-Some.is) in
                let later : last_of plain < w.in-Some.rid = omega (arith, found, some) in
                sym (struck_test plain c.args.moment rid w.in-Some.rid w.is_to_strike.result found later (w.is_to_strike.ensures plain stands later)) ∙ w.if-is_to_strike.false
            | in_default w ↦ never_struck rid (moved c.args.moment stands) (none_rid (nat_le rid greatest_rid) rid (sym told ∙ w.in_default.is))
          ] in
          none_next (record plain { now = c.args.moment }) c.loop-ahead.ahead some (c.loop-ahead.invariant.none plain stands) none;
    }

pub returns : goal.returns
unfolding StandsFor
returns c = λ plain stands.
    let live : is_over plain ≡ false = sym (over_is stands) ∙ sym c.is_some.ensures ∙ c.if-is_some.false in
    let holds : plain.terms.polled ≡ false = sym (ap (λ (t : Terms). t.polled) (terms_is stands)) ∙ sym (ap (λ (t : Terms). t.polled) c.terms.ensures) ∙ c.if-terms.false in
    let end : c.loop-ahead.ahead ≡ plain.terms.requests + 2 =
    omega (arith, c.loop-ahead.invariant.few, c.end_of_window-ahead-end.ensures, c.loop-ahead-test.false, ap (λ (t : Terms). t.requests) (terms_is stands)) in
    sym (none_end (record plain { now = c.args.moment }) c.loop-ahead.ahead end live holds (c.loop-ahead.invariant.none plain stands))
