use Rattle.std.proofs.Common.{◌≡◌, ◌∙◌, ◌+◌, ◌<◌, ℕ, true, false, ap, arith, sym, subst}
use Rattle.std.specs.Prelude.{OnOk, nat_le}
use Rattle.bosh_types.specs.Rid.{greatest_rid}
use Rattle.session_core.specs.Gap.{is_to_strike, strike}
use Rattle.session_core.specs.StandsFor.{StandsFor}
use Rattle.session_core.specs.State.{PlainSession, last_of}
use Rattle.session_core.proofs.StandingLemmas.{moment_is}
use Rattle.session_core.proofs.StruckLemmas.{left_alone, never_struck, none_rid, some_rid, struck_now, struck_test}
use Rattle.session_core.proofs.session.Session.strike_where_due.Goals as goal

pub returns-in_default : goal.returns-in_default
unfolding StandsFor
returns-in_default c = λ plain rid stands ahead text.
    subst (λ (p : PlainSession). StandsFor c.args.self.now p)
    (left_alone plain rid (never_struck rid stands (none_rid (nat_le rid greatest_rid) rid (sym (c.id_ahead.ensures plain rid stands ahead) ∙ c.in_default.is)))) stands

pub returns-then-not-is_to_strike : goal.returns-then-not-is_to_strike
unfolding StandsFor
returns-then-not-is_to_strike c = λ plain rid stands ahead text.
    let found : c.in-Some.rid ≡ rid = some_rid (nat_le rid greatest_rid) rid c.in-Some.rid (sym (c.id_ahead.ensures plain rid stands ahead) ∙ c.in-Some.is) in
    let later : last_of plain < c.in-Some.rid = omega (arith, found, ahead.some, ahead.is) in
    let none : is_to_strike plain rid ≡ false =
    ap (λ (now : ℕ). is_to_strike (record plain { now = now }) rid) (sym (moment_is stands))
    ∙ sym (struck_test plain c.args.self.now.moment rid c.in-Some.rid c.is_to_strike.result found later (c.is_to_strike.ensures plain stands later)) ∙ c.if-not-is_to_strike.true in
    subst (λ (p : PlainSession). StandsFor c.args.self.now p) (left_alone plain rid none) stands

pub returns : goal.returns
unfolding StandsFor
returns c = λ plain rid stands ahead text.
    let found : c.in-Some.rid ≡ rid = some_rid (nat_le rid greatest_rid) rid c.in-Some.rid (sym (c.id_ahead.ensures plain rid stands ahead) ∙ c.in-Some.is) in
    let later : last_of plain < c.in-Some.rid = omega (arith, found, ahead.some, ahead.is) in
    let due : is_to_strike plain rid ≡ true =
    ap (λ (now : ℕ). is_to_strike (record plain { now = now }) rid) (sym (moment_is stands))
    ∙ sym (struck_test plain c.args.self.now.moment rid c.in-Some.rid c.is_to_strike.result found later (c.is_to_strike.ensures plain stands later)) ∙ c.if-not-is_to_strike.false in
    subst (λ (p : PlainSession). OnOk c.strike.result (StandsFor c.strike.new.self p))
    (ap (strike plain) found ∙ struck_now plain rid due)
    (c.strike.ensures plain stands (subst (λ (r : ℕ). is_to_strike plain r ≡ true) (sym found) due) text)
