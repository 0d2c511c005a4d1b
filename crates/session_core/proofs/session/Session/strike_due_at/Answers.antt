use Rattle.std.proofs.Common.{◌≡◌, ◌∙◌, ◌+◌, ◌<◌, ℕ, Option, None, Some, ap, arith, sym, subst}
use Rattle.std.specs.Option.{option_copied}
use Rattle.std.specs.Prelude.{nat_le}
use Rattle.bosh_types.specs.Rid.{greatest_rid}
use Rattle.pause_rules.specs.Due.{IsFirstMoment, is_gap_due}
use Rattle.session_core.specs.declared.copy.RequestCopy.{RequestCopy}
use Rattle.session_core.specs.Gap.{is_to_strike}
use Rattle.session_core.specs.StandsFor.{Alike, StandsFor}
use Rattle.session_core.specs.State.{PlainSession, last_of, standing_at}
use Rattle.session_core.proofs.DueLemmas.{strike_at, strike_at_none}
use Rattle.session_core.proofs.StandingLemmas.{moved}
use Rattle.session_core.proofs.StruckLemmas.{at_later, never_struck, none_rid, some_rid}
use Rattle.session_core.proofs.session.Session.strike_due_at.Goals as goal

pub returns-in_err-rid-clause-first : goal.returns-in_err-rid-clause-first
unfolding StandsFor
returns-in_err-rid-clause-first c = λ plain rid stands ahead.
    let beyond = none_rid (nat_le rid greatest_rid) rid (sym (c.id_ahead.ensures plain rid stands ahead) ∙ c.in_err-rid.was) in
    subst (IsFirstMoment (λ now. is_to_strike (record plain { now = now }) rid)) (sym c.from_residual.ensures) (λ moment small. never_struck rid (moved moment stands) beyond)

pub returns-in_err-copy-clause-first : goal.returns-in_err-copy-clause-first
unfolding StandsFor
returns-in_err-copy-clause-first c = λ plain rid stands ahead.
    let found : c.in_ok-rid.rid ≡ rid = some_rid (nat_le rid greatest_rid) rid c.in_ok-rid.rid (sym (c.id_ahead.ensures plain rid stands ahead) ∙ c.in_ok-rid.was) in
    let later : last_of plain < c.in_ok-rid.rid = omega (arith, found, ahead.some, ahead.is) in
    let none : standing_at plain rid ≡ None =
    ap (standing_at plain) (sym found) ∙ sym (at_later c.in_ok-rid.rid stands later) ∙ sym (c.at.ensures _ stands.window.stands) ∙ ap option_copied c.in_err-copy.was in
    subst (IsFirstMoment (λ now. is_to_strike (record plain { now = now }) rid)) (sym c.from_residual-in_err-copy.ensures) (λ moment small. strike_at_none plain rid none moment)

pub returns-clause-first : goal.returns-clause-first
unfolding StandsFor
returns-clause-first c = λ plain rid stands ahead.
    let found : c.in_ok-rid.rid ≡ rid = some_rid (nat_le rid greatest_rid) rid c.in_ok-rid.rid (sym (c.id_ahead.ensures plain rid stands ahead) ∙ c.in_ok-rid.was) in
    let later : last_of plain < c.in_ok-rid.rid = omega (arith, found, ahead.some, ahead.is) in
    let there : standing_at plain rid ≡ Some c.in_ok-copy.copy.now =
    ap (standing_at plain) (sym found) ∙ sym (at_later c.in_ok-rid.rid stands later) ∙ sym (c.at.ensures _ stands.window.stands) ∙ ap option_copied c.in_ok-copy.was in
    strike_at plain rid c.in_ok-copy.copy.now c.gap_due_at.result (omega (arith, ahead.some, ahead.is)) there
    (subst (λ (a : Alike). IsFirstMoment (is_gap_due a.pace.terms a.gap_waits c.in_ok-copy.copy.now.arrived) c.gap_due_at.result) stands.alike
    (subst (λ (copy : RequestCopy). IsFirstMoment (is_gap_due c.args.self.now.deadlines.terms c.args.self.now.gap_waits copy.arrived) c.gap_due_at.result) c.get.ensures c.gap_due_at.ensures.first))
