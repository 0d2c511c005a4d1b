-- No copy beyond a gap is left that has waited its time.
use Rattle.std.proofs.Common.{◌≡◌, ◌≢◌, ℕ, zero, suc, ◌+◌, ◌*◌, ◌<◌, ◌≤◌, ◌==◌, ◌&&◌, ◌||◌, Bool, true, false, not, List, [], ◌∷◌, ◌++◌, map, filter, min, Option, Some, None, nat_le, nat_lt, slice_get, is_some, length, refl, sym, ◌∙◌, ap, arith, subst, if◌then◌else◌, inl, inr}
use Rattle.std.proofs.lemmas.Bool.{cases_eq, cases_lt}
use Rattle.std.proofs.lemmas.Bool.Decides.{nat_tests}
use Rattle.std.proofs.lemmas.List.{length_push}
use Rattle.bosh_types.specs.ById.{at_id}
use Rattle.bosh_types.specs.declared.terms.Terms.{Terms}
use Rattle.session_attrs.specs.Terms.{asked_hold, asked_wait, is_polling, terms_of}
use Rattle.session_attrs.specs.declared.request.Creation.{Creation}
use Rattle.session_core.specs.declared.copy.RequestCopy.{RequestCopy}
use Rattle.session_core.specs.declared.opening.Opening.{Opening}
use Rattle.session_core.specs.Answers.{has_reason, settled}
use Rattle.session_core.specs.Copy.{id_of, with_id}
use Rattle.session_core.specs.Gap.{has_waited, ids_ahead, ids_to_strike, is_to_strike, owes_errors, strike, strike_each, struck}
use Rattle.session_core.specs.Journal.{IsJournal, IsOpening, Journal, state_of}
use Rattle.session_core.specs.Machine.{as_processed, opened, advanced, placed}
use Rattle.session_core.specs.Placed.{AreStruckAt, AreStruckBy}
use Rattle.session_core.specs.State.{PlainSession, held, last_of, standing, standing_at, is_over}
use Rattle.session_core.specs.Time.{at_moment, is_due, is_silent, silenced, time_applied}
use Rattle.session_core.proofs.SettleLemmas.{settle_stop}
use Rattle.session_core.proofs.StruckLemmas.{standing_none, standing_placed, still_none, struck_before}
use Rattle.session_laws.proofs.EndsBack.{over_or_on}
use Rattle.session_laws.proofs.Grows.{steady-all}
use Rattle.session_laws.proofs.Lists.{standing_now, standing_other as push_other}
use Rattle.session_laws.proofs.Moves.{Answering, Processing, Steady, settled-by, advanced-by}
use Rattle.session_laws.proofs.Phases.{Phases, phase-entry}
use Rattle.session_laws.proofs.PlacedLemmas.{IsPlain, IsWithin, every_plain, none_struck, within_phases, is_chosen}
use Rattle.session_laws.proofs.Steps.{along}
use Rattle.session_laws.proofs.Steadily.{steady-advanced, steady-settled, steady-time, is_none}
use Rattle.session_laws.proofs.Tests.{either, neither, none_some, not_both, some_is, split, true_false}

-- a copy beyond the gap has time left, in a session that goes on and doesn't poll
abbrev pub IsFresh : PlainSession → Type 0
IsFresh s = is_over s ≡ false → s.terms.polled ≡ false → (rid : ℕ) (copy : RequestCopy) → last_of s < rid → standing_at s rid ≡ Some copy
    → s.now < copy.arrived + s.gap_waits * (s.terms.wait * 1000)

-- a session that doesn't poll lets a copy wait for some time
abbrev pub IsPatient : PlainSession → Type 0
IsPatient s = s.terms.polled ≡ false → 1 ≤ s.gap_waits * (s.terms.wait * 1000)

patient_steady : Steady IsPatient
patient_steady = record {
  ends = λ t ending on p. p;
  aside = λ t tickets now last_arrival passed counted p. p;
  answers = λ t oldest later front is on reason taken p. p;
  processes = λ t copy on stands broken p. p;
  stands = λ t copy above none small p. p;
  strikes = λ t rid on is p. p;
  gives = λ t item p. p;
}

some_wait : (creation : Creation) → (terms_of creation).polled ≡ false → 1 ≤ (terms_of creation).wait
unfolding terms_of
some_wait creation holds =
    let both = neither (asked_wait creation == 0) (asked_hold creation == 0) holds in
    waits (is_polling creation) (asked_wait creation) holds (not_zero (asked_wait creation) both.0)
  where
    not_zero : (n : ℕ) → (n == 0) ≡ false → 1 ≤ n
    not_zero n is = grind (arith, nat_tests, is)

    waits : (polls : Bool) (asked : ℕ) → polls ≡ false → 1 ≤ asked → 1 ≤ (if polls then 0 else min asked 120)
    waits true asked polls some = absurd (true_false polls)
    waits false asked polls some = omega (arith, some)

product : (a b : ℕ) → 1 ≤ a → 1 ≤ b → 1 ≤ a * (b * 1000)
product zero b some also = absurd (omega (arith, some))
product (suc a) b some also = omega (arith, also)

opened_patient : (o : Opening) → IsOpening o → IsPatient (opened o)
opened_patient o is holds =
    let creation : Creation = is.creation.0 in
    let same : o.terms ≡ terms_of creation = is.creation.2 in
    product o.gap_waits o.terms.wait (is.gap).0
    (subst (λ (t : Terms). 1 ≤ t.wait) (sym same) (some_wait creation (sym (ap (λ (t : Terms). t.polled) same) ∙ holds)))

every_patient : (journal : Journal) → IsJournal journal → IsPatient (state_of journal)
every_patient journal made = steady-all IsPatient patient_steady (opened journal.opening) journal.entries made.1 (opened_patient journal.opening made.0)

-- What was struck is gone.

none_each : (rids : List ℕ) (s : PlainSession) (rid : ℕ) → standing_at s rid ≡ None → standing_at (strike_each rids s) rid ≡ None
none_each [] s rid none = none
none_each (other ∷ rids) s rid none = none_each rids (strike s other) rid (still_none s other rid none)

gone : (rids : List ℕ) (s : PlainSession) (k rid : ℕ) → slice_get rids k ≡ Some rid → standing_at (strike_each rids s) rid ≡ None
gone [] s k rid at = absurd (none_some None rid refl at)
gone (other ∷ rids) s zero rid at =
    let same : other ≡ rid = cc in
    none_each rids (strike s other) rid (ap (λ (r : ℕ). standing_at (strike s r) rid) same ∙ standing_none s rid)
gone (other ∷ rids) s (suc k) rid at = gone rids (strike s other) k rid at

before_each : (rids : List ℕ) (s : PlainSession) (rid : ℕ) (copy : RequestCopy) → standing_at (strike_each rids s) rid ≡ Some copy → standing_at s rid ≡ Some copy
before_each [] s rid copy at = at
before_each (other ∷ rids) s rid copy at = struck_before s other rid copy (before_each rids (strike s other) rid copy at)

-- a strike leaves these as they were
each_same : (rids : List ℕ) (s : PlainSession) → strike_each rids s ≡ record s { placings = (strike_each rids s).placings; tickets = (strike_each rids s).tickets }
each_same [] s = refl
each_same (rid ∷ rids) s = each_same rids (strike s rid)

-- one that is to be struck is among those that are
among : (s : PlainSession) (rid : ℕ) (copy : RequestCopy) → IsWithin s → is_over s ≡ false → s.terms.polled ≡ false → last_of s < rid → standing_at s rid ≡ Some copy
    → copy.arrived + s.gap_waits * (s.terms.wait * 1000) ≤ s.now → (k : ℕ) × (slice_get (ids_to_strike s) k ≡ Some rid)
among s rid copy within on holds later at due =
    split (λ (rids : List ℕ). (k : ℕ) × (slice_get rids k ≡ Some rid)) (is_over s || s.terms.polled) [] (filter (is_to_strike s) (ids_ahead s))
    (λ never. absurd (elim (either (is_over s) s.terms.polled never) [
      | inl over ↦ true_false (sym over ∙ on)
      | inr polls ↦ true_false (sym polls ∙ holds)
    ]))
    (λ goes. is_chosen (is_to_strike s) (last_of s + 1) (s.terms.requests + 1) rid passes (omega (arith, later)) (omega (arith, within rid copy at)))
  where
    passes : is_to_strike s rid ≡ true
    passes =
        let beyond : nat_lt (last_of s) rid ≡ true = grind (arith, nat_tests, later) in
        let waited : nat_le (copy.arrived + s.gap_waits * (s.terms.wait * 1000)) s.now ≡ true = grind (arith, nat_tests, due) in
        ap (λ (b : Bool). b && has_waited s (standing_at s rid)) beyond ∙ ap (has_waited s) at ∙ waited

-- those that are left have time left
left_fresh : (s : PlainSession) → IsWithin s → IsFresh (struck s)
left_fresh s within = subst IsFresh (sym (each_same (ids_to_strike s) s)) (λ on holds rid copy later at.
    elim (cases_lt s.now (copy.arrived + s.gap_waits * (s.terms.wait * 1000))) [
      | inl less ↦ less
      | inr due ↦
          absurd (none_some (standing_at (strike_each (ids_to_strike s) s) rid) copy
          (let here = among s rid copy within on holds later (before_each (ids_to_strike s) s rid copy at) due in gone (ids_to_strike s) s here.0 rid here.1) at)
    ])

over_fresh : (s : PlainSession) → is_over s ≡ true → IsFresh s
over_fresh s over on = absurd (over_or_on s over on)

fresh_answering : Answering IsFresh
fresh_answering = record {
  gives = λ s oldest later front is on reason due other p. p;
  closes = λ s oldest later stream closing is on reason due last p goes. absurd (true_false goes);
}

fresh_processing : Processing IsFresh
fresh_processing = record {
  processes = λ s copy on stands broken further p goes holds rid found later at. p goes holds rid found (omega (arith, later, length_push s.processed (as_processed s copy))) at;
  terminates = λ s copy on stands broken last p goes. absurd (true_false goes);
  breaks = λ s copy ending on stands broken p goes. absurd (true_false goes);
}

time_left : (now arrived span : ℕ) → arrived ≡ now → 1 ≤ span → now < arrived + span
time_left now arrived span same some = omega (arith, same, some)

-- a copy that arrives has all its time left
placed_fresh : (t : PlainSession) (copy : RequestCopy) → standing_at t (id_of copy) ≡ None → copy.arrived ≡ t.now → IsPatient t → IsFresh t → IsFresh (placed t copy)
placed_fresh t copy none now patient p on holds rid found later at =
    let there : at_id (map with_id (standing t ++ copy ∷ [])) rid ≡ Some found = ap (λ (copies : List RequestCopy). at_id (map with_id copies) rid) (sym (standing_placed t copy)) ∙ at in
    elim (cases_eq rid (id_of copy)) [
      | inl same ↦
          let is : copy ≡ found =
          some_is copy found (sym (standing_now (standing t) copy none) ∙ ap (at_id (map with_id (standing t ++ copy ∷ []))) (sym same) ∙ there) in
          time_left t.now found.arrived (t.gap_waits * (t.terms.wait * 1000)) (ap (λ (c : RequestCopy). c.arrived) (sym is) ∙ now) (patient holds)
      | inr other ↦ p on holds rid found later (sym (push_other (standing t) copy rid other) ∙ there)
    ]

-- Along a journal.

abbrev pub IsTimely : PlainSession → Type 0
IsTimely s = IsWithin s × IsPatient s × IsFresh s

silenced_fresh : (s : PlainSession) → IsFresh s → IsFresh (silenced s)
silenced_fresh s p = split IsFresh (not (is_over s) && is_silent s) _ s (λ silent goes. absurd (true_false goes)) (λ other. p)

time_timely : (s : PlainSession) (now : ℕ) → is_over s ≡ false → IsTimely s → IsTimely (time_applied s now)
time_timely s now on p =
    let u : PlainSession = settled (at_moment s now) in (
      within_phases.time s now on p.0,
      (steady-time IsPatient patient_steady s now p.1),
      silenced_fresh (struck u) (left_fresh u (within_phases.settles (at_moment s now) p.0)),
    )

timely_phases : Phases IsTimely
timely_phases = record {
  time = time_timely;
  settles = λ s p. (within_phases.settles s p.0, steady-settled IsPatient patient_steady s p.1, settled-by IsFresh fresh_answering s p.2);
  places = λ t copy on later new within small now p.
      let apart = neither (nat_le (id_of copy) (last_of t)) (is_some (standing_at t (id_of copy))) new in (
        within_phases.places t copy on later new within small now p.0,
        steady-advanced IsPatient patient_steady (placed t copy) p.1,
        advanced-by IsFresh fresh_processing (placed t copy) (placed_fresh t copy (is_none (standing_at t (id_of copy)) apart.1) now p.1 p.2),
      );
  reopens = λ t tickets on p. p;
  ends = λ t ending on p. (p.0, p.1, λ goes. absurd (true_false goes));
  gives = λ t item p. p;
  aside = λ t tickets passed counted p. p;
}

every_timely : (journal : Journal) → IsJournal journal → IsTimely (state_of journal)
every_timely journal made = along (opened journal.opening) (λ past s. IsTimely s) (λ past s entry may same p. phase-entry IsTimely timely_phases s entry.entered may p) journal.entries made.1
    ((λ rid copy at. absurd (none_some None copy refl at)), opened_patient journal.opening made.0, (λ on holds rid copy later at. absurd (none_some None copy refl at)))

less_not : (now due : ℕ) → now < due → due ≤ now → ⊥
less_not now due less more = absurd (omega (arith, less, more))

-- no copy is left that should have been struck
pub every_struck : (journal : Journal) → IsJournal journal → AreStruckAt (state_of journal) []
every_struck journal made = record {
  rising = λ k low high at next. absurd (none_some None low refl at);
  each = λ rid. (
    λ among_none. absurd (none_some None rid refl among_none.1),
    λ c.
        let s : PlainSession = state_of journal in
        absurd (less_not s.now (c.0.arrived + s.gap_waits * (s.terms.wait * 1000))
        ((every_timely journal made).2 c.1.goes_on c.1.holds rid c.0 c.1.beyond ((every_plain journal made).1.back rid c.0 c.1.received)) c.1.waited),
  );
}

-- where time changes nothing at a moment, nothing would be struck at it
pub quiet_struck : (s : PlainSession) (now : ℕ) → IsPlain s → is_over s ≡ false → is_due s now ≡ false → AreStruckBy s now []
quiet_struck s now p on quiet =
    let t : PlainSession = at_moment s now in
    let none = neither (has_reason t || owes_errors t) (is_silent t) (not_both (not (is_over s)) ((has_reason t || owes_errors t) || is_silent t) (ap not on) quiet) in
    let both = neither (has_reason t) (owes_errors t) none.0 in
    subst (λ (u : PlainSession). AreStruckAt u []) (sym (settle_stop (length (held t)) t both.0)) (none_struck t p.1 p.2 both.1)
