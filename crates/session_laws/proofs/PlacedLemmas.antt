-- What each entry brings to the places of ids.
use Rattle.std.proofs.Common.{◌≡◌, ◌↔◌, ℕ, zero, suc, ◌+◌, ◌*◌, ◌<◌, ◌≤◌, ◌==◌, ◌&&◌, ◌||◌, Bool, true, false, not, cond, List, [], ◌∷◌, ◌++◌, map, filter, length, Option, Some, None, nat_le, nat_lt, is_some, slice_get, refl, sym, ◌∙◌, ap, arith, subst, ◌⊎◌, inl, inr}
use Rattle.std.proofs.lemmas.Bool.{cases_eq, cases_lt, leb-true, leb-false, ltb-true}
use Rattle.std.proofs.lemmas.Bool.Decides.{nat_tests}
use Rattle.std.proofs.lemmas.List.{append-nil, length_push}
use Rattle.bosh_types.specs.ById.{at_id}
use Rattle.bosh_types.specs.declared.ending.Closing.{Closing}
use Rattle.rid_window.specs.PlainWindow.{reach}
use Rattle.session_attrs.specs.declared.request.Request.{Request}
use Rattle.session_core.specs.declared.copy.RequestCopy.{RequestCopy}
use Rattle.session_core.specs.declared.opening.Opening.{Opening}
use Rattle.session_core.specs.declared.outward.Outward.{Outward}
use Rattle.session_core.specs.declared.outward.Outward.TheVariants.{Stanza, Close}
use Rattle.session_core.specs.declared.replies.Arrived.{Arrived}
use Rattle.session_core.specs.declared.replies.Arrived.TheVariants as arrivals
use Rattle.session_core.specs.declared.replies.Taken.{Taken}
use Rattle.session_core.specs.Answers.{settled}
use Rattle.session_core.specs.Copy.{id_of, is_extra, with_id}
use Rattle.session_core.specs.Gap.{has_waited, ids_ahead, ids_from, ids_to_strike, is_to_strike, owes_errors}
use Rattle.session_core.specs.Journal.{Arrive, Back, BackClosed, Tick, Made, Limit, Entered, Journal, IsJournal, MayEnter, after_entry, state_of}
use Rattle.session_core.specs.Machine.{as_processed, opened, advanced, placed, bytes_for, wait_at, copy_now, arrived_in_time, with_cost, body_cost, stanza_cost, plain_cost, takes_items, has_room, with_item}
use Rattle.session_core.specs.Placed.{AreRising, AreStruckAt, ArePlaced, ComesToStand, IsStruckAt, MayStand}
use Rattle.session_core.specs.Run.{arrival_in, moment_after}
use Rattle.session_core.specs.State.{PlainSession, Placing, Stands, Strikes, last_of, answered_of, standing, standing_at, is_over}
use Rattle.session_core.specs.Time.{at_moment, time_applied}
use Rattle.session_core.specs.Window.{is_open, is_above}
use Rattle.session_core.proofs.StruckLemmas.{empty_or_not, standing_placed, struck_before}
use Rattle.session_laws.proofs.Clear.{every_clear}
use Rattle.session_laws.proofs.Followed.{IsFollowed, every_followed, followed_steady, lacks_none}
use Rattle.session_laws.proofs.Frames.{settled_leaves, advanced_leaves}
use Rattle.session_laws.proofs.Lists.{standing_other as push_other}
use Rattle.session_laws.proofs.Moves.{Answering, Processing, Waiting, settled-by, advanced-by, time_applied-by}
use Rattle.session_laws.proofs.Phases.{Phases, phase-entry}
use Rattle.session_laws.proofs.SoundLemmas.{IsSound, sound_steady}
use Rattle.session_laws.proofs.Steadily.{steady-settled, steady-time, is_none}
use Rattle.session_laws.proofs.Steps.{arrival-by, entry-by, along}
use Rattle.session_laws.proofs.Tests.{split, both_true, either, neither, none_some, true_false, which}
use Rattle.session_laws.proofs.TimeStruck.{strikes_of, time_now, time_placings}

-- What stands lies within the window, or one id further.

abbrev pub IsWithin : PlainSession → Type 0
IsWithin s = (rid : ℕ) (copy : RequestCopy) → standing_at s rid ≡ Some copy → rid ≤ last_of s + s.terms.requests + 1

within_answering : Answering IsWithin
within_answering = record {
  gives = λ s oldest later front is on reason due other p. p;
  closes = λ s oldest later stream closing is on reason due last p. p;
}

within_processing : Processing IsWithin
within_processing = record {
  processes = λ s copy on stands broken further p rid found at. omega (arith, p rid found at, length_push s.processed (as_processed s copy));
  terminates = λ s copy on stands broken last p rid found at. omega (arith, p rid found at, length_push s.processed (as_processed s copy));
  breaks = λ s copy ending on stands broken p. p;
}

within_waiting : Waiting IsWithin
within_waiting = record {
  moves = λ s now p. p;
  strikes = λ s rid on holds is p other found at. p other found (struck_before s rid other found at);
  silences = λ s on silent p. p;
}

reach_within : (requests : ℕ) (extra : Bool) → reach requests extra ≤ requests + 1
reach_within requests true = omega arith
reach_within requests false = omega arith

placed_within : (t : PlainSession) (copy : RequestCopy) → is_above t copy ≡ false → IsWithin t → IsWithin (placed t copy)
placed_within t copy inside p rid found at = elim (cases_eq rid (id_of copy)) [
  | inl same ↦ omega (arith, same, not_above (last_of t + reach t.terms.requests (is_extra copy)) (id_of copy) inside, reach_within t.terms.requests (is_extra copy))
  | inr other ↦ p rid found (sym (push_other (standing t) copy rid other) ∙ ap (λ (copies : List RequestCopy). at_id (map with_id copies) rid) (sym (standing_placed t copy)) ∙ at)
]
  where
    not_above : (a b : ℕ) → nat_lt a b ≡ false → b ≤ a
    not_above a b is = grind (arith, nat_tests, is)

pub within_phases : Phases IsWithin
within_phases = record {
  time = λ s now on p. time_applied-by IsWithin within_waiting within_answering s now p;
  settles = λ s p. settled-by IsWithin within_answering s p;
  places = λ t copy on later new within small now p. advanced-by IsWithin within_processing (placed t copy) (placed_within t copy within p);
  reopens = λ t tickets on p. p;
  ends = λ t ending on p. p;
  gives = λ t item p. p;
  aside = λ t tickets passed counted p. p;
}

pub entry_within : (s : PlainSession) (entered : Entered) → MayEnter s entered → IsWithin s → IsWithin (after_entry s entered)
entry_within s entered may p = phase-entry IsWithin within_phases s entered may p

pub time_within : (s : PlainSession) (now : ℕ) → IsWithin s → IsWithin (time_applied s now)
time_within s now p = time_applied-by IsWithin within_waiting within_answering s now p

pub opened_within : (o : Opening) → IsWithin (opened o)
opened_within o rid copy at = absurd (none_some None copy refl at)

pub every_within : (journal : Journal) → IsJournal journal → IsWithin (state_of journal)
every_within journal made = along (opened journal.opening) (λ past s. IsWithin s) (λ past s entry may same p. entry_within s entry.entered may p) journal.entries made.1 (opened_within journal.opening)

-- Ids from one on that pass a test.

module _ (p : ℕ → Bool) where
  abbrev chosen : ℕ → ℕ → List ℕ
  chosen first count = filter p (ids_from first count)

  abbrev AreFrom : ℕ → List ℕ → Type 0
  AreFrom first rids = (k rid : ℕ) → slice_get rids k ≡ Some rid → first ≤ rid

  from_more : (first rid : ℕ) (rids : List ℕ) → first ≤ rid → AreFrom first rids → AreFrom first (rid ∷ rids)
  from_more first rid rids least all zero other at =
      let same : rid ≡ other = cc in
      omega (arith, least, same)
  from_more first rid rids least all (suc k) other at = all k other at

  chosen_from : (first count : ℕ) → AreFrom first (chosen first count)
  chosen_from first zero = λ k rid at. absurd (none_some None rid refl at)
  chosen_from first (suc count) =
      let rest : AreFrom first (chosen (first + 1) count) = λ k rid at. omega (arith, chosen_from (first + 1) count k rid at) in
      split (AreFrom first) (p first) (first ∷ chosen (first + 1) count) (chosen (first + 1) count) (λ is. from_more first first (chosen (first + 1) count) (omega arith) rest) (λ none. rest)

  rising_more : (first : ℕ) (rids : List ℕ) → AreFrom (first + 1) rids → AreRising rids → AreRising (first ∷ rids)
  rising_more first rids from rising zero low high at next =
      let same : first ≡ low = cc in
      omega (arith, same, from 0 high next)
  rising_more first rids from rising (suc k) low high at next = rising k low high at next

  pub chosen_rising : (first count : ℕ) → AreRising (chosen first count)
  chosen_rising first zero = λ k low high at next. absurd (none_some None low refl at)
  chosen_rising first (suc count) = split AreRising (p first) (first ∷ chosen (first + 1) count) (chosen (first + 1) count)
      (λ is. rising_more first (chosen (first + 1) count) (chosen_from (first + 1) count) (chosen_rising (first + 1) count)) (λ none. chosen_rising (first + 1) count)

  abbrev AllPass : List ℕ → Type 0
  AllPass rids = (k rid : ℕ) → slice_get rids k ≡ Some rid → p rid ≡ true

  pass_more : (rid : ℕ) (rids : List ℕ) → p rid ≡ true → AllPass rids → AllPass (rid ∷ rids)
  pass_more rid rids is all zero other at =
      let same : rid ≡ other = cc in
      ap p (sym same) ∙ is
  pass_more rid rids is all (suc k) other at = all k other at

  pub chosen_pass : (first count : ℕ) → AllPass (chosen first count)
  chosen_pass first zero = λ k rid at. absurd (none_some None rid refl at)
  chosen_pass first (suc count) = split AllPass (p first) (first ∷ chosen (first + 1) count) (chosen (first + 1) count)
      (λ is. pass_more first (chosen (first + 1) count) is (chosen_pass (first + 1) count)) (λ none. chosen_pass (first + 1) count)

  abbrev IsAmong : List ℕ → ℕ → Type 0
  IsAmong rids rid = (k : ℕ) × (slice_get rids k ≡ Some rid)

  pub is_chosen : (first count rid : ℕ) → p rid ≡ true → first ≤ rid → rid < first + count → IsAmong (chosen first count) rid
  is_chosen first zero rid is from within = absurd (omega (arith, from, within))
  is_chosen first (suc count) rid is from within = elim (cases_lt first rid) [
    | inl later ↦
        let rest : IsAmong (chosen (first + 1) count) rid = is_chosen (first + 1) count rid is (omega (arith, later)) (omega (arith, within)) in
        split (λ (rids : List ℕ). IsAmong rids rid) (p first) (first ∷ chosen (first + 1) count) (chosen (first + 1) count) (λ here. (suc rest.0, rest.1)) (λ none. rest)
    | inr here ↦
        let same : first ≡ rid = omega (arith, here, from) in
        split (λ (rids : List ℕ). IsAmong rids rid) (p first) (first ∷ chosen (first + 1) count) (chosen (first + 1) count) (λ passes. (0, ap Some same))
        (λ none. absurd (true_false (sym is ∙ ap p (sym same) ∙ none)))
  ]

-- Which copies are struck at a state.

waited_is : (s : PlainSession) (rid : ℕ) (o : Option RequestCopy) → standing_at s rid ≡ o → has_waited s o ≡ true
    → (copy : RequestCopy) × (standing_at s rid ≡ Some copy) × (copy.arrived + s.gap_waits * (s.terms.wait * 1000) ≤ s.now)
waited_is s rid None at is = absurd (true_false (sym is))
waited_is s rid (Some copy) at is = (copy, at, leb-true (copy.arrived + s.gap_waits * (s.terms.wait * 1000)) s.now is)

to_strike_is : (s : PlainSession) (rid : ℕ) → IsFollowed s → is_over s ≡ false → s.terms.polled ≡ false → is_to_strike s rid ≡ true → (copy : RequestCopy) × IsStruckAt s rid copy
to_strike_is s rid f on holds is =
    let both = both_true (nat_lt (last_of s) rid) (has_waited s (standing_at s rid)) is in
    let w = waited_is s rid (standing_at s rid) refl both.1 in
    (w.0, record { goes_on = on; holds = holds; beyond = ltb-true (last_of s) rid both.0; received = f.each rid w.0 w.1; waited = w.2 })

is_to_strike_is : (s : PlainSession) (rid : ℕ) (copy : RequestCopy) → IsFollowed s → IsStruckAt s rid copy → is_to_strike s rid ≡ true
is_to_strike_is s rid copy f st =
    let later : nat_lt (last_of s) rid ≡ true = grind (arith, nat_tests, st.beyond) in
    let due : nat_le (copy.arrived + s.gap_waits * (s.terms.wait * 1000)) s.now ≡ true = grind (arith, nat_tests, st.waited) in
    ap (λ (b : Bool). b && has_waited s (standing_at s rid)) later ∙ ap (has_waited s) (f.back rid copy st.received) ∙ due

pub struck_at : (s : PlainSession) → IsFollowed s → IsWithin s → AreStruckAt s (ids_to_strike s)
struck_at s f within = record {
  rising = split AreRising (is_over s || s.terms.polled) [] (filter (is_to_strike s) (ids_ahead s)) (λ never k low high at next. absurd (none_some None low refl at))
      (λ goes. chosen_rising (is_to_strike s) (last_of s + 1) (s.terms.requests + 1));
  each = λ rid. (forth rid, back rid);
}
  where
    forth : (rid : ℕ) → (k : ℕ) × (slice_get (ids_to_strike s) k ≡ Some rid) → (copy : RequestCopy) × IsStruckAt s rid copy
    forth rid = split (λ (rids : List ℕ). (k : ℕ) × (slice_get rids k ≡ Some rid) → (copy : RequestCopy) × IsStruckAt s rid copy) (is_over s || s.terms.polled) [] (filter (is_to_strike s) (ids_ahead s))
        (λ never among. absurd (none_some None rid refl among.1))
        (λ goes among.
        let both = neither (is_over s) s.terms.polled goes in
        to_strike_is s rid f both.0 both.1 (chosen_pass (is_to_strike s) (last_of s + 1) (s.terms.requests + 1) among.0 rid among.1))

    back : (rid : ℕ) → (copy : RequestCopy) × IsStruckAt s rid copy → (k : ℕ) × (slice_get (ids_to_strike s) k ≡ Some rid)
    back rid c = split (λ (rids : List ℕ). (k : ℕ) × (slice_get rids k ≡ Some rid)) (is_over s || s.terms.polled) [] (filter (is_to_strike s) (ids_ahead s))
        (λ never. absurd (elim (either (is_over s) s.terms.polled never) [
          | inl over ↦ true_false (sym over ∙ c.1.goes_on)
          | inr polls ↦ true_false (sym polls ∙ c.1.holds)
        ]))
        (λ goes. is_chosen (is_to_strike s) (last_of s + 1) (s.terms.requests + 1) rid (is_to_strike_is s rid c.0 f c.1) (omega (arith, c.1.beyond))
        (omega (arith, within rid c.0 (f.back rid c.0 c.1.received))))

-- where none is owed, none is struck
pub none_struck : (s : PlainSession) → IsFollowed s → IsWithin s → owes_errors s ≡ false → AreStruckAt s []
none_struck s f within none = subst (AreStruckAt s) (empty_or_not (ids_to_strike s) none) (struck_at s f within)

-- What an arriving copy brings.

record Brings (t : PlainSession) (copy : RequestCopy) (r : PlainSession × Arrived) : Type 0 where
  stood : List RequestCopy
  comes : ComesToStand t copy stood
  either_way : (stood ≡ []) ⊎ (stood ≡ copy ∷ [])
  placings_are : r.0.placings ≡ t.placings ++ map Stands stood
  now : r.0.now ≡ t.now

brings_none : (t : PlainSession) (copy : RequestCopy) (r : PlainSession × Arrived) → (MayStand t copy → ⊥) → r.0.placings ≡ t.placings → r.0.now ≡ t.now → Brings t copy r
brings_none t copy r never same now = record {
  stood = [];
  comes = record { may = λ may. absurd (never may); may_not = λ none. refl };
  either_way = inl refl;
  placings_are = same ∙ sym (append-nil t.placings);
  now = now;
}

replied_placings : (s : PlainSession) (rid : ℕ) (o : Option (List ℕ)) → (elim o as (λ x. PlainSession × Arrived) [ Some bytes ↦ (s, arrivals.Answer bytes) | None ↦ wait_at s rid ]).0.placings ≡ s.placings
replied_placings s rid None = refl
replied_placings s rid (Some bytes) = refl

replied_now : (s : PlainSession) (rid : ℕ) (o : Option (List ℕ)) → (elim o as (λ x. PlainSession × Arrived) [ Some bytes ↦ (s, arrivals.Answer bytes) | None ↦ wait_at s rid ]).0.now ≡ s.now
replied_now s rid None = refl
replied_now s rid (Some bytes) = refl

pub advanced_placings : (t : PlainSession) (copy : RequestCopy) → (settled (advanced (placed t copy))).placings ≡ t.placings ++ Stands copy ∷ []
advanced_placings t copy =
    ap (λ (v : PlainSession). v.placings) (settled_leaves (advanced (placed t copy))) ∙ ap (λ (v : PlainSession). v.placings) (advanced_leaves (placed t copy))

advanced_now : (t : PlainSession) (copy : RequestCopy) → (settled (advanced (placed t copy))).now ≡ t.now
advanced_now t copy = ap (λ (v : PlainSession). v.now) (settled_leaves (advanced (placed t copy))) ∙ ap (λ (v : PlainSession). v.now) (advanced_leaves (placed t copy))

open_never : (t : PlainSession) (copy : RequestCopy) → is_open t (id_of copy) ≡ true → IsFollowed t → MayStand t copy → ⊥
open_never t copy open_now f may = elim (either (nat_le (id_of copy) (last_of t)) (is_some (standing_at t (id_of copy))) open_now) [
  | inl within ↦ absurd (omega (arith, leb-true (id_of copy) (last_of t) within, may.later))
  | inr stands ↦ elim (which (standing_at t (id_of copy))) [
    | inl none ↦ true_false (sym stands ∙ ap is_some none)
    | inr found ↦ may.lacks found.0 (f.each (id_of copy) found.0 found.1)
  ]
]

arrived_brings : (t : PlainSession) (request : Request) (body : List ℕ) → IsSound t → IsFollowed t → Brings t (copy_now t request body) (arrived_in_time t request body)
arrived_brings t request body sound f =
    let copy : RequestCopy = copy_now t request body in
    arrival-by t request body (Brings t copy) (record {
      over = λ over. brings_none t copy _ (λ may. true_false (sym over ∙ may.goes_on)) refl refl;
      again = λ answer on within is. brings_none t copy _ (λ may. absurd (omega (arith, leb-true (id_of copy) (answered_of t) within, may.later, sound.few))) refl refl;
      stale = λ on within is. brings_none t copy _ (λ may. absurd (omega (arith, leb-true (id_of copy) (answered_of t) within, may.later, sound.few))) refl refl;
      repeats = λ on later open_now. brings_none t copy _ (open_never t copy open_now f) refl refl;
      above = λ on later new beyond. brings_none t copy _ (λ may. true_false (sym beyond ∙ may.within)) refl refl;
      fresh = λ on later new within.
          let apart = neither (nat_le (id_of copy) (last_of t)) (is_some (standing_at t (id_of copy))) new in
          let u : PlainSession = settled (advanced (placed t copy)) in
          let stands : MayStand t copy = record {
            goes_on = on;
            later = leb-false (id_of copy) (last_of t) apart.0;
            lacks = lacks_none t (id_of copy) f (is_none (standing_at t (id_of copy)) apart.1);
            within = within;
          } in record {
            stood = copy ∷ [];
            comes = record { may = λ may. refl; may_not = λ none. absurd (none stands) };
            either_way = inr refl;
            placings_are = replied_placings u (id_of copy) (bytes_for u (id_of copy)) ∙ advanced_placings t copy;
            now = replied_now u (id_of copy) (bytes_for u (id_of copy)) ∙ advanced_now t copy;
          };
    })

-- what counts in bytes has no part in it
comes_tested : (cost : ℕ) (tested : PlainSession) (copy : RequestCopy) (stood : List RequestCopy) → ComesToStand (with_cost cost tested) copy stood → ComesToStand tested copy stood
comes_tested cost tested copy stood comes = record {
  may = λ may. comes.may (record { goes_on = may.goes_on; later = may.later; lacks = may.lacks; within = may.within });
  may_not = λ never. comes.may_not (λ may. never (record { goes_on = may.goes_on; later = may.later; lacks = may.lacks; within = may.within }));
}

-- Each entry.

-- what every state keeps that this needs
abbrev pub IsPlain : PlainSession → Type 0
IsPlain s = IsSound s × IsFollowed s × IsWithin s

pub settled_struck : (s : PlainSession) (now : ℕ) → IsPlain s → AreStruckAt (settled (at_moment s now)) (strikes_of s now)
settled_struck s now p =
    struck_at (settled (at_moment s now)) (steady-settled IsFollowed followed_steady (at_moment s now) p.1) (settled-by IsWithin within_answering (at_moment s now) p.2)

-- what an entry brings, and the moment after it; a copy that comes to stand arrived with it
pub record Places (s : PlainSession) (entered : Entered) (u : PlainSession) : Type 0 where
  pub placed : ArePlaced s entered u
  pub arrived : (placed.stood ≡ []) ⊎ (placed.stood ≡ arrival_in s.now entered)
  pub now : u.now ≡ moment_after s.now entered

-- the placings once time was applied, and then nothing or this came
timed_then : (s : PlainSession) (now : ℕ) (u t : PlainSession) (stood : List RequestCopy) → t.placings ≡ (time_applied s now).placings → u.placings ≡ t.placings ++ map Stands stood
    → u.placings ≡ s.placings ++ map (λ rid. Strikes rid (time_applied s now).now) (strikes_of s now) ++ map Stands stood
timed_then s now u t stood timed same =
    same ∙ ap (λ l. l ++ map Stands stood) (timed ∙ time_placings s now)

item_placings : (t : PlainSession) (item : Outward) → (with_item t item).0.placings ≡ t.placings
item_placings t item = ap (λ (v : PlainSession). v.placings) (settled_leaves (record t { given = t.given ++ item ∷ [] }))

item_now : (t : PlainSession) (item : Outward) → (with_item t item).0.now ≡ t.now
item_now t item = ap (λ (v : PlainSession). v.now) (settled_leaves (record t { given = t.given ++ item ∷ [] }))

still : (placings : List Placing) → placings ≡ placings ++ [] ++ []
still placings = sym (append-nil placings) ∙ sym (append-nil (placings ++ []))

nothing_came : (u t : PlainSession) → u.placings ≡ t.placings → u.placings ≡ t.placings ++ map Stands []
nothing_came u t same = same ∙ sym (append-nil t.placings)

pub entry_places : (s : PlainSession) (entered : Entered) → MayEnter s entered → IsPlain s → Places s entered (after_entry s entered)
entry_places s entered may p = entry-by s (Places s) (record {
  arrives = λ request body now allowed on room.
      let tested : PlainSession = time_applied s now in
      let t : PlainSession = with_cost (body_cost request body) tested in
      let b = arrived_brings t request body (steady-time IsSound sound_steady s now p.0) (steady-time IsFollowed followed_steady s now p.1) in
      record {
        placed = record {
          struck = strikes_of s now;
          are_struck = settled_struck s now p;
          stood = b.stood;
          stand = comes_tested (body_cost request body) tested (copy_now tested request body) b.stood b.comes;
          placings_are = timed_then s now (arrived_in_time t request body).0 t b.stood refl b.placings_are;
        };
        arrived = elim b.either_way [
          | inl none ↦ inl none
          | inr one ↦ inr (one ∙ ap (λ (m : ℕ). record { request = request; body = body; arrived = m } ∷ []) (time_now s now))
        ];
        now = b.now ∙ time_now s now;
      };
  backs = λ stream stanza now allowed on room.
      let t : PlainSession = with_cost (stanza_cost stanza) (time_applied s now) in
      let so = backs_so stream stanza now in
      split (λ (r : PlainSession × Taken). Places s (Made (Back stream stanza now)) r.0) (not (takes_items t stream)) _ _ (λ none. so t refl refl)
      (λ takes. split (λ (r : PlainSession × Taken). Places s (Made (Back stream stanza now)) r.0) (has_room t stanza) _ _
      (λ free. so (with_item t (Stanza stream stanza)).0 (item_placings t (Stanza stream stanza)) (item_now t (Stanza stream stanza))) (λ none. so t refl refl));
  closes = λ stream closing now on room.
      let t : PlainSession = with_cost plain_cost (time_applied s now) in
      let so = closes_so stream closing now in
      split (λ (r : PlainSession × Taken). Places s (Made (BackClosed stream closing now)) r.0) (takes_items t stream) _ _
      (λ takes. so (with_item t (Close stream closing)).0 (item_placings t (Close stream closing)) (item_now t (Close stream closing))) (λ none. so t refl refl);
  ticks = λ now on due room. record {
    placed = record {
      struck = strikes_of s now;
      are_struck = settled_struck s now p;
      stood = [];
      stand = refl;
      placings_are = timed_then s now (with_cost plain_cost (time_applied s now)) (time_applied s now) [] refl (nothing_came (with_cost plain_cost (time_applied s now)) (time_applied s now) refl);
    };
    arrived = inl refl;
    now = time_now s now;
  };
  collects = λ index ticket is. record {
    placed = record { struck = []; are_struck = refl; stood = []; stand = refl; placings_are = still s.placings };
    arrived = inl refl;
    now = refl;
  };
  takes = λ item is. record {
    placed = record { struck = []; are_struck = refl; stood = []; stand = refl; placings_are = still s.placings };
    arrived = inl refl;
    now = refl;
  };
  limits = λ kind cost now on full. record {
    placed = record { struck = []; are_struck = refl; stood = []; stand = refl; placings_are = still s.placings };
    arrived = inl refl;
    now = refl;
  };
}) entered may
  where
    backs_so : (stream : ℕ) (stanza : List ℕ) (now : ℕ) (u : PlainSession) → u.placings ≡ (time_applied s now).placings → u.now ≡ (time_applied s now).now → Places s (Made (Back stream stanza now)) u
    backs_so stream stanza now u same moment = record {
      placed = record {
        struck = strikes_of s now;
        are_struck = settled_struck s now p;
        stood = [];
        stand = refl;
        placings_are = timed_then s now u (time_applied s now) [] refl (nothing_came u (time_applied s now) same);
      };
      arrived = inl refl;
      now = moment ∙ time_now s now;
    }

    closes_so : (stream : ℕ) (closing : Closing) (now : ℕ) (u : PlainSession) → u.placings ≡ (time_applied s now).placings → u.now ≡ (time_applied s now).now → Places s (Made (BackClosed stream closing now)) u
    closes_so stream closing now u same moment = record {
      placed = record {
        struck = strikes_of s now;
        are_struck = settled_struck s now p;
        stood = [];
        stand = refl;
        placings_are = timed_then s now u (time_applied s now) [] refl (nothing_came u (time_applied s now) same);
      };
      arrived = inl refl;
      now = moment ∙ time_now s now;
    }

pub every_plain : (journal : Journal) → IsJournal journal → IsPlain (state_of journal)
every_plain journal made = ((every_clear journal made).0, every_followed journal made, every_within journal made)
