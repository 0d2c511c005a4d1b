-- Whatever was received arrived.
use Rattle.std.proofs.Common.{◌≡◌, ℕ, zero, suc, List, [], ◌∷◌, ◌++◌, map, length, max, Some, slice_get, refl, sym, ◌∙◌, ap, append_assoc, subst, ◌⊎◌, inl, inr}
use Rattle.std.proofs.lemmas.List.{append-nil}
use Rattle.session_core.specs.declared.copy.RequestCopy.{RequestCopy}
use Rattle.session_core.specs.declared.opening.Opening.{Opening}
use Rattle.session_core.specs.Copy.{id_of}
use Rattle.session_core.specs.Journal.{Entry, Journal, IsJournal, MayEnter, after_entry, state_of}
use Rattle.session_core.specs.Machine.{opened, creation_of}
use Rattle.session_core.specs.Points.{tested_at}
use Rattle.session_core.specs.Run.{IsReceived, moment_after, arrival_in, arrivals_from, arrivals_with, arrivals_of, placings_of}
use Rattle.session_core.specs.State.{PlainSession, Placing, Stands, Strikes}
use Rattle.session_laws.proofs.Followed.{IsFollowed, followed_steady, opened_followed}
use Rattle.session_laws.proofs.Lists.{get_append, get_last}
use Rattle.session_laws.proofs.PlacedLemmas.{IsPlain, IsWithin, Places, entry_places, entry_within, opened_within}
use Rattle.session_laws.proofs.Received.{no_strike, same_copy, stood_push}
use Rattle.session_laws.proofs.SoundLemmas.{IsSound, sound_steady, opened_sound}
use Rattle.session_laws.proofs.Steadily.{steady-entry}
use Rattle.session_laws.proofs.Steps.{along}

-- each copy among these placings is among these arrivals
abbrev pub Came : List RequestCopy → List Placing → Type 0
Came arrivals placings = (copy : RequestCopy) (before after : List Placing) → placings ≡ before ++ Stands copy ∷ after → (k : ℕ) × (slice_get arrivals k ≡ Some copy)

came_more : (arrivals more : List RequestCopy) (placings : List Placing) → Came arrivals placings → Came (arrivals ++ more) placings
came_more arrivals more placings came copy before after same =
    let here = came copy before after same in
    (here.0, get_append arrivals more here.0 copy here.1)

came_strike : (arrivals : List RequestCopy) (placings : List Placing) (rid moment : ℕ) → Came arrivals placings → Came arrivals (placings ++ Strikes rid moment ∷ [])
came_strike arrivals placings rid moment came copy before after same = elim (stood_push placings (Strikes rid moment) before after copy same) [
  | inl last ↦ absurd (no_strike copy rid moment last)
  | inr earlier ↦ came copy before earlier.0 earlier.1
]

came_strikes : (arrivals : List RequestCopy) (rids : List ℕ) (moment : ℕ) (placings : List Placing) → Came arrivals placings → Came arrivals (placings ++ map (λ rid. Strikes rid moment) rids)
came_strikes arrivals [] moment placings came = subst (Came arrivals) (sym (append-nil placings)) came
came_strikes arrivals (rid ∷ rids) moment placings came =
    subst (Came arrivals) (append_assoc placings (Strikes rid moment ∷ []) (map (λ r. Strikes r moment) rids))
    (came_strikes arrivals rids moment (placings ++ Strikes rid moment ∷ []) (came_strike arrivals placings rid moment came))

came_stand : (arrivals : List RequestCopy) (placings : List Placing) (new : RequestCopy) → Came arrivals placings → Came (arrivals ++ new ∷ []) (placings ++ Stands new ∷ [])
came_stand arrivals placings new came copy before after same = elim (stood_push placings (Stands new) before after copy same) [
  | inl last ↦ (length arrivals, get_last arrivals new ∙ ap Some (sym (same_copy copy new last)))
  | inr earlier ↦ came_more arrivals (new ∷ []) placings came copy before earlier.0 earlier.1
]

came_all : (more : List RequestCopy) (arrivals : List RequestCopy) (placings : List Placing) → Came arrivals placings → Came (arrivals ++ more) (placings ++ map Stands more)
came_all [] arrivals placings came = subst (Came (arrivals ++ [])) (sym (append-nil placings)) (came_more arrivals [] placings came)
came_all (new ∷ more) arrivals placings came =
    subst (λ l. Came l (placings ++ Stands new ∷ map Stands more)) (append_assoc arrivals (new ∷ []) more)
    (subst (Came ((arrivals ++ new ∷ []) ++ more)) (append_assoc placings (Stands new ∷ []) (map Stands more))
    (came_all more (arrivals ++ new ∷ []) (placings ++ Stands new ∷ []) (came_stand arrivals placings new came)))

-- an entry
came_then : (arrivals came_now stood : List RequestCopy) (placings : List Placing) → Came arrivals placings → (stood ≡ []) ⊎ (stood ≡ came_now) → Came (arrivals ++ came_now) (placings ++ map Stands stood)
came_then arrivals came_now stood placings came either_way = elim either_way [
  | inl none ↦
      subst (λ (l : List RequestCopy). Came (arrivals ++ came_now) (placings ++ map Stands l)) (sym none)
      (subst (Came (arrivals ++ came_now)) (sym (append-nil placings)) (came_more arrivals came_now placings came))
  | inr one ↦ subst (λ (l : List RequestCopy). Came (arrivals ++ came_now) (placings ++ map Stands l)) (sym one) (came_all came_now arrivals placings came)
]

entry_came : (arrivals : List RequestCopy) (s : PlainSession) (entry : Entry) → MayEnter s entry.entered → IsPlain s → Came arrivals s.placings
    → Came (arrivals ++ arrival_in s.now entry.entered) (after_entry s entry.entered).placings
entry_came arrivals s entry may p came =
    let a = entry_places s entry.entered may p in
    let moment : ℕ = (tested_at s entry.entered).now in
    subst (Came (arrivals ++ arrival_in s.now entry.entered)) (sym a.placed.placings_are)
    (came_then arrivals (arrival_in s.now entry.entered) a.placed.stood (s.placings ++ map (λ rid. Strikes rid moment) a.placed.struck) (came_strikes arrivals a.placed.struck moment s.placings came) a.arrived)

-- the greatest moment after these entries
abbrev pub moment_of : ℕ → List Entry → ℕ
moment_of moment [] = moment
moment_of moment (entry ∷ entries) = moment_of (moment_after moment entry.entered) entries

pub moment-push : (moment : ℕ) (past : List Entry) (entry : Entry) → moment_of moment (past ++ entry ∷ []) ≡ moment_after (moment_of moment past) entry.entered
moment-push moment [] entry = refl
moment-push moment (first ∷ past) entry = moment-push (moment_after moment first.entered) past entry

pub arrivals-push : (moment : ℕ) (past : List Entry) (entry : Entry) → arrivals_from moment (past ++ entry ∷ []) ≡ arrivals_from moment past ++ arrival_in (moment_of moment past) entry.entered
arrivals-push moment [] entry = append-nil (arrival_in moment entry.entered)
arrivals-push moment (first ∷ past) entry =
    ap (λ arrivals. arrival_in moment first.entered ++ arrivals) (arrivals-push (moment_after moment first.entered) past entry)
    ∙ sym (append_assoc (arrival_in moment first.entered) (arrivals_from (moment_after moment first.entered) past) (arrival_in (moment_of (moment_after moment first.entered) past) entry.entered))

-- along a journal: what arrived, and the moment
record Told (o : Opening) (past : List Entry) (s : PlainSession) : Type 0 where
  plain : IsPlain s
  came : Came (arrivals_with o past) s.placings
  now : s.now ≡ moment_of o.at past

told_more : (o : Opening) (past : List Entry) (s : PlainSession) (entry : Entry) → MayEnter s entry.entered → Told o past s → Told o (past ++ entry ∷ []) (after_entry s entry.entered)
told_more o past s entry may t = record {
  plain = (
    steady-entry IsSound sound_steady s entry.entered may (t.plain).0,
    steady-entry IsFollowed followed_steady s entry.entered may (t.plain).1,
    entry_within s entry.entered may (t.plain).2,
  );
  came =
      subst (λ arrivals. Came arrivals (after_entry s entry.entered).placings)
      (ap (λ m. creation_of o ∷ (arrivals_from o.at past ++ arrival_in m entry.entered)) t.now ∙ ap (λ arrivals. creation_of o ∷ arrivals) (sym (arrivals-push o.at past entry)))
      (entry_came (arrivals_with o past) s entry may t.plain t.came);
  now = (entry_places s entry.entered may t.plain).now ∙ ap (λ m. moment_after m entry.entered) t.now ∙ sym (moment-push o.at past entry);
}

opened_told : (o : Opening) → Told o [] (opened o)
opened_told o = record {
  plain = (opened_sound o, opened_followed o, opened_within o);
  came = λ copy before after same. absurd (no_split before after (Stands copy) same);
  now = refl;
}
  where
    no_split : (before after : List Placing) (x : Placing) → [] ≡ before ++ x ∷ after → ⊥
    no_split [] after x same = cc
    no_split (y ∷ before) after x same = cc

every_told : (journal : Journal) → IsJournal journal → Told journal.opening journal.entries (state_of journal)
every_told journal made = along (opened journal.opening) (Told journal.opening) (λ past s entry may same t. told_more journal.opening past s entry may t) journal.entries made.1 (opened_told journal.opening)

-- what was received arrived
pub every_arrived : (journal : Journal) → IsJournal journal → (rid : ℕ) (copy : RequestCopy) → IsReceived (placings_of journal) rid copy → (k : ℕ) × (slice_get (arrivals_of journal) k ≡ Some copy)
every_arrived journal made rid copy r = by r.1 r.3
  where
    first_is : (one other : Placing) (xs ys : List Placing) → one ∷ xs ≡ other ∷ ys → one ≡ other
    first_is one other xs ys same = cc

    rest_is : (one other : Placing) (xs ys : List Placing) → one ∷ xs ≡ other ∷ ys → xs ≡ ys
    rest_is one other xs ys same = cc

    by : (before : List Placing) → placings_of journal ≡ before ++ Stands copy ∷ r.2 → (k : ℕ) × (slice_get (arrivals_of journal) k ≡ Some copy)
    by [] same = (0, ap Some (same_copy (creation_of journal.opening) copy (first_is (Stands (creation_of journal.opening)) (Stands copy) (state_of journal).placings r.2 same)))
    by (first ∷ before) same =
        (every_told journal made).came copy before r.2 (rest_is (Stands (creation_of journal.opening)) first (state_of journal).placings (before ++ Stands copy ∷ r.2) same)
