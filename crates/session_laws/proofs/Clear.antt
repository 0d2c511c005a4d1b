-- While a session goes on, no copy stands that could be processed.
use Rattle.std.proofs.Common.{◌≡◌, ℕ, zero, suc, ◌+◌, ◌-◌, ◌≤◌, Bool, true, false, not, List, [], ◌∷◌, ◌++◌, Option, Some, None, length, refl, sym, ◌∙◌, arith, if◌then◌else◌, inl, inr}
use Rattle.std.proofs.lemmas.List.{length_push}
use Rattle.bosh_types.specs.Rid.{greatest_rid}
use Rattle.bosh_types.specs.declared.ending.Ending.{Ending}
use Rattle.session_attrs.specs.declared.request.Request.{Request}
use Rattle.session_core.specs.declared.copy.RequestCopy.{RequestCopy}
use Rattle.session_core.specs.declared.outward.Outward.TheVariants.{Stanza, Close}
use Rattle.session_core.specs.declared.replies.Arrived.{Arrived}
use Rattle.session_core.specs.declared.replies.Arrived.TheVariants as arrivals
use Rattle.session_core.specs.declared.replies.Taken.{Taken}
use Rattle.session_core.specs.Answers.{settled}
use Rattle.session_core.specs.Endings.{ended}
use Rattle.session_core.specs.Journal.{Entered, Entry, Journal, IsJournal, IsMade, after_entry, after_entries, state_of, MayEnter}
use Rattle.session_core.specs.declared.opening.Opening.{Opening}
use Rattle.session_core.specs.Machine.{as_processed, opened, next_copy, process, advanced_in, advanced, placed, bytes_for, wait_at, copy_now, arrived_in_time, with_cost, body_cost, stanza_cost, plain_cost, takes_items, has_room, with_copy, unless_terminate}
use Rattle.session_core.specs.Processed.{Processed, ends}
use Rattle.session_core.specs.Rules.{broken_rule, asked_of}
use Rattle.session_core.specs.State.{PlainSession, first_of, last_of, standing_at, is_over}
use Rattle.session_core.specs.Time.{time_applied}
use Rattle.session_core.proofs.StruckLemmas.{still_none}
use Rattle.session_laws.proofs.Tests.{split, which, none_or, true_false}
use Rattle.session_laws.proofs.Moves.{Answering, Waiting, process-by, settled-by, time_applied-by, processing}
use Rattle.session_laws.proofs.Read.{read-rid}
use Rattle.session_laws.proofs.SoundLemmas.{IsSound, sound_steady, opened_sound}
use Rattle.session_laws.proofs.Steadily.{steady-placed, steady-time, steady-entry}
use Rattle.session_laws.proofs.Steps.{arrival-by, entry-by, along}

abbrev pub IsClear : PlainSession → Type 0
IsClear s = is_over s ≡ false → standing_at s (last_of s + 1) ≡ None

over_clear : (s : PlainSession) → is_over s ≡ true → IsClear s
over_clear s over on =
    let no' : true ≡ false = sym over ∙ on in
    absurd (cc)

clear_answering : Answering IsClear
clear_answering = record {
  gives = λ s oldest later front is on reason due other p. p;
  closes = λ s oldest later stream closing is on reason due last p over. absurd (true_false over);
}

clear_waiting : Waiting IsClear
clear_waiting = record {
  moves = λ s now p. p;
  strikes = λ s rid on holds is p goes. still_none s rid (last_of s + 1) (p on);
  silences = λ s on silent p over. absurd (true_false over);
}

-- enough ids are left to go on with
abbrev IsEnough : ℕ → PlainSession → Type 0
IsEnough count s = IsSound s × (is_over s ≡ false → greatest_rid ≤ last_of s + count)

-- one more is processed, or the session has ended
abbrev IsFurther : PlainSession → PlainSession → Type 0
IsFurther s u = is_over u ≡ false → last_of u ≡ last_of s + 1

further_by : (s : PlainSession) (copy : RequestCopy) (o : Option Ending) → IsFurther s (elim o [ Some ending ↦ ended ending s | None ↦ unless_terminate (with_copy s copy) (as_processed s copy) ])
further_by s copy (Some ending) = λ over. absurd (true_false over)
further_by s copy None = split (IsFurther s) (ends (as_processed s copy)) _ (with_copy s copy) (λ last over. absurd (true_false over)) (λ further on. count_push (first_of s) s.processed (as_processed s copy))
  where
    count_push : (first : ℕ) (processed : List Processed) (one : Processed) → first + length (processed ++ one ∷ []) ≡ first + length processed + 1
    count_push first processed one = omega (arith, length_push processed one)

next_enough : (count : ℕ) (s : PlainSession) (copy : RequestCopy) → is_over s ≡ false → standing_at s (last_of s + 1) ≡ Some copy → IsEnough (suc count) s → IsEnough count (process s copy)
next_enough count s copy on stands enough = (
  process-by IsSound (processing IsSound sound_steady) s copy on stands enough.0,
  λ goes. omega (arith, enough.1 on, further_by s copy (broken_rule (asked_of s) copy) goes),
)

beyond_none : (s : PlainSession) → IsSound s → greatest_rid ≤ last_of s → standing_at s (last_of s + 1) ≡ None
beyond_none s sound most = elim (which (standing_at s (last_of s + 1))) [
  | inl none ↦ none
  | inr stands ↦ absurd (omega (arith, (sound.above (last_of s + 1) stands.0 stands.1).1))
]

next_none : (over : Bool) (o : Option RequestCopy) → (if over then None else o) ≡ None → over ≡ false → o ≡ None
next_none true o is on = absurd (cc)
next_none false o is on = is

next_clear : (s : PlainSession) (count : ℕ) (o : Option RequestCopy) → (o ≡ None → IsClear s) → ((copy : RequestCopy) → o ≡ Some copy → IsClear (advanced_in count (process s copy)))
    → IsClear (elim o [ None ↦ s | Some copy ↦ advanced_in count (process s copy) ])
next_clear s count None stops goes = stops refl
next_clear s count (Some copy) stops goes = goes copy refl

advanced_in_clear : (count : ℕ) (s : PlainSession) → IsEnough count s → IsClear (advanced_in count s)
advanced_in_clear zero s enough = λ on. beyond_none s enough.0 (omega (arith, enough.1 on))
advanced_in_clear (suc count) s enough = next_clear s count (next_copy s)
    (λ none on. next_none (is_over s) (standing_at s (last_of s + 1)) none on)
    (λ copy is.
    let next = none_or (is_over s) (standing_at s (last_of s + 1)) copy is in
    advanced_in_clear count (process s copy) (next_enough count s copy next.0 next.1 enough))

pub advanced_clear : (s : PlainSession) → IsSound s → IsClear (advanced s)
advanced_clear s sound = advanced_in_clear (greatest_rid - last_of s) s (sound, λ on. omega arith)

settled_clear : (s : PlainSession) → IsClear s → IsClear (settled s)
settled_clear s clear = settled-by IsClear clear_answering s clear

pub time_clear : (s : PlainSession) (now : ℕ) → IsClear s → IsClear (time_applied s now)
time_clear s now clear = time_applied-by IsClear clear_waiting clear_answering s now clear

replied_clear : (s : PlainSession) (rid : ℕ) → IsClear s → (o : Option (List ℕ)) → IsClear (elim o as (λ x. PlainSession × Arrived) [ Some bytes ↦ (s, arrivals.Answer bytes) | None ↦ wait_at s rid ]).0
replied_clear s rid clear (Some bytes) = clear
replied_clear s rid clear None = clear

arrived_clear : (t : PlainSession) (request : Request) (body : List ℕ) → request.rid ≤ greatest_rid → IsSound t → IsClear t → IsClear (arrived_in_time t request body).0
arrived_clear t request body small sound clear =
    let copy : RequestCopy = copy_now t request body in
    arrival-by t request body (λ r. IsClear r.0) (record {
      over = λ over. clear;
      again = λ answer on within is. clear;
      stale = λ on within is over. absurd (true_false over);
      repeats = λ on later open_now. clear;
      above = λ on later new beyond over. absurd (true_false over);
      fresh = λ on later new within.
          let u : PlainSession = settled (advanced (placed t copy)) in
          replied_clear u request.rid (settled_clear (advanced (placed t copy)) (advanced_clear (placed t copy) (steady-placed IsSound sound_steady t copy new small sound))) (bytes_for u request.rid);
    })

entry_clear : (s : PlainSession) (entered : Entered) → MayEnter s entered → IsSound s → IsClear s → IsClear (after_entry s entered)
entry_clear s entered may sound clear = entry-by s (λ e u. IsClear u) (record {
  arrives = λ request body now allowed on room.
      arrived_clear (with_cost (body_cost request body) (time_applied s now)) request body (read-rid body request allowed.0).1 (steady-time IsSound sound_steady s now sound) (time_clear s now clear);
  backs = λ stream stanza now allowed on room.
      let t : PlainSession = with_cost (stanza_cost stanza) (time_applied s now) in
      let q = time_clear s now clear in
      split (λ (r : PlainSession × Taken). IsClear r.0) (not (takes_items t stream)) _ _ (λ none. q)
      (λ takes. split (λ (r : PlainSession × Taken). IsClear r.0) (has_room t stanza) _ _ (λ room. settled_clear (record t { given = t.given ++ Stanza stream stanza ∷ [] }) q) (λ none. q));
  closes = λ stream closing now on room.
      let t : PlainSession = with_cost plain_cost (time_applied s now) in
      let q = time_clear s now clear in
      split (λ (r : PlainSession × Taken). IsClear r.0) (takes_items t stream) _ _ (λ takes. settled_clear (record t { given = t.given ++ Close stream closing ∷ [] }) q) (λ none. q);
  ticks = λ now on due room. time_clear s now clear;
  collects = λ index ticket is. clear;
  takes = λ item is. clear;
  limits = λ kind cost now on full over. absurd (true_false over);
}) entered may

pub made_clear : (o : Opening) (entries : List Entry) → IsMade (opened o) entries → IsSound (after_entries (opened o) entries) × IsClear (after_entries (opened o) entries)
made_clear o entries made = along (opened o) (λ past s. IsSound s × IsClear s)
    (λ past s entry may same p. (steady-entry IsSound sound_steady s entry.entered may p.0, entry_clear s entry.entered may p.0 p.1))
    entries made (opened_sound o, λ on. refl)

pub every_clear : (journal : Journal) → IsJournal journal → IsSound (state_of journal) × IsClear (state_of journal)
every_clear journal made = made_clear journal.opening journal.entries made.1
