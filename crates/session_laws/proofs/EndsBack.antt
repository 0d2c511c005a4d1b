-- Where the state says that a session has to have ended, it has: a terminate, a closing, a broken rule, silence.
use Rattle.std.proofs.Common.{◌≡◌, ℕ, ◌+◌, ◌*◌, ◌<◌, ◌≤◌, ◌==◌, ◌&&◌, ◌||◌, Bool, true, false, not, List, [], ◌∷◌, ◌++◌, Option, Some, nat_lt, nat_le, is_some, length, max, slice_get, refl, sym, ◌∙◌, ap, subst, arith, if◌then◌else◌, length-drop, inl, inr}
use Rattle.std.specs.List.{list_any, filter}
use Rattle.std.proofs.lemmas.Bool.{leb-false}
use Rattle.std.proofs.lemmas.Bool.Decides.{nat_tests}
use Rattle.std.proofs.lemmas.List.{length_push, same_from_push}
use Rattle.std.proofs.lemmas.List.Folds.{list_any-append}
use Rattle.bosh_types.specs.Rid.{greatest_rid}
use Rattle.bosh_types.specs.declared.ending.Closing.{Closing}
use Rattle.bosh_types.specs.declared.ending.Ending.{Ending}
use Rattle.bosh_types.specs.declared.ending.Ending.TheVariants as endings
use Rattle.session_core.specs.declared.copy.RequestCopy.{RequestCopy}
use Rattle.session_core.specs.declared.outward.Front.{Front}
use Rattle.session_core.specs.declared.outward.Front.TheVariants.{OfClosing}
use Rattle.session_core.specs.Answers.{with_answer, answer_parts, settled}
use Rattle.session_core.specs.Copy.{id_of}
use Rattle.session_core.specs.Endings.{ended}
use Rattle.session_core.specs.Facts.{TookClosing}
use Rattle.session_core.specs.Journal.{Entered, Journal, IsJournal, after_entry, state_of, MayEnter}
use Rattle.body_writer.specs.Answer.{answer_text}
use Rattle.session_core.specs.Gap.{struck}
use Rattle.session_core.specs.Machine.{as_processed, opened, with_copy, advanced, placed}
use Rattle.session_core.specs.declared.opening.Opening.{Opening}
use Rattle.session_core.specs.Processed.{Processed, ends}
use Rattle.session_core.specs.Rules.{broken_rule, asked_of}
use Rattle.session_core.specs.State.{PlainSession, Answered, Issued, last_from, last_of, last_answer, held, beyond, running, running_in, standing, standing_at, is_over}
use Rattle.session_core.specs.Time.{time_applied, at_moment, last_told, owes_nothing_beyond, quiet_of, is_silent}
use Rattle.pause_rules.specs.Due.{is_silent_due}
use Rattle.session_core.specs.Window.{is_open}
use Rattle.session_laws.proofs.Tests.{split, not_both, is_or_not, neither, if_true, none_some, some_is, true_false}
use Rattle.session_core.proofs.StruckLemmas.{standing_placed, still_none}
use Rattle.session_laws.proofs.Moves.{Answering, Processing, Striking, settled-by, struck-by, advanced-by, silenced_as}
use Rattle.session_laws.proofs.Clear.{IsClear, advanced_clear}
use Rattle.session_laws.proofs.SoundLemmas.{IsSound, sound_steady, opened_sound}
use Rattle.session_laws.proofs.Moves.{answering, processing, waits}
use Rattle.session_laws.proofs.Steadily.{steady-placed}
use Rattle.session_laws.proofs.OpenStreams.{answer_leaves_some, copy_leaves_some, opened_some}
use Rattle.session_laws.proofs.Lists.{get_push}
use Rattle.session_laws.proofs.Phases.{Phases, phase-entry}
use Rattle.session_laws.proofs.Steps.{along}

-- while the session goes on, no terminate was processed that ends it
abbrev pub NoTerminate : PlainSession → Type 0
NoTerminate s = is_over s ≡ false → list_any ends s.processed ≡ false

abbrev pub TerminateEnds : PlainSession → Type 0
TerminateEnds s = (before : List Processed) (one : Processed) → s.processed ≡ before ++ one ∷ [] → ends one ≡ true → s.ending ≡ Some (endings.Terminated (id_of one.copy))

-- while it goes on, a stream is open, as one was at each copy that was processed; where none is and no terminate ended the session, the
-- closing that was taken last did
pub record ClosingLists (ending : Option Ending) (processed : List Processed) (created : Answered) (answered : List Answered) : Type 0 where
  pub some : is_some ending ≡ false → (length (running_in processed answered) == 0) ≡ false
  pub each : (k : ℕ) (one : Processed) → slice_get processed k ≡ Some one → (length one.running == 0) ≡ false
  pub told : list_any ends processed ≡ false → running_in processed answered ≡ [] → (rid : ℕ) (closing : Closing)
      → TookClosing (last_from created answered) rid closing → ending ≡ Some (endings.Closed closing rid)

abbrev pub ClosingEnds : PlainSession → Type 0
ClosingEnds s = ClosingLists s.ending s.processed s.created s.answered

-- one is open
open_tells : (s : PlainSession) → (length (running s) == 0) ≡ false → ((k : ℕ) (one : Processed) → slice_get s.processed k ≡ Some one → (length one.running == 0) ≡ false) → ClosingEnds s
open_tells s some each = record {
  some = λ on. some;
  each = each;
  told = λ none empty rid closing took. absurd (true_false (sym (ap (λ (xs : List ℕ). length xs == 0) empty) ∙ some));
}

-- one was open when a terminate was processed
push_each : (s : PlainSession) (copy : RequestCopy) → is_over s ≡ false → ClosingEnds s → (k : ℕ) (one : Processed) → slice_get (s.processed ++ as_processed s copy ∷ []) k ≡ Some one → (length one.running == 0) ≡ false
push_each s copy on p k one at = elim (get_push s.processed (as_processed s copy) k one at) [
  | inl there ↦ p.each k one there
  | inr last ↦ sym (ap (λ (x : Processed). length x.running == 0) last.1) ∙ p.some on
]

-- the copy that follows broke a rule, if no terminate was processed
abbrev pub BreakerEnds : PlainSession → Type 0
BreakerEnds s = is_over s ≡ true → (copy : RequestCopy) → standing_at s (last_of s + 1) ≡ Some copy → list_any ends s.processed ≡ false → s.ending ≡ broken_rule (asked_of s) copy

abbrev pub SilenceEnds : PlainSession → Type 0
SilenceEnds s = length (held s) ≡ 0 → owes_nothing_beyond s ≡ true → quiet_of s + s.period * 1000 < s.now → s.ending ≡ Some (endings.Silent (quiet_of s) s.now)

-- a session that goes on has no ending
pub no_ending : (s : PlainSession) (ending : Ending) → is_over s ≡ false → s.ending ≡ Some ending → ⊥
no_ending s ending on is =
    let over : is_over s ≡ true = ap is_some is in
    true_false (sym over ∙ on)

pub over_or_on : (s : PlainSession) → is_over s ≡ true → is_over s ≡ false → ⊥
over_or_on s over on = true_false (sym over ∙ on)

pub last_push : {X : Type 0} (x : X) (xs : List X) (y : X) → last_from x (xs ++ y ∷ []) ≡ y
last_push x [] y = refl
last_push x (z ∷ xs) y = last_push z xs y

-- it is quiet since the last answer at the earliest
quiet_after : (s : PlainSession) → (last_answer s).moment ≤ quiet_of s
quiet_after s = split (λ quiet. (last_answer s).moment ≤ quiet) (length (beyond s) == 0) (last_told s) (max (last_told s) s.last_arrival) (λ none. omega arith) (λ some. omega arith)

-- while copies stand beyond a gap, since the last arrival at the earliest
quiet_beyond : (s : PlainSession) → (length (beyond s) == 0) ≡ false → s.last_arrival ≤ quiet_of s
quiet_beyond s gap = split (λ quiet. s.last_arrival ≤ quiet) (length (beyond s) == 0) (last_told s) (max (last_told s) s.last_arrival) (λ none. absurd (true_false (sym none ∙ gap))) (λ some. omega arith)

-- nothing is silent just after an answer
answered_now : (s : PlainSession) → s.now ≤ (last_answer s).moment → quiet_of s + s.period * 1000 < s.now → ⊥
answered_now s later silent = omega (arith, quiet_after s)

same_closing : (stream other : ℕ) (closing taken : Closing) → OfClosing stream closing ≡ OfClosing other taken → closing ≡ taken
same_closing stream other closing taken is = cc

-- the answer that was given last
module _ (s : PlainSession) (one : Processed) (front : Front) where
  pub answer_last : last_answer (with_answer s one front) ≡ record { rid = id_of one.copy; bytes = answer_text (answer_parts s one front); moment = s.now; front = front }
  answer_last = last_push s.created s.answered _

  answer_moment : s.now ≤ (last_answer (with_answer s one front)).moment
  answer_moment = omega (arith, ap (λ (a : Answered). a.moment) answer_last)

-- what is kept but for the time
abbrev Timeless : PlainSession → Type 0
Timeless s = IsSound s × IsClear s × NoTerminate s × TerminateEnds s × ClosingEnds s × BreakerEnds s

-- where an answer ended it, it was given now
abbrev EndedNow : PlainSession → Type 0
EndedNow s = is_over s ≡ true → s.now ≤ (last_answer s).moment

timeless_answering : Answering Timeless
timeless_answering = record {
  gives = λ s oldest later front is on reason due other p. (
    (answering IsSound sound_steady).gives s oldest later front is on reason due other p.0,
    p.1,
    p.2,
    p.3,
    open_tells (with_answer s oldest front) (answer_leaves_some s oldest front (p.4.some on) other) p.4.each,
    λ over. absurd (over_or_on s over on),
  );
  closes = λ s oldest later stream closing is on reason due last p. (
    (answering IsSound sound_steady).closes s oldest later stream closing is on reason due last p.0,
    λ goes. absurd (true_false goes),
    λ goes. absurd (true_false goes),
    λ before one same ends_so. absurd (no_ending s _ on (p.3 before one same ends_so)),
    record {
      some = λ goes. absurd (true_false goes);
      each = p.4.each;
      told = λ none empty rid taken took.
          let a = answer_last s oldest (OfClosing stream closing) in
          let id : id_of oldest.copy ≡ rid = sym (ap (λ (x : Answered). x.rid) a) ∙ took.0 in
          let same : closing ≡ taken = same_closing stream took.1.0 closing taken (sym (ap (λ (x : Answered). x.front) a) ∙ took.1.1) in
          ap (λ c. Some (endings.Closed c (id_of oldest.copy))) same ∙ ap (λ r. Some (endings.Closed taken r)) id;
    },
    λ over copy stands none. absurd (none_some (standing_at s (last_of s + 1)) copy (p.1 on) stands),
  );
}

now_answering : Answering EndedNow
now_answering = record {
  gives = λ s oldest later front is on reason due other p over. answer_moment s oldest front;
  closes = λ s oldest later stream closing is on reason due last p over. answer_moment s oldest (OfClosing stream closing);
}

silence_answering : Answering SilenceEnds
silence_answering = record {
  gives = λ s oldest later front is on reason due other p none nothing silent. absurd (answered_now (with_answer s oldest front) (answer_moment s oldest front) silent);
  closes = λ s oldest later stream closing is on reason due last p none nothing silent. absurd (answered_now (with_answer s oldest (OfClosing stream closing)) (answer_moment s oldest (OfClosing stream closing)) silent);
}

-- what every state keeps
abbrev pub Ends : PlainSession → Type 0
Ends s = IsSound s × IsClear s × NoTerminate s × TerminateEnds s × ClosingEnds s × BreakerEnds s × SilenceEnds s

timeless : (s : PlainSession) → Ends s → Timeless s
timeless s p = (p.0, p.1, p.2, p.3, p.4, p.5)

settles_ends : (s : PlainSession) → Ends s → Ends (settled s)
settles_ends s p =
    let t = settled-by Timeless timeless_answering s (timeless s p) in
    (t.0, t.1, t.2, t.3, t.4, t.5, settled-by SilenceEnds silence_answering s p.6)

zero_test : (n : ℕ) → n ≡ 0 → (n == 0) ≡ true
zero_test n is = grind (arith, nat_tests)

lt_test : (a b : ℕ) → a < b → nat_lt a b ≡ true
lt_test a b less = grind (arith, nat_tests)

both_hold : (a b : Bool) → a ≡ true → b ≡ true → (a && b) ≡ true
both_hold true b is also = also
both_hold false b is also = absurd (true_false (sym is))

-- where silence didn't end it, it wasn't silent
not_silent : (s : PlainSession) → EndedNow s → not (is_over s) && is_silent s ≡ false → SilenceEnds s
not_silent s ended_now none no_held nothing silent = elim (is_or_not (is_over s)) [
  | inl over ↦ absurd (answered_now s (ended_now over) silent)
  | inr on ↦ (
      let quiet : is_silent s ≡ false = ap (λ b. not b && is_silent s) (sym on) ∙ none in
      let due : is_silent_due s.period (quiet_of s) s.now ≡ false = not_both ((length (held s) == 0) && owes_nothing_beyond s) (is_silent_due s.period (quiet_of s) s.now) (both_hold (length (held s) == 0) (owes_nothing_beyond s) (zero_test (length (held s)) no_held) nothing) quiet in
      absurd (true_false (sym (lt_test (quiet_of s + s.period * 1000) s.now silent) ∙ due)))
]

timeless_striking : Striking Timeless
timeless_striking s rid on holds is p = (
  (waits IsSound sound_steady).strikes s rid on holds is p.0,
  λ goes. still_none s rid (last_of s + 1) (p.1 on),
  p.2,
  p.3,
  p.4,
  λ over. absurd (over_or_on s over on),
)

now_striking : Striking EndedNow
now_striking s rid on holds is p over = absurd (over_or_on s over on)

pub time_ends : (s : PlainSession) (now : ℕ) → is_over s ≡ false → Ends s → Ends (time_applied s now)
time_ends s now on p =
    let v : PlainSession = struck (settled (at_moment s now)) in
    let t = struck-by Timeless timeless_striking (settled (at_moment s now)) (settled-by Timeless timeless_answering (at_moment s now) (timeless s p)) in
    let e = struck-by EndedNow now_striking (settled (at_moment s now)) (settled-by EndedNow now_answering (at_moment s now) (λ over. absurd (over_or_on s over on))) in
    silenced_as Ends v
    (λ goes silent. (
      t.0,
      λ over. absurd (true_false over),
      λ over. absurd (true_false over),
      λ before one same ends_so. absurd (no_ending v _ goes (t.3 before one same ends_so)),
      open_tells (ended (endings.Silent (quiet_of v) v.now) v) (t.4.some goes) t.4.each,
      λ over copy stands none. absurd (none_some (standing_at v (last_of v + 1)) copy (t.1 goes) stands),
      λ none nothing later. refl,
    ))
    (λ none. (t.0, t.1, t.2, t.3, t.4, t.5, not_silent v e none))

-- what is kept while copies are processed
abbrev pub Underway : PlainSession → Type 0
Underway s = IsSound s × NoTerminate s × TerminateEnds s × ClosingEnds s × BreakerEnds s × SilenceEnds s

or_false : (a b : Bool) → a ≡ false → b ≡ false → a || b || false ≡ false
or_false a b is also = cc

pub any_push : (processed : List Processed) (one : Processed) (b : Bool) → ends one ≡ b → list_any ends (processed ++ one ∷ []) ≡ (list_any ends processed || (b || false))
any_push processed one b is = list_any-append ends processed (one ∷ []) ∙ ap (λ x. list_any ends processed || (x || false)) is

pub or_none : (a : Bool) → a ≡ false → (a || (false || false)) ≡ false
or_none true is = absurd (true_false is)
or_none false is = refl

or_some : (a : Bool) → (a || (true || false)) ≡ true
or_some true = refl
or_some false = refl

some_ends : (s : PlainSession) (copy : RequestCopy) → ends (as_processed s copy) ≡ true → list_any ends (s.processed ++ as_processed s copy ∷ []) ≡ true
some_ends s copy last = any_push s.processed (as_processed s copy) true last ∙ or_some (list_any ends s.processed)

held_some : (s : PlainSession) (copy : RequestCopy) → IsSound s → length (held (with_copy s copy)) ≡ 0 → ⊥
held_some s copy sound none = omega (arith, sound.few, none, length-drop (length s.answered) (s.processed ++ as_processed s copy ∷ []), length_push s.processed (as_processed s copy))

pub underway_processing : Processing Underway
underway_processing = record {
  processes = λ s copy on stands broken further p. (
    (processing IsSound sound_steady).processes s copy on stands broken further p.0,
    λ goes. any_push s.processed (as_processed s copy) false further ∙ or_none (list_any ends s.processed) (p.1 goes),
    λ before last same ends_so.
        let is : as_processed s copy ≡ last = (same_from_push s.processed before (as_processed s copy) last same).1 in
        absurd (true_false (sym ends_so ∙ ap ends (sym is) ∙ further)),
    open_tells (with_copy s copy) (copy_leaves_some s copy (p.3.some on) further) (push_each s copy on p.3),
    λ over. absurd (over_or_on s over on),
    λ none nothing silent. absurd (held_some s copy p.0 none),
  );
  terminates = λ s copy on stands broken last p. (
    (processing IsSound sound_steady).terminates s copy on stands broken last p.0,
    λ goes. absurd (true_false goes),
    λ before other same ends_so.
        let is : as_processed s copy ≡ other = (same_from_push s.processed before (as_processed s copy) other same).1 in
        ap (λ (x : Processed). Some (endings.Terminated (id_of x.copy))) is,
    record {
      some = λ goes. absurd (true_false goes);
      each = push_each s copy on p.3;
      told = λ none empty rid closing took. absurd (true_false (sym (some_ends s copy last) ∙ none));
    },
    λ over next stands_next none. absurd (true_false (sym (some_ends s copy last) ∙ none)),
    λ none nothing silent. absurd (held_some s copy p.0 none),
  );
  breaks = λ s copy ending on stands broken p. (
    p.0,
    λ goes. absurd (true_false goes),
    λ before other same ends_so. absurd (no_ending s _ on (p.2 before other same ends_so)),
    open_tells (ended ending s) (p.3.some on) p.3.each,
    λ over next stands_next none.
        let is : copy ≡ next = some_is copy next (sym stands ∙ stands_next) in
        sym broken ∙ ap (broken_rule (asked_of s)) is,
    λ none nothing silent. absurd (no_ending s _ on (p.5 none nothing silent)),
  );
}

some_more : (n : ℕ) → 1 ≤ n → (n == 0) ≡ false
some_more n more = grind (arith, nat_tests)

one_here : (b : Bool) (copy : RequestCopy) → b ≡ true → 1 ≤ length (if b then copy ∷ [] else [])
one_here true copy is = omega arith
one_here false copy is = absurd (true_false (sym is))

kept_one : (p : RequestCopy → Bool) (copies : List RequestCopy) (copy : RequestCopy) → p copy ≡ true → 1 ≤ length (filter p (copies ++ copy ∷ []))
kept_one p [] copy passes = one_here (p copy) copy passes
kept_one p (first ∷ copies) copy passes = split (λ (l : List RequestCopy). 1 ≤ length l) (p first) (first ∷ filter p (copies ++ copy ∷ [])) (filter p (copies ++ copy ∷ [])) (λ here. omega arith) (λ other. kept_one p copies copy passes)

-- a new copy stands beyond the last one
beyond_push : (s : PlainSession) (copy : RequestCopy) → last_of s < id_of copy → (length (beyond (placed s copy)) == 0) ≡ false
beyond_push s copy above =
    some_more (length (beyond (placed s copy)))
    (subst (λ (copies : List RequestCopy). 1 ≤ length (filter (λ (c : RequestCopy). nat_lt (last_of s) (id_of c)) copies)) (sym (standing_placed s copy))
    (kept_one (λ (c : RequestCopy). nat_lt (last_of s) (id_of c)) (standing s) copy (lt_test (last_of s) (id_of copy) above)))

pub placed_underway : (t : PlainSession) (copy : RequestCopy) → is_over t ≡ false → is_open t (id_of copy) ≡ false → id_of copy ≤ greatest_rid → Ends t → Underway (placed t copy)
placed_underway t copy on new small p =
    let apart = neither (nat_le (id_of copy) (last_of t)) (is_some (standing_at t (id_of copy))) new in (
      steady-placed IsSound sound_steady t copy new small p.0,
      p.2,
      p.3,
      p.4,
      λ over. absurd (over_or_on t over on),
      λ none nothing silent. absurd (omega (arith, quiet_beyond (placed t copy) (beyond_push t copy (leb-false (id_of copy) (last_of t) apart.0)))),
    )

places_ends : (t : PlainSession) (copy : RequestCopy) → is_over t ≡ false → is_open t (id_of copy) ≡ false → id_of copy ≤ greatest_rid → Ends t → Ends (advanced (placed t copy))
places_ends t copy on new small p =
    let q = placed_underway t copy on new small p in
    let a = advanced-by Underway underway_processing (placed t copy) q in
    (a.0, advanced_clear (placed t copy) q.0, a.1, a.2, a.3, a.4, a.5)

-- another arrival makes it quiet no earlier
reopened_silence : (t : PlainSession) (tickets : List Issued) → is_over t ≡ false → SilenceEnds t → SilenceEnds (record t { tickets = tickets; last_arrival = t.now })
reopened_silence t tickets on p none nothing silent = elim (is_or_not (length (beyond t) == 0)) [
  | inl empty ↦ (
      let was : quiet_of t ≡ last_told t = if_true (length (beyond t) == 0) (last_told t) (max (last_told t) t.last_arrival) empty in
      let now : quiet_of (record t { tickets = tickets; last_arrival = t.now }) ≡ last_told t = if_true (length (beyond t) == 0) (last_told t) (max (last_told t) t.now) empty in
      absurd (no_ending t _ on (p none nothing (omega (arith, was, now, silent)))))
  | inr gap ↦ absurd (omega (arith, quiet_beyond (record t { tickets = tickets; last_arrival = t.now }) gap, silent))
]

pub ends_phases : Phases Ends
ends_phases = record {
  time = time_ends;
  settles = settles_ends;
  places = λ t copy on later new within small now p. places_ends t copy on new small p;
  reopens = λ t tickets on p. (p.0, p.1, p.2, p.3, p.4, p.5, reopened_silence t tickets on p.6);
  ends = λ t ending on p. (
    p.0,
    λ goes. absurd (true_false goes),
    λ goes. absurd (true_false goes),
    λ before one same ends_so. absurd (no_ending t _ on (p.3 before one same ends_so)),
    open_tells (ended ending t) (p.4.some on) p.4.each,
    λ over copy stands none. absurd (none_some (standing_at t (last_of t + 1)) copy (p.1 on) stands),
    λ none nothing silent. absurd (no_ending t _ on (p.6 none nothing silent)),
  );
  gives = λ t item p. p;
  aside = λ t tickets passed counted p. p;
}

no_push : (before : List Processed) (one : Processed) → [] ≡ before ++ one ∷ [] → ⊥
no_push before one is = absurd (omega (arith, ap length is, length_push before one))

none_processed : (k : ℕ) (one : Processed) → slice_get [] k ≡ Some one → ⊥
none_processed k one at = cc

pub opened_ends : (o : Opening) → Ends (opened o)
opened_ends o = (
  opened_sound o,
  λ on. refl,
  λ on. refl,
  λ before one same ends_so. absurd (no_push before one same),
  open_tells (opened o) (opened_some o) (λ k one at. absurd (none_processed k one at)),
  λ over. absurd (true_false (sym over)),
  λ none nothing silent. absurd (omega (arith, quiet_after (opened o), silent)),
)

pub entry_ends : (s : PlainSession) (entered : Entered) → MayEnter s entered → Ends s → Ends (after_entry s entered)
entry_ends s entered may p = phase-entry Ends ends_phases s entered may p

pub every_ends : (journal : Journal) → IsJournal journal → Ends (state_of journal)
every_ends journal made = along (opened journal.opening) (λ past s. Ends s) (λ past s entry may same p. entry_ends s entry.entered may p) journal.entries made.1 (opened_ends journal.opening)
