-- What the moves of a session keep: each recursion of the machine is opened here, once.
use Rattle.std.proofs.Common.{◌≡◌, ℕ, zero, suc, ◌+◌, ◌-◌, ◌<◌, ◌≤◌, true, false, not, ◌&&◌, ◌||◌, ◌==◌, Bool, List, [], ◌∷◌, ◌++◌, map, filter, Option, Some, None, length, refl, ◌∙◌, arith, max}
use Rattle.bosh_types.specs.Rid.{greatest_rid}
use Rattle.bosh_types.specs.declared.ending.Closing.{Closing}
use Rattle.bosh_types.specs.declared.ending.Ending.{Ending}
use Rattle.bosh_types.specs.declared.ending.Ending.TheVariants as endings
use Rattle.session_core.specs.declared.copy.RequestCopy.{RequestCopy}
use Rattle.session_core.specs.declared.outward.Outward.{Outward}
use Rattle.session_core.specs.Answers.{has_reason, has_reason_for, front_for, with_answer, closed_by, answer_oldest, settled_in, settled, gives_reason, reasons}
use Rattle.std.specs.List.{list_any}
use Rattle.session_core.specs.Copy.{id_of}
use Rattle.session_core.specs.Endings.{ended}
use Rattle.session_core.specs.Gap.{ids_ahead, ids_from, is_to_strike, strike, strike_each, strike_ticket, struck}
use Rattle.session_core.specs.Machine.{as_processed, with_copy, unless_terminate, process, next_copy, advanced_in, advanced}
use Rattle.session_core.specs.declared.outward.Front.{Front}
use Rattle.session_core.specs.declared.outward.Front.TheVariants.{OfStanzas, OfClosing}
use Rattle.session_core.specs.Processed.{Processed, ends}
use Rattle.session_core.specs.Rules.{broken_rule, asked_of}
use Rattle.session_core.specs.State.{PlainSession, Issued, Stands, Strikes, last_of, held, running, standing_at, is_over}
use Rattle.session_core.specs.Time.{at_moment, quiet_of, is_silent, silenced, time_applied}
use Rattle.session_core.proofs.StruckLemmas.{test_other}
use Rattle.session_laws.proofs.Tests.{split, neither, none_or, both_true, not_true}

-- an answer took a closing after which no stream is open
abbrev pub takes_last : PlainSession → Front → Bool
takes_last s (OfStanzas items) = false
takes_last s (OfClosing stream closing) = length (running s) == 0

-- what is kept while held requests are answered
pub record Answering (P : PlainSession → Type 0) : Type 0 where
  pub gives : (s : PlainSession) (oldest : Processed) (later : List Processed) (front : Front)
      → held s ≡ oldest ∷ later → is_over s ≡ false → has_reason s ≡ true → front_for s oldest ≡ front
      → takes_last (with_answer s oldest front) front ≡ false → P s → P (with_answer s oldest front)
  pub closes : (s : PlainSession) (oldest : Processed) (later : List Processed) (stream : ℕ) (closing : Closing)
      → held s ≡ oldest ∷ later → is_over s ≡ false → has_reason s ≡ true → front_for s oldest ≡ OfClosing stream closing
      → takes_last (with_answer s oldest (OfClosing stream closing)) (OfClosing stream closing) ≡ true
      → P s → P (ended (endings.Closed closing (id_of oldest.copy)) (with_answer s oldest (OfClosing stream closing)))

-- what is kept while copies are processed
pub record Processing (P : PlainSession → Type 0) : Type 0 where
  pub processes : (s : PlainSession) (copy : RequestCopy) → is_over s ≡ false → standing_at s (last_of s + 1) ≡ Some copy
      → broken_rule (asked_of s) copy ≡ None → ends (as_processed s copy) ≡ false → P s → P (with_copy s copy)
  pub terminates : (s : PlainSession) (copy : RequestCopy) → is_over s ≡ false → standing_at s (last_of s + 1) ≡ Some copy
      → broken_rule (asked_of s) copy ≡ None → ends (as_processed s copy) ≡ true → P s → P (ended (endings.Terminated (id_of copy)) (with_copy s copy))
  pub breaks : (s : PlainSession) (copy : RequestCopy) (ending : Ending) → is_over s ≡ false → standing_at s (last_of s + 1) ≡ Some copy
      → broken_rule (asked_of s) copy ≡ Some ending → P s → P (ended ending s)

-- what is kept where the copy of an id is struck
abbrev pub Striking : (PlainSession → Type 0) → Type 0
Striking P = (s : PlainSession) (rid : ℕ) → is_over s ≡ false → s.terms.polled ≡ false → is_to_strike s rid ≡ true → P s → P (strike s rid)

-- what is kept while time passes
pub record Waiting (P : PlainSession → Type 0) : Type 0 where
  pub moves : (s : PlainSession) (now : ℕ) → P s → P (at_moment s now)
  pub strikes : Striking P
  pub silences : (s : PlainSession) → is_over s ≡ false → is_silent s ≡ true → P s → P (ended (endings.Silent (quiet_of s) s.now) s)

-- a session that has a reason goes on, and holds a request
pub goes_on : (s : PlainSession) (copies : List Processed) → has_reason_for s copies ≡ true → is_over s ≡ false
goes_on s [] is = absurd (cc)
goes_on s (oldest ∷ later) is = not_true (is_over s) (both_true (not (is_over s)) (list_any (gives_reason s oldest) reasons) is).0

module _ (P : PlainSession → Type 0) where
  closed-by : Answering P → (s : PlainSession) (oldest : Processed) (later : List Processed) → held s ≡ oldest ∷ later → is_over s ≡ false → has_reason s ≡ true
      → P s → (front : Front) → front_for s oldest ≡ front → P (closed_by (id_of oldest.copy) front (with_answer s oldest front))
  closed-by keeps s oldest later is on reason p (OfStanzas items) front = keeps.gives s oldest later (OfStanzas items) is on reason front refl p
  closed-by keeps s oldest later is on reason p (OfClosing stream closing) front =
      let u : PlainSession = with_answer s oldest (OfClosing stream closing) in
      split P (length (running u) == 0) (ended (endings.Closed closing (id_of oldest.copy)) u) u
      (λ last. keeps.closes s oldest later stream closing is on reason front last p)
      (λ other. keeps.gives s oldest later (OfClosing stream closing) is on reason front other p)

  answered-by : Answering P → (s : PlainSession) → is_over s ≡ false → has_reason s ≡ true → P s → (copies : List Processed) → held s ≡ copies → P (answer_oldest s copies)
  answered-by keeps s on reason p [] is = p
  answered-by keeps s on reason p (oldest ∷ later) is = closed-by keeps s oldest later is on reason p (front_for s oldest) refl

  pub settled_in-by : Answering P → (count : ℕ) (s : PlainSession) → P s → P (settled_in count s)
  settled_in-by keeps zero s p = p
  settled_in-by keeps (suc count) s p = split P (has_reason s) (settled_in count (answer_oldest s (held s))) s
      (λ reason. settled_in-by keeps count (answer_oldest s (held s)) (answered-by keeps s (goes_on s (held s) reason) reason p (held s) refl))
      (λ none. p)

  pub settled-by : Answering P → (s : PlainSession) → P s → P (settled s)
  settled-by keeps s p = settled_in-by keeps (length (held s)) s p

  processed-by : Processing P → (s : PlainSession) (copy : RequestCopy) → is_over s ≡ false → standing_at s (last_of s + 1) ≡ Some copy → P s
      → (o : Option Ending) → broken_rule (asked_of s) copy ≡ o → P (elim o [ Some ending ↦ ended ending s | None ↦ unless_terminate (with_copy s copy) (as_processed s copy) ])
  processed-by keeps s copy on stands p (Some ending) broken = keeps.breaks s copy ending on stands broken p
  processed-by keeps s copy on stands p None broken = split P (ends (as_processed s copy)) (ended (endings.Terminated (id_of copy)) (with_copy s copy)) (with_copy s copy)
      (λ last. keeps.terminates s copy on stands broken last p)
      (λ further. keeps.processes s copy on stands broken further p)

  pub process-by : Processing P → (s : PlainSession) (copy : RequestCopy) → is_over s ≡ false → standing_at s (last_of s + 1) ≡ Some copy → P s → P (process s copy)
  process-by keeps s copy on stands p = processed-by keeps s copy on stands p (broken_rule (asked_of s) copy) refl

  next-by : (s : PlainSession) (count : ℕ) (o : Option RequestCopy) → P s → ((copy : RequestCopy) → o ≡ Some copy → P (advanced_in count (process s copy)))
      → P (elim o [ None ↦ s | Some copy ↦ advanced_in count (process s copy) ])
  next-by s count None p more = p
  next-by s count (Some copy) p more = more copy refl

  pub advanced_in-by : Processing P → (count : ℕ) (s : PlainSession) → P s → P (advanced_in count s)
  advanced_in-by keeps zero s p = p
  advanced_in-by keeps (suc count) s p = next-by s count (next_copy s) p
      (λ copy is.
      let next = none_or (is_over s) (standing_at s (last_of s + 1)) copy is in
      advanced_in-by keeps count (process s copy) (process-by keeps s copy next.0 next.1 p))

  pub advanced-by : Processing P → (s : PlainSession) → P s → P (advanced s)
  advanced-by keeps s p = advanced_in-by keeps (greatest_rid - last_of s) s p

  -- what holds where silence ends it, and where it doesn't
  pub silenced_as : (s : PlainSession) → (is_over s ≡ false → is_silent s ≡ true → P (ended (endings.Silent (quiet_of s) s.now) s)) → (not (is_over s) && is_silent s ≡ false → P s) → P (silenced s)
  silenced_as s silent other = split P (not (is_over s) && is_silent s) (ended (endings.Silent (quiet_of s) s.now) s) s
      (λ is.
      let both = both_true (not (is_over s)) (is_silent s) is in
      silent (not_true (is_over s) both.0) both.1)
      other

  silenced-by : Waiting P → (s : PlainSession) → P s → P (silenced s)
  silenced-by keeps s p = split P (not (is_over s) && is_silent s) (ended (endings.Silent (quiet_of s) s.now) s) s
      (λ is.
      let both = both_true (not (is_over s)) (is_silent s) is in
      keeps.silences s (not_true (is_over s) both.0) both.1 p)
      (λ none. p)

  -- copies are struck one after the other, each where it is to be struck when its turn comes
  strikes-by : Striking P → (s u : PlainSession) (first count : ℕ) → is_over u ≡ false → u.terms.polled ≡ false
      → ((rid : ℕ) → first ≤ rid → is_to_strike u rid ≡ is_to_strike s rid) → P u → P (strike_each (filter (is_to_strike s) (ids_from first count)) u)
  strikes-by keeps s u first zero on holds same p = p
  strikes-by keeps s u first (suc count) on holds same p =
      split (λ (rids : List ℕ). P (strike_each rids u)) (is_to_strike s first) (first ∷ filter (is_to_strike s) (ids_from (first + 1) count)) (filter (is_to_strike s) (ids_from (first + 1) count))
      (λ is. strikes-by keeps s (strike u first) (first + 1) count on holds
      (λ rid later. test_other u first rid (λ here. absurd (omega (arith, here, later))) ∙ same rid (omega (arith, later)))
      (keeps u first on holds (same first (omega arith) ∙ is) p))
      (λ none. strikes-by keeps s u (first + 1) count on holds (λ rid later. same rid (omega (arith, later))) p)

  pub struck-by : Striking P → (s : PlainSession) → P s → P (struck s)
  struck-by keeps s p = split (λ (rids : List ℕ). P (strike_each rids s)) (is_over s || s.terms.polled) [] (filter (is_to_strike s) (ids_ahead s))
      (λ never. p)
      (λ goes.
      let both = neither (is_over s) s.terms.polled goes in
      strikes-by keeps s s (last_of s + 1) (s.terms.requests + 1) both.0 both.1 (λ rid later. refl) p)

  pub time_applied-by : Waiting P → Answering P → (s : PlainSession) (now : ℕ) → P s → P (time_applied s now)
  time_applied-by time keeps s now p =
      silenced-by time (struck (settled (at_moment s now))) (struck-by time.strikes (settled (at_moment s now)) (settled-by keeps (at_moment s now) (time.moves s now p)))

-- what is kept by every move of a session, whatever ends it
pub record Steady (P : PlainSession → Type 0) : Type 0 where
  pub ends : (s : PlainSession) (ending : Ending) → is_over s ≡ false → P s → P (ended ending s)
  pub aside : (s : PlainSession) (tickets : List Issued) (now last_arrival passed counted : ℕ) → P s
      → P (record s { tickets = tickets; now = now; last_arrival = last_arrival; passed = passed; counted = counted })
  pub answers : (s : PlainSession) (oldest : Processed) (later : List Processed) (front : Front)
      → held s ≡ oldest ∷ later → is_over s ≡ false → has_reason s ≡ true → front_for s oldest ≡ front → P s → P (with_answer s oldest front)
  pub processes : (s : PlainSession) (copy : RequestCopy) → is_over s ≡ false → standing_at s (last_of s + 1) ≡ Some copy
      → broken_rule (asked_of s) copy ≡ None → P s → P (with_copy s copy)
  pub stands : (s : PlainSession) (copy : RequestCopy) → last_of s < id_of copy → standing_at s (id_of copy) ≡ None → id_of copy ≤ greatest_rid
      → P s → P (record s { placings = s.placings ++ Stands copy ∷ [] })
  pub strikes : (s : PlainSession) (rid : ℕ) → is_over s ≡ false → is_to_strike s rid ≡ true → P s → P (record s { placings = s.placings ++ Strikes rid s.now ∷ [] })
  pub gives : (s : PlainSession) (item : Outward) → P s → P (record s { given = s.given ++ item ∷ [] })

module _ (P : PlainSession → Type 0) (steady : Steady P) where
  pub answering : Answering P
  answering = record {
    gives = λ s oldest later front is on reason due other p. steady.answers s oldest later front is on reason due p;
    closes = λ s oldest later stream closing is on reason due last p.
        steady.ends (with_answer s oldest (OfClosing stream closing)) (endings.Closed closing (id_of oldest.copy)) on (steady.answers s oldest later (OfClosing stream closing) is on reason due p);
  }

  pub processing : Processing P
  processing = record {
    processes = λ s copy on stands broken further p. steady.processes s copy on stands broken p;
    terminates = λ s copy on stands broken last p. steady.ends (with_copy s copy) (endings.Terminated (id_of copy)) on (steady.processes s copy on stands broken p);
    breaks = λ s copy ending on stands broken p. steady.ends s ending on p;
  }

  pub waits : Waiting P
  waits = record {
    moves = λ s now p. steady.aside s s.tickets (max s.now now) s.last_arrival s.passed s.counted p;
    strikes = λ s rid on holds is p.
        steady.aside (record s { placings = s.placings ++ Strikes rid s.now ∷ [] }) (map (strike_ticket rid) s.tickets) s.now s.last_arrival s.passed s.counted (steady.strikes s rid on is p);
    silences = λ s on silent p. steady.ends s (endings.Silent (quiet_of s) s.now) on p;
  }
