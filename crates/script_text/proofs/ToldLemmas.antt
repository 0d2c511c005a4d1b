-- What the lines of one turn tell of their session, and that they tell nothing of others.
use Rattle.std.proofs.Common.{◌≡◌, ℕ, ◌≤◌, ◌==◌, Bool, true, false, List, [], ◌∷◌, ◌++◌, All, Option, Some, None, length, take, map, refl, sym, ◌∙◌, ap, cond, append_assoc, take-append-drop, if◌then◌else◌}
use Rattle.std.specs.Prelude.{filter}
use Rattle.std.proofs.lemmas.Bool.{eq-eqb}
use Rattle.std.proofs.lemmas.List.Elements.{filter-append, All-nil, All-cons, All-append}
use Rattle.bosh_types.specs.declared.ending.Ending.{Ending}
use Rattle.bosh_types.specs.declared.inward.Inward.{Inward}
use Rattle.session_core.specs.declared.replies.Collected.{Collected}
use Rattle.session_core.specs.declared.replies.Collected.TheVariants as collections
use Rattle.session_core.specs.Journal.{Collect, Journal, IsJournal, state_of}
use Rattle.session_core.specs.State.{PlainSession, inward}
use Rattle.script_text.specs.declared.live.Parked.{Parked}
use Rattle.script_text.specs.declared.report.ReportLine.{ReportLine}
use Rattle.script_text.specs.declared.report.ReportLine.TheVariants.{In, Out, Lost, Gone, Over}
use Rattle.script_text.specs.Headline.{is_opened, NamesOpened, tells_of}
use Rattle.session_calls.specs.After.{after_call, all_taken, untaken}
use Rattle.script_text.specs.Live.{PlainLive, state, Turn, fate, fate_lines, collected_lines, over_lines, settled_after, told}
use Rattle.script_text.proofs.JournalSteps.{all_are_taken, all_are_collected}

-- a number is itself
pub same_number : (n : ℕ) → (n == n) ≡ true
same_number n = eq-eqb n n refl

module _ {X : Type 0} (p : X → Bool) where
  pub filter_yes : (x : X) (xs : List X) → p x ≡ true → filter p (x ∷ xs) ≡ x ∷ filter p xs
  filter_yes x xs is = ap (λ b. cond b (x ∷ filter p xs) (filter p xs)) is

  pub filter_no : (x : X) (xs : List X) → p x ≡ false → filter p (x ∷ xs) ≡ filter p xs
  filter_no x xs is = ap (λ b. cond b (x ∷ filter p xs) (filter p xs)) is

  pub filter_none : (xs ys : List X) → filter p xs ≡ [] → filter p ys ≡ [] → filter p (xs ++ ys) ≡ []
  filter_none xs ys x_none y_none = filter-append p xs ys ∙ ap (λ l. l ++ filter p ys) x_none ∙ y_none

-- lines that tell of no session, and name none
pub record TellNone (lines : List ReportLine) : Type 0 where
  pub silent : (number : ℕ) → filter (tells_of number) lines ≡ []
  pub named : (opened : ℕ) → All (NamesOpened opened) lines

pub none_of_none : TellNone []
none_of_none = record { silent = λ number. refl; named = λ opened. All-nil (NamesOpened opened) }

pub none_append : (lines others : List ReportLine) → TellNone lines → TellNone others → TellNone (lines ++ others)
none_append lines others one other = record {
  silent = λ number. filter_none (tells_of number) lines others (one.silent number) (other.silent number);
  named = λ opened. All-append (NamesOpened opened) lines others (one.named opened) (other.named opened);
}

pub none_out : (conn : ℕ) (body : List ℕ) → TellNone (Out conn body ∷ [])
none_out conn body = record { silent = λ number. refl; named = λ opened. All-cons (NamesOpened opened) (Out conn body) [] tt (All-nil (NamesOpened opened)) }

none_lost : (conn : ℕ) → TellNone (Lost conn ∷ [])
none_lost conn = record { silent = λ number. refl; named = λ opened. All-cons (NamesOpened opened) (Lost conn) [] tt (All-nil (NamesOpened opened)) }

none_gone : (conn : ℕ) → TellNone (Gone conn ∷ [])
none_gone conn = record { silent = λ number. refl; named = λ opened. All-cons (NamesOpened opened) (Gone conn) [] tt (All-nil (NamesOpened opened)) }

answer_none : (is_open : Bool) (conn : ℕ) (body : List ℕ) → TellNone ((if is_open then Out conn body else Lost conn) ∷ [])
answer_none true conn body = none_out conn body
answer_none false conn body = none_lost conn

gone_none : (is_open : Bool) (conn : ℕ) → TellNone (if is_open then Gone conn ∷ [] else [])
gone_none true conn = none_gone conn
gone_none false conn = none_of_none

fate_none : (parked : Parked) (collected : Collected) → TellNone (fate_lines parked collected)
fate_none parked (collections.Answer body) = answer_none parked.is_open parked.conn body
fate_none parked collections.NotYet = none_of_none
fate_none parked collections.Superseded = gone_none parked.is_open parked.conn
fate_none parked collections.UnknownTicket = none_of_none

collected_none : (parked : List Parked) (journal : Journal) → TellNone (collected_lines journal parked)
collected_none [] journal = none_of_none
collected_none (first ∷ parked) journal = none_append (fate_lines first (fate journal first)) (collected_lines (after_call journal (Collect first.ticket)) parked)
    (fate_none first (fate journal first)) (collected_none parked (after_call journal (Collect first.ticket)))

-- Items and endings.

own_items : (n : ℕ) (items : List Inward) → filter (tells_of n) (map (In n) items) ≡ map (In n) items
own_items n [] = refl
own_items n (item ∷ items) = filter_yes (tells_of n) (In n item) (map (In n) items) (same_number n) ∙ ap (λ l. In n item ∷ l) (own_items n items)

other_items : (n k : ℕ) → (n == k) ≡ false → (items : List Inward) → filter (tells_of k) (map (In n) items) ≡ []
other_items n k other [] = refl
other_items n k other (item ∷ items) = filter_no (tells_of k) (In n item) (map (In n) items) other ∙ other_items n k other items

named_items : (n opened : ℕ) → is_opened opened n ≡ true → (items : List Inward) → All (NamesOpened opened) (map (In n) items)
named_items n opened is [] = All-nil (NamesOpened opened)
named_items n opened is (item ∷ items) = All-cons (NamesOpened opened) (In n item) (map (In n) items) is (named_items n opened is items)

own_over : (n : ℕ) (ending : Option Ending) → filter (tells_of n) (over_lines n ending) ≡ over_lines n ending
own_over n None = refl
own_over n (Some ending) = filter_yes (tells_of n) (Over n ending) [] (same_number n)

other_over : (n k : ℕ) → (n == k) ≡ false → (ending : Option Ending) → filter (tells_of k) (over_lines n ending) ≡ []
other_over n k other None = refl
other_over n k other (Some ending) = filter_no (tells_of k) (Over n ending) [] other

named_over : (n opened : ℕ) → is_opened opened n ≡ true → (ending : Option Ending) → All (NamesOpened opened) (over_lines n ending)
named_over n opened is None = All-nil (NamesOpened opened)
named_over n opened is (Some ending) = All-cons (NamesOpened opened) (Over n ending) [] is (All-nil (NamesOpened opened))

-- Turns.

-- what was taken inward so far
abbrev pub taken : PlainLive → List Inward
taken s = take (state s).passed (inward (state s))

-- after a turn everything that may go inward is told, and the ending
pub record IsTurnOf (s : PlainLive) (turn : Turn) : Type 0 where
  pub number : turn.after.number ≡ s.number
  pub made : IsJournal turn.after.journal
  pub all : (state turn.after).passed ≡ length (inward (state turn.after))
  pub own : map (In s.number) (taken s) ++ filter (tells_of s.number) turn.lines
      ≡ map (In s.number) (inward (state turn.after)) ++ over_lines s.number (state turn.after).ending
  pub others : (number : ℕ) → (s.number == number) ≡ false → filter (tells_of number) turn.lines ≡ []
  pub named : (opened : ℕ) → is_opened opened s.number ≡ true → All (NamesOpened opened) turn.lines

map_append : {X Y : Type 0} (f : X → Y) (xs ys : List X) → map f (xs ++ ys) ≡ map f xs ++ map f ys
map_append f [] ys = refl
map_append f (x ∷ xs) ys = ap (λ l. f x ∷ l) (map_append f xs ys)

module _ (s : PlainLive) (answer : List ReportLine) (made : IsJournal s.journal) (few : (state s).passed ≤ length (inward (state s))) (none : TellNone answer) where
  abbrev items : List ReportLine
  items = map (In s.number) (untaken s.journal)

  abbrev collected : List ReportLine
  collected = collected_lines (all_taken s.journal) s.parked

  abbrev last_lines : List ReportLine
  last_lines = over_lines s.number (state (settled_after s)).ending

  middle : TellNone (answer ++ collected)
  middle = none_append answer collected none (collected_none s.parked (all_taken s.journal))

  taken_all : IsJournal (all_taken s.journal) × (state_of (all_taken s.journal) ≡ record (state s) { passed = length (inward (state s)) })
  taken_all = all_are_taken s.journal made few

  settled_is : IsJournal (settled_after s).journal × ((state (settled_after s)).passed ≡ length (inward (state s))) × (inward (state (settled_after s)) ≡ inward (state s))
  settled_is =
      let rest = all_are_collected s.parked (all_taken s.journal) taken_all.0 in (
        rest.0,
        ap (λ (t : PlainSession). t.passed) (rest.1).1 ∙ ap (λ (t : PlainSession). t.passed) taken_all.1,
        ap (λ (t : PlainSession). inward t) (rest.1).1 ∙ ap (λ (t : PlainSession). inward t) taken_all.1,
      )

  -- telling doesn't end a session
  pub settled_ending : (state (settled_after s)).ending ≡ (state s).ending
  settled_ending =
      let rest = all_are_collected s.parked (all_taken s.journal) taken_all.0 in
      ap (λ (t : PlainSession). t.ending) (rest.1).1 ∙ ap (λ (t : PlainSession). t.ending) taken_all.1

  told_own : filter (tells_of s.number) (told s answer).lines ≡ items ++ last_lines
  told_own =
      filter-append (tells_of s.number) items (answer ++ (collected ++ last_lines))
      ∙ ap (λ l. l ++ filter (tells_of s.number) (answer ++ (collected ++ last_lines))) (own_items s.number (untaken s.journal))
      ∙ ap (λ l. items ++ filter (tells_of s.number) l) (sym (append_assoc answer collected last_lines))
      ∙ ap (λ l. items ++ l) (filter-append (tells_of s.number) (answer ++ collected) last_lines)
      ∙ ap (λ l. items ++ (l ++ filter (tells_of s.number) last_lines)) (middle.silent s.number)
      ∙ ap (λ l. items ++ l) (own_over s.number (state (settled_after s)).ending)

  told_others : (number : ℕ) → (s.number == number) ≡ false → filter (tells_of number) (told s answer).lines ≡ []
  told_others number other =
      filter_none (tells_of number) items (answer ++ (collected ++ last_lines)) (other_items s.number number other (untaken s.journal))
      (filter_none (tells_of number) answer (collected ++ last_lines) (none.silent number)
      (filter_none (tells_of number) collected last_lines ((collected_none s.parked (all_taken s.journal)).silent number) (other_over s.number number other (state (settled_after s)).ending)))

  told_named : (opened : ℕ) → is_opened opened s.number ≡ true → All (NamesOpened opened) (told s answer).lines
  told_named opened is =
      All-append (NamesOpened opened) items (answer ++ (collected ++ last_lines)) (named_items s.number opened is (untaken s.journal))
      (All-append (NamesOpened opened) answer (collected ++ last_lines) (none.named opened)
      (All-append (NamesOpened opened) collected last_lines ((collected_none s.parked (all_taken s.journal)).named opened) (named_over s.number opened is (state (settled_after s)).ending)))

  -- a session that is told of, with what had been taken of it before
  pub told_turn : IsTurnOf s (told s answer)
  told_turn = record {
    number = refl;
    made = settled_is.0;
    all = settled_is.1 ∙ sym (ap length settled_is.2);
    own = ap (λ l. map (In s.number) (taken s) ++ l) told_own
        ∙ sym (append_assoc (map (In s.number) (taken s)) items last_lines)
        ∙ ap (λ l. l ++ last_lines) (sym (map_append (In s.number) (taken s) (untaken s.journal)))
        ∙ ap (λ l. map (In s.number) l ++ last_lines) (take-append-drop (state s).passed (inward (state s)))
        ∙ ap (λ l. map (In s.number) l ++ last_lines) (sym settled_is.2);
    others = told_others;
    named = told_named;
  }
