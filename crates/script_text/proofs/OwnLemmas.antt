-- What a line enters of a session, and that nothing is entered after it but what is taken and collected.
use Rattle.std.proofs.Common.{◌≡◌, ℕ, zero, suc, Bool, true, false, not, List, [], ◌∷◌, ◌++◌, All, Option, Some, None, length, is_some, refl, sym, subst, ◌∙◌, ap, append_assoc, if◌then◌else◌}
use Rattle.std.proofs.lemmas.List.{append-nil}
use Rattle.std.proofs.lemmas.List.Elements.{All-nil, All-cons, All-append}
use Rattle.session_attrs.specs.declared.request.Request.{Request}
use Rattle.session_core.specs.declared.replies.Arrived.{Arrived}
use Rattle.session_core.specs.declared.replies.Arrived.TheVariants as arrivals
use Rattle.session_core.specs.declared.replies.Collected.{Collected}
use Rattle.session_core.specs.declared.replies.Collected.TheVariants as collections
use Rattle.session_core.specs.declared.replies.Ticked.{Ticked}
use Rattle.session_core.specs.declared.replies.Ticked.TheVariants.{Changed, Quiet}
use Rattle.session_core.specs.Copy.{unnamed}
use Rattle.session_core.specs.Journal.{Call, Arrive, Back, BackClosed, Collect, Tick, TakeInward, Arrival, ServerStanza, ServerClosing, Time, Entered, Made, Entry, Journal, collected_entry, entered_by, state_of, within_limit}
use Rattle.session_core.specs.Machine.{arrive, back, back_closed, collect, is_full, plain_cost, take_inward, tick}
use Rattle.session_core.specs.State.{PlainSession, is_over}
use Rattle.session_core.specs.Time.{is_due}
use Rattle.session_laws.specs.Growing.{with_later}
use Rattle.session_laws.proofs.Tests.{if_false, not_false, not_true, split, true_false}
use Rattle.session_calls.specs.After.{after_call, all_taken, untaken, with_entered, with_taken}
use Rattle.script_text.specs.declared.event.Event.{Event}
use Rattle.script_text.specs.declared.event.Event.TheVariants.{Arrives, Gives, Shuts, Passes}
use Rattle.script_text.specs.declared.live.Parked.{Parked}
use Rattle.script_text.specs.declared.report.ReportLine.{ReportLine}
use Rattle.script_text.specs.declared.report.ReportLine.TheVariants.{Out}
use Rattle.script_text.specs.Entered.{GoesOnWith, IsOwn}
use Rattle.script_text.specs.Live.{PlainLive, all_collected, arrived, not_found, state, told, ticked, turn_at, with_journal, with_parked}

-- a journal with no more than what was taken and collected
abbrev pub Owns : Journal → Journal → Type 0
Owns before after = (rest : List Entry) × (after ≡ with_later before rest) × All IsOwn rest

owns_none : (journal : Journal) → Owns journal journal
owns_none journal = ([], ap (λ (l : List Entry). record journal { entries = l }) (sym (append-nil journal.entries)), All-nil IsOwn)

owns_on : (one two three : Journal) → Owns one two → Owns two three → Owns one three
owns_on one two three (rest, is, own) (more, then_is, then_own) = (
  rest ++ more,
  then_is ∙ ap (λ (j : Journal). with_later j more) is ∙ ap (λ (l : List Entry). record one { entries = l }) (append_assoc one.entries rest more),
  All-append IsOwn rest more own then_own,
)

owns_one : (journal : Journal) (call : Call) → IsOwn (record { caller = 0; entered = Made call }) → Owns journal (with_entered journal (Some (Made call)))
owns_one journal call own = (record { caller = 0; entered = Made call } ∷ [], refl, All-cons IsOwn (record { caller = 0; entered = Made call }) [] own (All-nil IsOwn))

taken_owns : (journal : Journal) → Owns journal (after_call journal TakeInward)
taken_owns journal = by (is_some (take_inward (state_of journal)).1)
  where
    by : (b : Bool) → Owns journal (with_entered journal (if b then Some (Made TakeInward) else None))
    by true = owns_one journal TakeInward tt
    by false = owns_none journal

collected_owns : (journal : Journal) (ticket : ℕ) → Owns journal (after_call journal (Collect ticket))
collected_owns journal ticket = by (collect (state_of journal) ticket).1
  where
    by : (reply : Collected) → Owns journal (with_entered journal (collected_entry (state_of journal) (Collect ticket) reply))
    by (collections.Answer body) = owns_one journal (Collect ticket) tt
    by collections.NotYet = owns_none journal
    by collections.Superseded = owns_one journal (Collect ticket) tt
    by collections.UnknownTicket = owns_none journal

all_taken_own : (count : ℕ) (journal : Journal) → Owns journal (with_taken count journal)
all_taken_own zero journal = owns_none journal
all_taken_own (suc count) journal = owns_on journal (after_call journal TakeInward) _ (taken_owns journal) (all_taken_own count (after_call journal TakeInward))

all_collected_own : (parked : List Parked) (journal : Journal) → Owns journal (all_collected journal parked)
all_collected_own [] journal = owns_none journal
all_collected_own (first ∷ parked) journal =
    owns_on journal (after_call journal (Collect first.ticket)) _ (collected_owns journal first.ticket) (all_collected_own parked (after_call journal (Collect first.ticket)))

pub told_owns : (s : PlainLive) (answer : List ReportLine) → Owns s.journal (told s answer).after.journal
told_owns s answer = owns_on s.journal (all_taken s.journal) _ (all_taken_own (length (untaken s.journal)) s.journal) (all_collected_own s.parked (all_taken s.journal))

-- what comes to a live session enters this
abbrev pub event_entry : ℕ → Event → PlainLive → Option Entered
event_entry now (Arrives conn request body) s = Some (within_limit (state s) Arrival now (Arrive request body now))
event_entry now (Gives stream stanza) s = Some (within_limit (state s) ServerStanza now (Back stream stanza now))
event_entry now (Shuts stream closing) s = Some (within_limit (state s) ServerClosing now (BackClosed stream closing now))
event_entry now Passes s = if is_due (state s) now then Some (within_limit (state s) Time now (Tick now)) else None

module _ (s : PlainLive) (call : Call) (e : Entered) (is : entered_by (state s) call ≡ Some e) where
  called_goes : (parked : List Parked) (answer : List ReportLine)
      → GoesOnWith (Some e) s.journal (told (record s { journal = after_call s.journal call; parked = parked }) answer).after.journal
  called_goes parked answer = subst (λ j. Owns j (told (record s { journal = after_call s.journal call; parked = parked }) answer).after.journal) (ap (with_entered s.journal) is)
      (told_owns (record s { journal = after_call s.journal call; parked = parked }) answer)

  arrived_goes : (conn : ℕ) (reply : Arrived) → GoesOnWith (Some e) s.journal (arrived (with_journal s (after_call s.journal call)) conn reply).after.journal
  arrived_goes conn (arrivals.Answer body) = called_goes s.parked (Out conn body ∷ [])
  arrived_goes conn (arrivals.Parked ticket) = called_goes (with_parked s ticket conn).parked []
  arrived_goes conn arrivals.Over = called_goes s.parked (not_found conn ∷ [])

pub quiet_is : (s : PlainSession) (now : ℕ) → is_due s now ≡ false → (tick s now).1 ≡ Quiet
quiet_is s now none = split (λ (r : PlainSession × Ticked). r.1 ≡ Quiet) (not (is_due s now)) _ _
    (λ quiet. refl)
    (λ due. absurd (true_false (sym (not_false (is_due s now) due) ∙ none)))

pub changed_is : (s : PlainSession) (now : ℕ) → is_due s now ≡ true → (tick s now).1 ≡ Changed
changed_is s now due = split (λ (r : PlainSession × Ticked). r.1 ≡ Changed) (not (is_due s now)) _ _
    (λ quiet. absurd (true_false (sym due ∙ not_true (is_due s now) quiet)))
    (λ goes. split (λ (r : PlainSession × Ticked). r.1 ≡ Changed) (is_full s plain_cost) _ _ (λ full. refl) (λ room. refl))

module _ (s : PlainLive) (on : is_over (state s) ≡ false) (now : ℕ) where
  unended : (e : Entered) → (if is_over (state s) then None else Some e) ≡ Some e
  unended e = if_false (is_over (state s)) None (Some e) on

  passes_goes : GoesOnWith (event_entry now Passes s) s.journal (turn_at now Passes s).after.journal
  passes_goes = by (is_due (state s) now) refl
    where
      later : PlainLive
      later = with_journal s (after_call s.journal (Tick now))

      by : (b : Bool) → is_due (state s) now ≡ b
          → GoesOnWith (if b then Some (within_limit (state s) Time now (Tick now)) else None) s.journal (turn_at now Passes s).after.journal
      by true due = subst (λ reply. GoesOnWith (Some (within_limit (state s) Time now (Tick now))) s.journal (ticked s later reply).after.journal) (sym (changed_is (state s) now due))
          (called_goes s (Tick now) (within_limit (state s) Time now (Tick now)) (ap (λ b. if b then Some (within_limit (state s) Time now (Tick now)) else None) due) s.parked [])
      by false none = ap (λ reply. (ticked s later reply).after.journal) (quiet_is (state s) now none)

  -- whatever comes to a session that goes on
  pub turn_goes : (event : Event) → GoesOnWith (event_entry now event s) s.journal (turn_at now event s).after.journal
  turn_goes (Arrives conn request body) = arrived_goes s (Arrive request body now) _ (unended (within_limit (state s) Arrival now (Arrive request body now))) conn (arrive (state s) request body now).1
  turn_goes (Gives stream stanza) = called_goes s (Back stream stanza now) _ (unended (within_limit (state s) ServerStanza now (Back stream stanza now))) s.parked []
  turn_goes (Shuts stream closing) = called_goes s (BackClosed stream closing now) _ (unended (within_limit (state s) ServerClosing now (BackClosed stream closing now))) s.parked []
  turn_goes Passes = passes_goes
