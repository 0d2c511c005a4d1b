-- What a session enters only makes its journal longer, whatever comes to it.
use Rattle.std.proofs.Common.{◌≡◌, ℕ, zero, suc, List, [], ◌∷◌, ◌++◌, Option, Some, None, length, refl, sym, ◌∙◌, ap, append_assoc}
use Rattle.std.proofs.lemmas.List.{append-nil}
use Rattle.session_core.specs.Journal as plain
use Rattle.session_core.specs.Journal.{Call, Arrive, Back, BackClosed, Collect, Tick, TakeInward, Entered, Journal, entered_by, state_of}
use Rattle.session_core.specs.Machine.{arrive, back, back_closed, tick}
use Rattle.session_core.specs.Copy.{unnamed}
use Rattle.session_core.specs.declared.replies.Arrived.{Arrived}
use Rattle.session_core.specs.declared.replies.Arrived.TheVariants as arrivals
use Rattle.session_core.specs.declared.replies.Ticked.{Ticked}
use Rattle.session_core.specs.declared.replies.Ticked.TheVariants.{Changed, Quiet}
use Rattle.session_laws.specs.Growing.{with_later}
use Rattle.session_calls.specs.After.{after_call, all_taken, untaken, with_entered, with_taken}
use Rattle.script_text.specs.declared.event.Event.{Event}
use Rattle.script_text.specs.declared.event.Event.TheVariants.{Arrives, Gives, Shuts, Passes}
use Rattle.script_text.specs.declared.live.Parked.{Parked}
use Rattle.script_text.specs.declared.report.ReportLine.{ReportLine}
use Rattle.script_text.specs.declared.report.ReportLine.TheVariants.{Out}
use Rattle.script_text.specs.Entered.{Grew}
use Rattle.script_text.specs.Live.{PlainLive, all_collected, arrived, not_found, state, told, ticked, turn_at, with_journal, with_parked}

pub same_grew : (journal : Journal) → Grew journal journal
same_grew journal = ([], ap (λ (l : List plain.Entry). record journal { entries = l }) (sym (append-nil journal.entries)))

pub grew_on : (journal mid longer : Journal) → Grew journal mid → Grew mid longer → Grew journal longer
grew_on journal mid longer (more, is) (later, then_is) =
    (more ++ later, then_is ∙ ap (λ (j : Journal). with_later j later) is ∙ ap (λ (l : List plain.Entry). record journal { entries = l }) (append_assoc journal.entries more later))

pub entered_grew : (journal : Journal) (o : Option Entered) → Grew journal (with_entered journal o)
entered_grew journal None = same_grew journal
entered_grew journal (Some e) = (_, refl)

pub call_grew : (journal : Journal) (call : Call) → Grew journal (after_call journal call)
call_grew journal call = entered_grew journal (entered_by (state_of journal) call)

pub taken_grew : (count : ℕ) (journal : Journal) → Grew journal (with_taken count journal)
taken_grew zero journal = same_grew journal
taken_grew (suc count) journal = grew_on journal (after_call journal TakeInward) _ (call_grew journal TakeInward) (taken_grew count (after_call journal TakeInward))

pub collected_grew : (parked : List Parked) (journal : Journal) → Grew journal (all_collected journal parked)
collected_grew [] journal = same_grew journal
collected_grew (first ∷ parked) journal =
    grew_on journal (after_call journal (Collect first.ticket)) _ (call_grew journal (Collect first.ticket)) (collected_grew parked (after_call journal (Collect first.ticket)))

-- the same session, with a longer journal
pub record IsLater (s t : PlainLive) : Type 0 where
  pub number : t.number ≡ s.number
  pub grew : Grew s.journal t.journal

pub told_later : (s : PlainLive) (answer : List ReportLine) → IsLater s (told s answer).after
told_later s answer = record {
  number = refl;
  grew = grew_on s.journal (all_taken s.journal) _ (taken_grew (length (untaken s.journal)) s.journal) (collected_grew s.parked (all_taken s.journal));
}

module _ (s : PlainLive) (call : Call) where
  abbrev later : PlainLive
  later = with_journal s (after_call s.journal call)

  called_later : (parked : List Parked) (answer : List ReportLine) → IsLater s (told (record later { parked = parked }) answer).after
  called_later parked answer = record {
    number = refl;
    grew = grew_on s.journal (after_call s.journal call) _ (call_grew s.journal call) (told_later (record later { parked = parked }) answer).grew;
  }

  arrived_later : (conn : ℕ) (reply : Arrived) → IsLater s (arrived later conn reply).after
  arrived_later conn (arrivals.Answer body) = called_later s.parked (Out conn body ∷ [])
  arrived_later conn (arrivals.Parked ticket) = called_later (with_parked later ticket conn).parked []
  arrived_later conn arrivals.Over = called_later s.parked (not_found conn ∷ [])

  ticked_later : (reply : Ticked) → IsLater s (ticked s later reply).after
  ticked_later Quiet = record { number = refl; grew = same_grew s.journal }
  ticked_later Changed = called_later s.parked []

-- whatever comes to a session
pub turn_later : (now : ℕ) (event : Event) (s : PlainLive) → IsLater s (turn_at now event s).after
turn_later now (Arrives conn request body) s = arrived_later s (Arrive request body now) conn (arrive (state s) request body now).1
turn_later now (Gives stream stanza) s = called_later s (Back stream stanza now) s.parked []
turn_later now (Shuts stream closing) s = called_later s (BackClosed stream closing now) s.parked []
turn_later now Passes s = ticked_later s (Tick now) (tick (state s) now).1
