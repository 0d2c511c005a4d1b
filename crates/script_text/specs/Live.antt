-- One session of a script: what a line does to it, and what the report then says of it.
use Rattle.std.specs.Prelude.{ℕ, Bool, true, false, List, [], ◌∷◌, ◌++◌, map, Option, Some, None, if◌then◌else◌}
use Rattle.bosh_types.specs.declared.condition.Condition.TheVariants.{ItemNotFound}
use Rattle.bosh_types.specs.declared.ending.Ending.{Ending}
use Rattle.body_writer.specs.Answer.{answer_text}
use Rattle.session_core.specs.declared.replies.Arrived.{Arrived}
use Rattle.session_core.specs.declared.replies.Arrived.TheVariants as arrivals
use Rattle.session_core.specs.declared.replies.Collected.{Collected}
use Rattle.session_core.specs.declared.replies.Collected.TheVariants as collections
use Rattle.session_core.specs.declared.replies.Taken.{Taken}
use Rattle.session_core.specs.declared.replies.Taken.TheVariants as takings
use Rattle.session_core.specs.declared.replies.Ticked.{Ticked}
use Rattle.session_core.specs.declared.replies.Ticked.TheVariants.{Changed, Quiet}
use Rattle.session_core.specs.Copy.{unnamed}
use Rattle.session_core.specs.Endings.{terminal}
use Rattle.session_core.specs.Journal.{Arrive, Collect, Back, BackClosed, Tick, Journal, state_of}
use Rattle.session_core.specs.Machine.{arrive, collect, back, back_closed, tick}
use Rattle.session_core.specs.State.{PlainSession, is_over}
use Rattle.session_calls.specs.After.{after_call, all_taken, untaken}
use Rattle.script_text.specs.declared.event.Event.{Event}
use Rattle.script_text.specs.declared.event.Event.TheVariants.{Arrives, Gives, Shuts, Passes}
use Rattle.script_text.specs.declared.live.Parked.{Parked}
use Rattle.script_text.specs.declared.report.Refusal.TheVariants.{BackFull, BackOver, ShutOver}
use Rattle.script_text.specs.declared.report.ReportLine.{ReportLine}
use Rattle.script_text.specs.declared.report.ReportLine.TheVariants.{In, Out, Lost, Gone, Refused, Over}

-- a session of a script, by its opening number: its journal, and its requests that wait, in the order of their tickets
pub record PlainLive : Type 0 where
  pub number : ℕ
  pub journal : Journal
  pub parked : List Parked

abbrev pub state : PlainLive → PlainSession
state s = state_of s.journal

-- what there is for the ticket of a request that waits, what the report says of that, and whether it waits on
abbrev pub fate : Journal → Parked → Collected
fate journal parked = (collect (state_of journal) parked.ticket).1

-- an answer goes to its connection, or is lost where that was closed
abbrev pub answer_line : Parked → List ℕ → ReportLine
answer_line parked body = if parked.is_open then Out parked.conn body else Lost parked.conn

abbrev pub fate_lines : Parked → Collected → List ReportLine
fate_lines parked (collections.Answer body) = answer_line parked body ∷ []
fate_lines parked collections.NotYet = []
fate_lines parked collections.Superseded = if parked.is_open then Gone parked.conn ∷ [] else []
fate_lines parked collections.UnknownTicket = []

abbrev pub is_not_yet : Collected → Bool
is_not_yet (collections.Answer body) = false
is_not_yet collections.NotYet = true
is_not_yet collections.Superseded = false
is_not_yet collections.UnknownTicket = false

abbrev pub still : Parked → Collected → List Parked
still parked collected = if is_not_yet collected then parked ∷ [] else []

-- the tickets are collected in their order: the lines of the report, who waits on, and the journal after them
abbrev pub collected_lines : Journal → List Parked → List ReportLine
collected_lines journal [] = []
collected_lines journal (parked ∷ others) =
    fate_lines parked (fate journal parked) ++ collected_lines (after_call journal (Collect parked.ticket)) others

abbrev pub still_parked : Journal → List Parked → List Parked
still_parked journal [] = []
still_parked journal (parked ∷ others) =
    still parked (fate journal parked) ++ still_parked (after_call journal (Collect parked.ticket)) others

abbrev pub all_collected : Journal → List Parked → Journal
all_collected journal [] = journal
all_collected journal (parked ∷ others) = all_collected (after_call journal (Collect parked.ticket)) others

abbrev pub over_lines : ℕ → Option Ending → List ReportLine
over_lines number None = []
over_lines number (Some ending) = Over number ending ∷ []

-- what a line does to a session: the lines of the report, and the session after it
pub record Turn : Type 0 where
  pub lines : List ReportLine
  pub after : PlainLive

abbrev pub settled_after : PlainLive → PlainLive
settled_after s = record s {
  journal = all_collected (all_taken s.journal) s.parked;
  parked = still_parked (all_taken s.journal) s.parked;
}

-- after a call these are told: the inward items, the answer of the arriving copy, the collected tickets in their order, and
-- the ending
abbrev pub told : PlainLive → List ReportLine → Turn
told s answer = record {
  lines = map (In s.number) (untaken s.journal)
      ++ (answer ++ (collected_lines (all_taken s.journal) s.parked ++ over_lines s.number (state (settled_after s)).ending));
  after = settled_after s;
}

-- a line, if there is one
abbrev pub lines_in : Option ReportLine → List ReportLine
lines_in None = []
lines_in (Some line) = line ∷ []

-- a refused line of the server is told before that
abbrev pub refused_first : List ReportLine → Turn → Turn
refused_first lines turn = record turn { lines = lines ++ turn.lines }

abbrev pub with_journal : PlainLive → Journal → PlainLive
with_journal s journal = record s { journal = journal }

abbrev pub with_parked : PlainLive → ℕ → ℕ → PlainLive
with_parked s ticket conn = record s { parked = s.parked ++ record { ticket = ticket; conn = conn; is_open = true } ∷ [] }

-- a request for a session that there isn't, or that has ended
abbrev pub not_found : ℕ → ReportLine
not_found conn = Out conn (answer_text (terminal (Some ItemNotFound)))

-- the copy on this connection was replied this
abbrev pub arrived : PlainLive → ℕ → Arrived → Turn
arrived s conn (arrivals.Answer body) = told s (Out conn body ∷ [])
arrived s conn (arrivals.Parked ticket) = told (with_parked s ticket conn) []
arrived s conn arrivals.Over = told s (not_found conn ∷ [])

abbrev pub refusal_of_back : ℕ → Taken → List ReportLine
refusal_of_back number takings.Done = []
refusal_of_back number takings.Full = Refused number BackFull ∷ []
refusal_of_back number takings.Over = Refused number BackOver ∷ []

abbrev pub refusal_of_shut : ℕ → Taken → List ReportLine
refusal_of_shut number takings.Done = []
refusal_of_shut number takings.Full = []
refusal_of_shut number takings.Over = Refused number ShutOver ∷ []

-- where nothing was due by time, nothing is told
abbrev pub ticked : PlainLive → PlainLive → Ticked → Turn
ticked s after Quiet = record { lines = []; after = s }
ticked s after Changed = told after []

-- what comes to a session at a moment
abbrev pub turn_at : ℕ → Event → PlainLive → Turn
turn_at now (Arrives conn request body) s =
    arrived (with_journal s (after_call s.journal (Arrive request body now))) conn (arrive (state s) request body now).1
turn_at now (Gives stream stanza) s =
    refused_first (refusal_of_back s.number (back (state s) stream stanza now).1)
    (told (with_journal s (after_call s.journal (Back stream stanza now))) [])
turn_at now (Shuts stream closing) s =
    refused_first (refusal_of_shut s.number (back_closed (state s) stream closing now).1)
    (told (with_journal s (after_call s.journal (BackClosed stream closing now))) [])
turn_at now Passes s = ticked s (with_journal s (after_call s.journal (Tick now))) (tick (state s) now).1

-- the sessions that go on, and those that are over: a session is live until its line `over`
abbrev pub if_live : PlainLive → List PlainLive
if_live s = if is_over (state s) then [] else s ∷ []

abbrev pub if_over : PlainLive → List PlainLive
if_over s = if is_over (state s) then s ∷ [] else []
