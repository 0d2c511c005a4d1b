-- What the report of a script says of the script's sessions.
use Rattle.std.specs.Prelude.{◌≡◌, ℕ, ◌==◌, ◌&&◌, Bool, true, false, nat_le, ⊤, List, ◌++◌, All, map, filter, filter_map, count_by, Option, Some, None, if◌then◌else◌}
use Rattle.bosh_types.specs.declared.inward.Inward.{Inward}
use Rattle.session_core.specs.Journal.{IsJournal}
use Rattle.session_core.specs.Passed.{stream_of, inward_of}
use Rattle.session_core.specs.Processed.{items_of_all}
use Rattle.session_core.specs.State.{inward, is_over}
use Rattle.session_laws.specs.OneBody.{all_processed}
use Rattle.session_laws.specs.Laws.{KeptLaws}
use Rattle.script_text.specs.declared.report.ReportLine.{ReportLine}
use Rattle.script_text.specs.declared.report.ReportLine.TheVariants.{In, Out, Lost, Gone, Refused, Over, Done, Bad}
use Rattle.script_text.specs.Live.{PlainLive, state, over_lines}
use Rattle.script_text.specs.Manager.{PlainManager, new_manager}
use Rattle.script_text.specs.Script.{PlainRun, Beginning, Arrivals, Bodies, Drive}

-- what a script is run over
abbrev pub manager_of : PlainRun → PlainManager
manager_of Beginning = new_manager
manager_of (Arrivals m) = m
manager_of (Bodies m) = m

-- the sessions that are live at the end of a script, how many it opened, and all of them
abbrev pub live_at_end : Drive → List PlainLive
live_at_end drive = (manager_of drive.last).live

abbrev pub opened_by : Drive → ℕ
opened_by drive = (manager_of drive.last).opened

abbrev pub sessions_of : Drive → List PlainLive
sessions_of drive = drive.over ++ live_at_end drive

-- exactly the numbers from 1 to this one are numbers of sessions
abbrev pub is_opened : ℕ → ℕ → Bool
is_opened opened number = nat_le 1 number && nat_le number opened

abbrev pub is_numbered : ℕ → PlainLive → Bool
is_numbered number s = s.number == number

-- a line that names a session names one with such a number
abbrev pub NamesOpened : ℕ → ReportLine → Type 0
NamesOpened opened (In session item) = is_opened opened session ≡ true
NamesOpened opened (Out conn body) = ⊤
NamesOpened opened (Lost conn) = ⊤
NamesOpened opened (Gone conn) = ⊤
NamesOpened opened (Refused session refusal) = is_opened opened session ≡ true
NamesOpened opened (Over session ending) = is_opened opened session ≡ true
NamesOpened opened (Done line) = ⊤
NamesOpened opened (Bad line kind) = ⊤

-- a line tells what goes inward of the session with this number, or that it ends
abbrev pub tells_of : ℕ → ReportLine → Bool
tells_of number (In session item) = session == number
tells_of number (Out conn body) = false
tells_of number (Lost conn) = false
tells_of number (Gone conn) = false
tells_of number (Refused session refusal) = false
tells_of number (Over session ending) = session == number
tells_of number (Done line) = false
tells_of number (Bad line kind) = false

-- the report tells of a session what may go inward of its journal's run, each item once and in order, and then its ending,
-- where it has ended
abbrev pub IsTold : List ReportLine → PlainLive → Type 0
IsTold report s = filter (tells_of s.number) report ≡ map (In s.number) (inward (state s)) ++ over_lines s.number (state s).ending

-- what the report tells inward of this session
abbrev pub item_in : ℕ → ReportLine → Option Inward
item_in number (In session item) = if session == number then Some item else None
item_in number (Out conn body) = None
item_in number (Lost conn) = None
item_in number (Gone conn) = None
item_in number (Refused session refusal) = None
item_in number (Over session ending) = None
item_in number (Done line) = None
item_in number (Bad line kind) = None

abbrev pub inward_told : ℕ → List ReportLine → List Inward
inward_told number report = filter_map (item_in number) report

-- a session of a script: calls made its journal, which keeps the laws of a session, and the report tells of it
pub record TellsOf (report : List ReportLine) (s : PlainLive) : Type 0 where
  pub made : IsJournal s.journal
  pub laws : KeptLaws s.journal
  pub told : IsTold report s
  -- so what it tells inward is what the run's copies carry for the streams that were open for each, on each stream too
  pub inward_is : inward_told s.number report ≡ items_of_all (all_processed (state s))
  pub streams : (stream : ℕ) → filter (λ item. stream_of item == stream) (inward_told s.number report) ≡ inward_of s.journal stream

-- what a script gives
pub record KeepsItsWord (drive : Drive) : Type 0 where
  -- one session has each number from 1 to that of the last opening, and none has another
  pub numbers : (number : ℕ) → count_by (is_numbered number) (sessions_of drive) ≡ (if is_opened (opened_by drive) number then 1 else 0)
  -- each line that names a session names one of these
  pub named : All (NamesOpened (opened_by drive)) drive.report
  -- those that are live at the end go on, and the others have ended
  pub live : All (λ s. is_over (state s) ≡ false) (live_at_end drive)
  pub over : All (λ s. is_over (state s) ≡ true) drive.over
  -- the report tells of each of them
  pub sessions : All (TellsOf drive.report) (sessions_of drive)
