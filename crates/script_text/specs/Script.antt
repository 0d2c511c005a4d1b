-- What a script gives: its outcome, its report, and its sessions.
use Rattle.std.specs.Prelude.{ℕ, ◌+◌, ◌≡◌, ◌&&◌, Bool, true, false, not, nat_lt, nat_le, List, [], ◌∷◌, ◌++◌, Option, None, Some, length, codes, filter, if◌then◌else◌}
use Rattle.std.specs.Fmt.{decimal}
use Rattle.std.specs.Io.KnownBytes.{Appends}
use Rattle.bosh_types.specs.Limits.{longest_line, most_lines}
use Rattle.script_text.specs.declared.event.Event.{Event}
use Rattle.script_text.specs.declared.event.Event.TheVariants.{Gives, Shuts}
use Rattle.script_text.specs.declared.line.BadKind.{BadKind}
use Rattle.script_text.specs.declared.line.BadKind.TheVariants.{Count, End, Length, Grammar, Time, Connection, Session}
use Rattle.script_text.specs.declared.line.ScriptLine.{ScriptLine}
use Rattle.script_text.specs.declared.line.ScriptLine.TheVariants.{Open, Short, Host, At, Post, Close, Back, Shut, End as LastLine}
use Rattle.script_text.specs.declared.line.LineRead.{LineRead}
use Rattle.script_text.specs.declared.line.LineRead.TheVariants.{Line, BadLine}
use Rattle.script_text.specs.declared.driven.Driven.{Driven}
use Rattle.script_text.specs.declared.driven.Driven.TheVariants.{Done, Bad}
use Rattle.script_text.specs.declared.report.Refusal.{Refusal}
use Rattle.script_text.specs.declared.report.Refusal.TheVariants.{BackOver, ShutOver}
use Rattle.script_text.specs.declared.report.ReportLine.{ReportLine}
use Rattle.script_text.specs.declared.report.ReportLine.TheVariants.{In, Out, Lost, Gone, Refused, Over, Done as SaysDone, Bad as SaysBad}
use Rattle.script_text.specs.Hosts.{takes_name}
use Rattle.script_text.specs.Line.{line_of}
use Rattle.line_reader.specs.Lines.{lines_of}
use Rattle.script_text.specs.Live.{PlainLive}
use Rattle.script_text.specs.Manager.{PlainManager, Change, new_manager, is_waiting, closed, comes, number_of, passed, posted}
use Rattle.script_text.specs.Report.{report_text}

-- what the lines so far make of a script: no line was read; it tells of the requests of one session; or of bodies and of all
-- that comes to a manager
pub data PlainRun : Type 0 where
  Beginning : PlainRun
  Arrivals : PlainManager → PlainRun
  Bodies : PlainManager → PlainRun

-- what follows a line
pub data PlainNext : Type 0 where
  Goes : PlainRun → PlainNext
  Ends : Driven → PlainNext

-- what the script is run over after a line, and at its end as before its last one
abbrev pub run_after : PlainRun → PlainNext → PlainRun
run_after run (Goes after) = after
run_after run (Ends outcome) = run

-- what a line does: its lines of the report, what follows it, and the sessions that ended with it
pub record Step : Type 0 where
  pub lines : List ReportLine
  pub next : PlainNext
  pub over : List PlainLive

-- the script is bad at this line
abbrev pub bad_step : ℕ → BadKind → Step
bad_step n kind = record { lines = SaysBad n kind ∷ []; next = Ends (Bad n kind); over = [] }

-- the script ends with this line
abbrev pub done_step : ℕ → Step
done_step n = record { lines = SaysDone n ∷ []; next = Ends Done; over = [] }

-- the line changes the manager, and the script goes on
abbrev pub change_step : Change → Step
change_step change = record { lines = change.lines; next = Goes (Bodies change.after); over = change.over }

-- Scripts of bodies.

-- after this line no host may come
abbrev pub begun : PlainManager → PlainManager
begun m = record m { begun = true }

-- a host that may still come: its name is new, and it is the sixteenth at most
abbrev pub takes_host : PlainManager → List ℕ → Bool
takes_host m name = not m.begun && takes_name m.hosts name

abbrev pub with_host : PlainManager → List ℕ → List (List ℕ) → PlainManager
with_host m name greeting = record m { hosts = m.hosts ++ record { name = name; greeting = greeting } ∷ [] }

abbrev pub host_step : PlainManager → ℕ → List ℕ → List (List ℕ) → Step
host_step m n name greeting =
    if takes_host m name then record { lines = []; next = Goes (Bodies (with_host m name greeting)); over = [] } else bad_step n Grammar

-- moments don't go back
abbrev pub at_step : PlainManager → ℕ → ℕ → Step
at_step m n moment = if nat_lt moment m.moment then bad_step n Time else change_step (passed m moment)

-- a connection carries one request at a time
abbrev pub post_step : PlainManager → ℕ → ℕ → List ℕ → Step
post_step m n conn body = if is_waiting m conn then bad_step n Connection else change_step (posted (begun m) conn body)

abbrev pub close_step : PlainManager → ℕ → ℕ → Step
close_step m n conn = if is_waiting m conn then change_step (closed (begun m) conn) else bad_step n Connection

-- a session that a creation was given
abbrev pub was_given : ℕ → Option ℕ → Option ℕ
was_given opened None = None
was_given opened (Some number) = if nat_le number opened then Some number else None

abbrev pub server_step : PlainManager → ℕ → Event → Refusal → Option ℕ → Step
server_step m n event refusal None = bad_step n Session
server_step m n event refusal (Some number) = change_step (comes (begun m) event (Refused number refusal) number)

-- a line of a script that tells of bodies
abbrev pub body_step : PlainManager → ℕ → ScriptLine → Step
body_step m n (Open rid) = bad_step n Grammar
body_step m n (Short rid stanza) = bad_step n Grammar
body_step m n (Host name greeting) = host_step m n name greeting
body_step m n (At moment) = at_step m n moment
body_step m n (Post conn body) = post_step m n conn body
body_step m n (Close conn) = close_step m n conn
body_step m n (Back sid stream stanza) = server_step m n (Gives stream stanza) BackOver (was_given m.opened (number_of sid))
body_step m n (Shut sid stream closing) = server_step m n (Shuts stream closing) ShutOver (was_given m.opened (number_of sid))
body_step m n LastLine = done_step n

-- Scripts of the requests of one session.

-- of these only what goes inward and the ending is told
abbrev pub is_told : ReportLine → Bool
is_told (In session item) = true
is_told (Out conn body) = false
is_told (Lost conn) = false
is_told (Gone conn) = false
is_told (Refused session refusal) = false
is_told (Over session ending) = true
is_told (SaysDone line) = true
is_told (SaysBad line kind) = true

abbrev pub arrival_change : Change → Step
arrival_change change = record { lines = filter is_told change.lines; next = Goes (Arrivals change.after); over = change.over }

-- its host greets nobody
abbrev pub host_alone : PlainManager
host_alone = record new_manager { hosts = record { name = codes "example.org"; greeting = [] } ∷ [] }

-- a creation with this id, which asks for a wait of 60 seconds and a hold of 1
unfoldable pub creation_text : ℕ → List ℕ
creation_text rid =
    codes "<body rid='" ++ decimal rid ++ codes "' to='example.org' wait='60' hold='1' ver='1.6' xmlns='http://jabber.org/protocol/httpbind'/>"

-- a request of the session `s1` with this id and stanza
unfoldable pub request_head : ℕ → List ℕ
request_head rid = codes "<body rid='" ++ decimal rid ++ codes "' sid='s1' xmlns='http://jabber.org/protocol/httpbind'>"

abbrev pub request_text : ℕ → List ℕ → List ℕ
request_text rid stanza = request_head rid ++ stanza ++ codes "</body>"

abbrev pub open_step : ℕ → Step
open_step rid = arrival_change (posted host_alone 0 (creation_text rid))

abbrev pub arrival_step : PlainManager → ℕ → ScriptLine → Step
arrival_step m n (Open rid) = bad_step n Grammar
arrival_step m n (Short rid stanza) = arrival_change (posted m 0 (request_text rid stanza))
arrival_step m n (Host name greeting) = bad_step n Grammar
arrival_step m n (At moment) = bad_step n Grammar
arrival_step m n (Post conn body) = bad_step n Grammar
arrival_step m n (Close conn) = bad_step n Grammar
arrival_step m n (Back sid stream stanza) = bad_step n Grammar
arrival_step m n (Shut sid stream closing) = bad_step n Grammar
arrival_step m n LastLine = done_step n

-- The first line tells what the script is about.

abbrev pub first_step : ℕ → ScriptLine → Step
first_step n (Open rid) = open_step rid
first_step n (Short rid stanza) = bad_step n Grammar
first_step n (Host name greeting) = body_step new_manager n (Host name greeting)
first_step n (At moment) = body_step new_manager n (At moment)
first_step n (Post conn body) = body_step new_manager n (Post conn body)
first_step n (Close conn) = body_step new_manager n (Close conn)
first_step n (Back sid stream stanza) = body_step new_manager n (Back sid stream stanza)
first_step n (Shut sid stream closing) = body_step new_manager n (Shut sid stream closing)
first_step n LastLine = done_step n

-- what a line does that says this
abbrev pub said_step : PlainRun → ℕ → ScriptLine → Step
said_step Beginning n said = first_step n said
said_step (Arrivals m) n said = arrival_step m n said
said_step (Bodies m) n said = body_step m n said

-- what a line does, by what was read
abbrev pub step_by : PlainRun → ℕ → LineRead → Step
step_by run n (Line said) = said_step run n said
step_by run n (BadLine kind) = bad_step n kind

-- a line that is too long is bad, whatever it says
abbrev pub within_length : List ℕ → LineRead → LineRead
within_length line read = if nat_lt longest_line (length line) then BadLine Length else read

-- what the line with this number says
abbrev pub said : ℕ → List ℕ → LineRead
said n line = if nat_lt most_lines n then BadLine Count else within_length line (line_of line)

-- Whole scripts.

-- what a script gives: how it ended, its report, what it was run over at its end, and the sessions that ended before
pub record Drive : Type 0 where
  pub outcome : Driven
  pub report : List ReportLine
  pub last : PlainRun
  pub over : List PlainLive

-- the script ends with this step
abbrev pub ended_with : PlainRun → Step → Driven → Drive
ended_with run step outcome = record { outcome = outcome; report = step.lines; last = run; over = step.over }

-- this step, and then what the rest of the script gives
abbrev pub after_step : Step → Drive → Drive
after_step step drive = record drive { report = step.lines ++ drive.report; over = step.over ++ drive.over }

-- the script is bad at this line
abbrev pub bad_at : PlainRun → ℕ → BadKind → Drive
bad_at run n kind = ended_with run (bad_step n kind) (Bad n kind)

-- the rest of a script, from the line with this number on
abbrev pub drive_on : PlainRun → ℕ → List (List ℕ) → Drive
drive_on run n [] = bad_at run n (if nat_lt most_lines n then Count else End)
drive_on run n (line ∷ others) =
    elim (step_by run n (said n line)).next [
      | Goes after ↦ after_step (step_by run n (said n line)) (drive_on after (n + 1) others)
      | Ends outcome ↦ ended_with run (step_by run n (said n line)) outcome
    ]

-- a script by its bytes
abbrev pub drive_of : List ℕ → Drive
drive_of script = drive_on Beginning 1 (lines_of script)

-- this outcome is the script's, and the sink was given its report and nothing else
abbrev pub Reports : Drive → Driven → Option (List ℕ) → Option (List ℕ) → Type 0
Reports drive outcome old new = (outcome ≡ drive.outcome) × Appends old new (report_text drive.report)
