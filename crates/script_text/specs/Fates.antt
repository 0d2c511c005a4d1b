-- What becomes of each request that a script posts: it is answered, or its connection is closed before, or a later copy takes its place, or it
-- waits. A connection carries one request at a time, so what is told of a connection's number is of the request there.
use Rattle.std.specs.Prelude.{◌≡◌, ℕ, ◌+◌, ◌==◌, ◌&&◌, Bool, true, false, not, List, [], ◌∷◌, All, count_by, sum_by, Option, Some, None, if◌then◌else◌}
use Rattle.std.specs.List.{list_any}
use Rattle.session_core.specs.Journal.{Entered, state_of}
use Rattle.session_core.specs.State.{PlainSession, Issued, TicketState, Waits, Replaced, Struck, UsedUp, is_over}
use Rattle.session_core.specs.TicketsOut.{issued_at}
use Rattle.session_calls.specs.After.{with_entered}
use Rattle.script_text.specs.declared.line.LineRead.TheVariants.{Line}
use Rattle.script_text.specs.declared.line.ScriptLine.{ScriptLine}
use Rattle.script_text.specs.declared.line.ScriptLine.TheVariants.{Open, Short, Host, At, Post, Close, Back, Shut, End as LastLine}
use Rattle.script_text.specs.declared.live.Parked.{Parked}
use Rattle.script_text.specs.declared.report.ReportLine.{ReportLine}
use Rattle.script_text.specs.declared.report.ReportLine.TheVariants.{In, Out, Lost, Gone, Refused, Over, Done, Bad}
use Rattle.script_text.specs.Answered.{Stage, over_bodies}
use Rattle.script_text.specs.Entered.{entry_at, is_bad}
use Rattle.script_text.specs.Live.{PlainLive, state}
use Rattle.script_text.specs.Manager.{PlainManager, waits_on}

-- Lines.

-- an answer went out on this connection; one was lost there; the request there is gone
abbrev pub is_out : ℕ → ReportLine → Bool
is_out conn (In session item) = false
is_out conn (Out other body) = other == conn
is_out conn (Lost other) = false
is_out conn (Gone other) = false
is_out conn (Refused session refusal) = false
is_out conn (Over session ending) = false
is_out conn (Done line) = false
is_out conn (Bad line kind) = false

abbrev pub is_lost : ℕ → ReportLine → Bool
is_lost conn (In session item) = false
is_lost conn (Out other body) = false
is_lost conn (Lost other) = other == conn
is_lost conn (Gone other) = false
is_lost conn (Refused session refusal) = false
is_lost conn (Over session ending) = false
is_lost conn (Done line) = false
is_lost conn (Bad line kind) = false

abbrev pub is_gone : ℕ → ReportLine → Bool
is_gone conn (In session item) = false
is_gone conn (Out other body) = false
is_gone conn (Lost other) = false
is_gone conn (Gone other) = other == conn
is_gone conn (Refused session refusal) = false
is_gone conn (Over session ending) = false
is_gone conn (Done line) = false
is_gone conn (Bad line kind) = false

-- Requests that wait.

-- on this connection, which was closed since
abbrev pub was_on : ℕ → Parked → Bool
was_on conn parked = not parked.is_open && (parked.conn == conn)

-- how many of these sessions' requests are so
abbrev pub waiting_in : (Parked → Bool) → List PlainLive → ℕ
waiting_in p sessions = sum_by (λ s. count_by p s.parked) sessions

-- a later copy took the place of the request with this ticket
abbrev pub is_replaced : TicketState → Bool
is_replaced Waits = false
is_replaced Replaced = true
is_replaced Struck = false
is_replaced UsedUp = false

abbrev pub lost_place : PlainSession → Parked → Bool
lost_place s parked = elim (issued_at s.tickets parked.ticket) [ None ↦ false | Some ticket ↦ is_replaced ticket.state ]

-- how many of a session's requests that are so lost their place with what is entered
abbrev pub replaced_with : (Parked → Bool) → PlainLive → Option Entered → ℕ
replaced_with p s None = 0
replaced_with p s (Some entered) = count_by (λ parked. p parked && lost_place (state_of (with_entered s.journal (Some entered))) parked) s.parked

-- and with what a line enters
abbrev pub replaced_by : PlainManager → ScriptLine → (Parked → Bool) → ℕ
replaced_by m line p = sum_by (λ s. replaced_with p s (entry_at m line s)) m.live

-- how many requests a line posts on this connection, and how many it closes there
abbrev pub posted_on : ℕ → ScriptLine → ℕ
posted_on conn (Open rid) = 0
posted_on conn (Short rid stanza) = 0
posted_on conn (Host name greeting) = 0
posted_on conn (At moment) = 0
posted_on conn (Post other body) = if other == conn then 1 else 0
posted_on conn (Close other) = 0
posted_on conn (Back sid stream stanza) = 0
posted_on conn (Shut sid stream closing) = 0
posted_on conn LastLine = 0

abbrev pub closed_on_it : ℕ → PlainManager → ScriptLine → ℕ
closed_on_it conn m (Open rid) = 0
closed_on_it conn m (Short rid stanza) = 0
closed_on_it conn m (Host name greeting) = 0
closed_on_it conn m (At moment) = 0
closed_on_it conn m (Post other body) = 0
closed_on_it conn m (Close other) = if other == conn then waiting_in (waits_on conn) m.live else 0
closed_on_it conn m (Back sid stream stanza) = 0
closed_on_it conn m (Shut sid stream closing) = 0
closed_on_it conn m LastLine = 0

-- the line opens the session of a script that tells of its requests alone
abbrev pub opens : ScriptLine → Bool
opens (Open rid) = true
opens (Short rid stanza) = false
opens (Host name greeting) = false
opens (At moment) = false
opens (Post conn body) = false
opens (Close conn) = false
opens (Back sid stream stanza) = false
opens (Shut sid stream closing) = false
opens LastLine = false

-- what becomes of the requests on a connection with a line
pub record HaveOneFate (m : PlainManager) (line : ScriptLine) (lines : List ReportLine) (after : List PlainLive) (conn : ℕ) : Type 0 where
  -- each that waited on the open connection, or is posted there, has one line `out` or `gone` there, or it is closed, or it waits on
  pub on_open : waiting_in (waits_on conn) m.live + posted_on conn line
      ≡ count_by (is_out conn) lines + count_by (is_gone conn) lines + closed_on_it conn m line + waiting_in (waits_on conn) after
  -- gone are those whose place a later copy took
  pub gone : count_by (is_gone conn) lines ≡ replaced_by m line (waits_on conn)
  -- each that waited on it when it was closed has one line `lost` there, or waits on, or is one whose place a later copy took, which isn't told
  pub closed : waiting_in (was_on conn) m.live + closed_on_it conn m line
      ≡ count_by (is_lost conn) lines + replaced_by m line (was_on conn) + waiting_in (was_on conn) after

-- so it is of each line that isn't bad, and in a session that has ended none waits
pub record HasFates (stage : Stage) : Type 0 where
  pub fates : (m : PlainManager) (line : ScriptLine) → over_bodies stage.before ≡ Some m → stage.said ≡ Line line → opens line ≡ false → list_any is_bad stage.lines ≡ false
      → (conn : ℕ) → HaveOneFate m line stage.lines stage.after conn
  pub ended : All (λ t. is_over (state t) ≡ true → t.parked ≡ []) stage.after
