-- What was seen of the directory when a line was added that it tells.
use Rattle.std.specs.Prelude.{◌≡◌, ◌⊎◌, ◌<◌, ℕ, List, ◌∷◌, ◌++◌, length, Option, Some, None}
use Rattle.parked_gate.specs.Histories.{StartsWith}
use Rattle.parked_gate.specs.Passes.{GateId, Known}
use Rattle.session_table.specs.declared.entry.Entry.{Entry}
use Rattle.session_table.specs.declared.opening.Limits.{Limits}
use Rattle.session_table.specs.History.{live_at, live_of, opening_in}
use Rattle.session_table.specs.Replies.{IsFull, IsSpent}
use Rattle.serve_loop.specs.declared.trail.Traced.{Traced}
use Rattle.serve_loop.specs.declared.trail.TrailLine.{TrailLine}
use Rattle.serve_loop.specs.declared.trail.TrailLine.TheVariants as lines
use Rattle.trail_laws.specs.Told.{Has, opened_in, seen_for}

-- as many sessions are live as may be; or fewer are, and as many were opened as may be
abbrev pub HasNoRoomFor : Limits → List Entry → Type 0
HasNoRoomFor limits log = IsFull limits log ⊎ ((length (live_of log) < limits.live) × IsSpent limits log)

-- what a line says that the directory tells is true of this history
abbrev pub IsTold : Limits → TrailLine → List Entry → Type 0
IsTold limits (lines.Http refusal) log = ⊥
IsTold limits (lines.Entry sid caller place) log = ⊥
IsTold limits (lines.Opened sid) log = ⊥
IsTold limits (lines.Unknown sid) log = live_at log sid ≡ None
IsTold limits (lines.NoSession condition) log = HasNoRoomFor limits log

-- an entry of these, which is one of this pass's own, tells that the session was opened
pub record HasOpening (log mine : List Entry) (session : List ℕ × GateId) : Type 0 where
  pub entry : Entry
  pub there : Has log entry
  pub own : Has mine entry
  pub tells : opening_in entry ≡ Some session

-- a line that the directory tells, behind these lines of the connection: what was seen of the directory begins what is seen in the end, what the line says
-- is true of it, and it has the openings that the lines before name
pub record IsSeenFor (limits : Limits) (before : List Traced) (t : Traced) (log : List Entry) (last : Known Entry) : Type 0 where
  pub begins : StartsWith last.seen log
  pub told : IsTold limits t.line log
  pub openings : (other : Traced) (session : List ℕ × GateId) → Has before other → opened_in other ≡ Some session → HasOpening log last.mine session

abbrev pub SeesEach : Limits → List Traced → Known Entry → Type 0
SeesEach limits added last = (before later : List Traced) (t : Traced) (log : List Entry) → added ≡ before ++ t ∷ later → seen_for t ≡ Some log → IsSeenFor limits before t log last
