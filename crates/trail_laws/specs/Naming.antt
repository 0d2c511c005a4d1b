-- The names of the sessions that a connection opened.
use Rattle.std.specs.Prelude.{◌≡◌, ℕ, List, Option, Some}
use Rattle.parked_gate.specs.Passes.{GateId, Known}
use Rattle.session_table.specs.declared.entry.Entry.{Entry}
use Rattle.session_table.specs.History.{openings_of}
use Rattle.session_table.specs.Sessions.{OpenedSession}
use Rattle.session_table.specs.Sids.{IsSidOf}
use Rattle.serve_loop.specs.declared.trail.Traced.{Traced}
use Rattle.trail_laws.specs.Told.{Has, opened_in}

-- the directory counts the session among those that were opened, and its name is a part that a name may begin with, followed by its opening number
pub record IsNamed (log : List Entry) (session : List ℕ × GateId) : Type 0 where
  pub opened : OpenedSession
  pub there : Has (openings_of log) opened
  pub is : (opened.sid, opened.gate) ≡ session
  pub name : IsSidOf opened.sid opened.number

abbrev pub NamesEach : List Traced → Known Entry → Type 0
NamesEach added last = (t : Traced) (session : List ℕ × GateId) → Has added t → opened_in t ≡ Some session → IsNamed last.seen session
