-- The names that were drawn for the sessions that lines say were opened.
use Rattle.std.specs.Prelude.{◌≡◌, ℕ, Contains, List, Some}
use Rattle.parked_gate.specs.Passes.{GateId, Known}
use Rattle.session_table.specs.declared.entry.Entry.{Entry}
use Rattle.session_table.specs.History.{openings_of}
use Rattle.session_table.specs.Sessions.{OpenedSession}
use Rattle.session_table.specs.Sids.{sid_of}
use Rattle.serve_loop.specs.declared.trail.Traced.{Traced}
use Rattle.trail_laws.specs.Told.{Has, opened_in}

-- the directory counts the session among those that were opened, and its name is one of these, followed by its opening number
pub record IsNamedAs (names : List (List ℕ)) (log : List Entry) (session : List ℕ × GateId) : Type 0 where
  pub name : List ℕ
  pub drawn : Has names name
  pub opened : OpenedSession
  pub there : Contains (openings_of log) opened
  pub is : (opened.sid, opened.gate) ≡ session
  pub named : opened.sid ≡ sid_of name opened.number

abbrev pub NamesAsDrawn : List (List ℕ) → List Traced → Known Entry → Type 0
NamesAsDrawn names added last = (t : Traced) (session : List ℕ × GateId) → Has added t → opened_in t ≡ Some session → IsNamedAs names last.seen session
