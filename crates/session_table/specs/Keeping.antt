-- What a directory keeps beside its history.
use Rattle.std.specs.Prelude.{◌≡◌, ℕ, List, map, length}
use Rattle.std.specs.Arc.{arc_value}
use Rattle.parked_gate.specs.Passes.{gate_of}
use Rattle.session_table.specs.declared.entry.Entry.{Entry}
use Rattle.session_table.specs.declared.handle.SessionHandle.{SessionHandle}
use Rattle.session_table.specs.History.{openings_of, live_of, IsLegal}
use Rattle.session_table.specs.Sessions.{OpenedSession, by_number}

-- the session that a handle is of
abbrev pub session_of : SessionHandle → OpenedSession
session_of handle = record { sid = handle.sid; number = handle.number; gate = gate_of (arc_value handle.gate) }

-- its handles are those of the live sessions, by their opening numbers
pub record Keeps (handles : List (ℕ × SessionHandle)) (log : List Entry) (openings : ℕ) : Type 0 where
  pub live : map (λ h. (h.0, session_of h.1)) handles ≡ by_number (live_of log)
  pub openings_are : openings ≡ length (openings_of log)
  pub legal : IsLegal log
