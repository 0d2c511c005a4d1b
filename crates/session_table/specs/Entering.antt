-- How a history goes on where a session is opened or removed.
use Rattle.std.specs.Prelude.{◌≡◌, ℕ, All, Bool, true, false, List, [], ◌∷◌, ◌++◌, Some, None}
use Rattle.std.specs.Arc.{arc_value}
use Rattle.parked_gate.specs.Passes.{gate_of}
use Rattle.session_table.specs.declared.entry.Entry.{Entry}
use Rattle.session_table.specs.declared.handle.SessionHandle.{SessionHandle}
use Rattle.session_table.specs.History.{live_at, opening_in, removal_in}
use Rattle.session_table.specs.Sessions.{OpenedSession}

-- the caller's entry tells of the opening of this session
pub record EntersOpening (log : List Entry) (caller : ℕ) (x : SessionHandle) (later : List Entry) : Type 0 where
  pub entry : Entry
  pub appended : later ≡ log ++ entry ∷ []
  pub caller_is : entry.caller ≡ caller
  pub tells : opening_in entry ≡ Some (x.sid, gate_of (arc_value x.gate))

-- the caller's entry tells of the removal of the live session of that name
pub record EntersRemoval (log : List Entry) (caller : ℕ) (sid : List ℕ) (later : List Entry) : Type 0 where
  pub session : OpenedSession
  pub live : live_at log sid ≡ Some session
  pub entry : Entry
  pub appended : later ≡ log ++ entry ∷ []
  pub caller_is : entry.caller ≡ caller
  pub tells : removal_in entry ≡ Some sid

-- that, or no live session has that name, and nothing is entered
abbrev pub RemovesOrNot : List Entry → ℕ → List ℕ → Bool → List Entry → Type 0
RemovesOrNot log caller sid true later = EntersRemoval log caller sid later
RemovesOrNot log caller sid false later = (later ≡ log) × (live_at log sid ≡ None)

-- all entries are of this caller
abbrev pub AreOf : ℕ → List Entry → Type 0
AreOf caller log = All (λ e. e.caller ≡ caller) log
