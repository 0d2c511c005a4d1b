-- Handles of sessions.
use Rattle.std.specs.Prelude.{◌≡◌, []}
use Rattle.std.specs.Arc.{arc_value}
use Rattle.parked_gate.specs.Passes.{gate_of, known}
use Rattle.session_table.specs.declared.handle.SessionHandle.{SessionHandle}

-- two handles of one session, each with a pass of its gate
pub record IsOfSame (x y : SessionHandle) : Type 0 where
  pub sid : y.sid ≡ x.sid
  pub number : y.number ≡ x.number
  pub gate : gate_of (arc_value y.gate) ≡ gate_of (arc_value x.gate)

-- and with one and the same pass
pub record IsSameHandle (x y : SessionHandle) : Type 0 where
  pub of_same : IsOfSame x y
  pub pass : known y.pass ≡ known x.pass

-- the second was split from the first: its pass has seen as much, and made nothing
pub record IsSplitOf (x y : SessionHandle) : Type 0 where
  pub of_same : IsOfSame x y
  pub seen : (known y.pass).seen ≡ (known x.pass).seen
  pub mine : (known y.pass).mine ≡ []
  pub learnt : (known y.pass).learnt ≡ []
