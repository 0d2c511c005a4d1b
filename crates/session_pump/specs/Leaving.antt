-- When a session is left alone in a turn, since there is nothing to do for it.
use Rattle.std.specs.Prelude.{◌≡◌, ◌<◌, ◌⊎◌, ℕ, false, List, Some, None, IfSome, slice_get}
use Rattle.session_journal.specs.declared.asking.State.{State}
use Rattle.session_pump.specs.declared.line.Line.{Line}
use Rattle.session_pump.specs.declared.line.Stage.TheVariants as stages
use Rattle.session_pump.specs.declared.line.Side.{Side}
use Rattle.session_pump.specs.Hosts.{HostFacts}
use Rattle.session_pump.specs.Sides.{IsOpenAmong}
use Rattle.session_pump.specs.Pumping.{Pumping, line_of}

-- there is nothing to do at this moment for a session that answers so: time has nothing to do for it yet, nothing goes inward, and it goes
-- on
pub record HasNothing (now : ℕ) (state : State) : Type 0 where
  pub due : IfSome state.due (λ due. now < due)
  pub inward : state.is_inward ≡ false
  pub ending : state.ending ≡ None

-- nothing is to be done on this stream: its wire is open on the back end that stands behind its host now, or is no more and its session
-- knows; and nothing that its back end gave waits
pub record RestsAt (hosts : List HostFacts) (side : Side) : Type 0 where
  pub stage : IsOpenAmong hosts side ⊎ (side.stage ≡ stages.Lost)
  pub owed : side.owed ≡ None

-- the session has a line, nothing that was taken of it is kept, and nothing is to be done on each of its streams
pub record IsAtRest (number : ℕ) (a : Pumping) : Type 0 where
  pub line : Line
  pub is : line_of a.lines number ≡ Some line
  pub taken : line.kept ≡ None
  pub streams : (place : ℕ) (side : Side) → slice_get line.sides.items place ≡ Some side → RestsAt a.hosts side
