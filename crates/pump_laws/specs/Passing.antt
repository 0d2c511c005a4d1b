-- What the back ends of a pump were passed on the wires of a session, by what was taken of that for each of its streams.
use Rattle.std.specs.Prelude.{◌≡◌, ◌≢◌, ◌<◌, ◌+◌, ◌-◌, ◌*◌, ◌^◌, ℕ, false, List, ◌++◌, filter, Option, Some, IfSome, option_to_list, slice_get}
use Rattle.bosh_types.specs.Limits.{most_streams}
use Rattle.bosh_types.specs.declared.inward.Inward.{Inward}
use Rattle.parked_gate.specs.Passes.{known}
use Rattle.session_table.specs.Purses.{held}
use Rattle.session_table.specs.declared.handle.SessionHandle.{SessionHandle}
use Rattle.session_pump.specs.Ends.{Ends}
use Rattle.session_pump.specs.Hosts.{HostFacts}
use Rattle.session_pump.specs.Pumping.{Pumping}
use Rattle.session_pump.specs.Sides.{is_for, is_met}
use Rattle.session_pump.specs.declared.line.Line.{Line}
use Rattle.session_pump.specs.declared.line.Side.{Side}
use Rattle.session_pump.specs.declared.line.Stage.{Stage}
use Rattle.session_pump.specs.declared.line.Stage.TheVariants as stages
use Rattle.pump_laws.specs.CallsMade.{CallMade, MadeBy, carried, handed, taken}
use Rattle.pump_laws.specs.Handing.{GaveOf, IsIdle, KeepsNone, told_in_turn}
use Rattle.pump_laws.specs.InTurn.{Begins, Every, IsNothing, OneWas, ends_at, passed_in_turn, passed_on}

-- the count of failures of a host can still rise
abbrev pub CanFail : Ends → Type 0
CanFail ends = ends.failures < 2 ^ 64 - 1

-- What the back ends of a stream's host were passed on its wire, by what was taken of its session for it and what of that is kept: nothing
-- before the wire was opened; while it is open the one that stands there was passed all but what is kept, and no other anything;
-- and when it is open no more, one of them was passed the first of what was taken, and no other anything
pub data PassedOf (wire : ℕ) (all : List Inward) (stage : Stage) (kept : List Inward) (ends : Ends) : Type 0 where
  isnt_opened : stage ≡ stages.Unopened → Every IsNothing (passed_in_turn wire ends) → all ≡ kept → PassedOf wire all stage kept ends
  is_open : stage ≡ stages.Opened ends.failures → Every (λ end. IsNothing (passed_on wire end)) ends.spares
      → IfSome (passed_on wire ends.standing) (λ passed. all ≡ passed ++ kept) → PassedOf wire all stage kept ends
  is_no_more : stage ≢ stages.Unopened → ((on : ℕ) → stage ≡ stages.Opened on → on < ends.failures)
      → OneWas (λ passed. Begins passed all) (passed_in_turn wire ends) → PassedOf wire all stage kept ends

-- no back end of any host was passed anything on this wire
abbrev pub PassedNothing : Pumping → ℕ → Type 0
PassedNothing b wire = (place : ℕ) (ends : Ends) → ends_at b.hosts place ≡ Some ends → Every IsNothing (passed_in_turn wire ends)

-- what was taken for the stream of this side went to the back ends of its host, and to no other's
pub record StreamPasses (b : Pumping) (number : ℕ) (items : List Inward) (kept : Option Inward) (side : Side) : Type 0 where
  pub wire : side.wire ≡ number * most_streams + side.stream
  pub here : (place : ℕ) (ends : Ends) → ends_at b.hosts place ≡ Some ends → side.host ≡ Some place → CanFail ends
      → PassedOf side.wire (carried side.stream items) side.stage (filter (is_for side.stream) (option_to_list kept)) ends
  pub elsewhere : (place : ℕ) (ends : Ends) → ends_at b.hosts place ≡ Some ends → side.host ≢ Some place
      → Every IsNothing (passed_in_turn side.wire ends)

-- The session of this line is held; what was taken of it is what the calls of the pump's pass took, one item with each entry that
-- took one; each stream has one side, and what was taken for it went to the back ends of its host, and to no other's; and nothing was passed on the
-- wire of a stream that wasn't met
pub record PassesInOrder (b : Pumping) (number : ℕ) (line : Line) : Type 0 where
  pub handle : SessionHandle
  pub held_as : held b.sessions number ≡ Some handle
  pub calls : List CallMade
  pub made : MadeBy calls (known handle.pass).mine
  pub once : (place other : ℕ) (side beside : Side) → slice_get line.sides.items place ≡ Some side → slice_get line.sides.items other ≡ Some beside
      → side.stream ≡ beside.stream → place ≡ other
  pub streams : (place : ℕ) (side : Side) → slice_get line.sides.items place ≡ Some side → StreamPasses b number (taken calls) line.kept side
  pub unmet : (stream : ℕ) → stream < most_streams → is_met stream line.sides.items ≡ false → PassedNothing b (number * most_streams + stream)

-- the stanzas that were given to the session on the stream of this side, the one that its side owes, and the one that its host keeps for it, are in this
-- order what one back end of its host gave on its wire; and none of another host gave any
pub record StreamHands (b : Pumping) (made : List CallMade) (side : Side) : Type 0 where
  pub here : (place : ℕ) (host : HostFacts) → slice_get b.hosts place ≡ Some host → side.host ≡ Some place
      → GaveOf side.wire (handed side.stream made) side.stage side.owed host.kept (told_in_turn side.wire host.ends)
  pub elsewhere : (place : ℕ) (host : HostFacts) → slice_get b.hosts place ≡ Some host → side.host ≢ Some place
      → Every IsIdle (told_in_turn side.wire host.ends) × KeepsNone side.wire host.kept

-- The session of this line is held, and that holds of each of its streams; on the wire of another stream nothing was given
pub record HandsInOrder (b : Pumping) (number : ℕ) (line : Line) : Type 0 where
  pub handle : SessionHandle
  pub held_as : held b.sessions number ≡ Some handle
  pub calls : List CallMade
  pub made : MadeBy calls (known handle.pass).mine
  pub streams : (place : ℕ) (side : Side) → slice_get line.sides.items place ≡ Some side → StreamHands b calls side
  pub unmet : (stream : ℕ) → stream < most_streams → is_met stream line.sides.items ≡ false → (place : ℕ) (host : HostFacts) → slice_get b.hosts place ≡ Some host
      → Every IsIdle (told_in_turn (number * most_streams + stream) host.ends) × KeepsNone (number * most_streams + stream) host.kept
