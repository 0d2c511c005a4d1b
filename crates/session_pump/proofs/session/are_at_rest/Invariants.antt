use Rattle.std.specs.Prelude.{◌≡◌, ◌<◌, ℕ, Some, slice_get}
use Rattle.session_pump.specs.Hosts.{hosts_of}
use Rattle.session_pump.specs.Leaving.{RestsAt}
use Rattle.session_pump.specs.declared.line.Side.{Side}
use Rattle.session_pump.proofs.session.are_at_rest.Given as goal

abbrev pub invariant-loop-side : goal.invariant-loop-side
invariant-loop-side g l = (place : ℕ) (side : Side) → place < l.side-index → slice_get l.line.sides.items place ≡ Some side → RestsAt (hosts_of g.E.Backend.told g.E.Backend.counts l.hosts) side
