use Rattle.std.specs.Arc.{arc_value}
use Rattle.parked_gate.specs.Passes.{IsPassOf}
use Rattle.bosh_server.proofs.crew.Tools.loops.Given as goal

abbrev pub invariant-loop-lane : goal.invariant-loop-lane
invariant-loop-lane g l = IsPassOf (arc_value l.self.yard.now).directory l.pass
