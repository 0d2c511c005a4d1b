use Rattle.std.specs.Arc.{arc_value}
use Rattle.parked_gate.specs.Passes.{IsPassOf}
use Rattle.serve_rows.proofs.steps.played.Given as goal

abbrev pub invariant-loop-row : goal.invariant-loop-row
invariant-loop-row g l = IsPassOf (arc_value l.place).directory l.worker.own.purse.directory
