use Rattle.parked_gate.specs.Passes.{IsPassOf}
use Rattle.serve_rows.proofs.steps.lost.Given as goal

abbrev pub invariant-loop : goal.invariant-loop
invariant-loop g l = IsPassOf l.place.directory l.worker.own.purse.directory
