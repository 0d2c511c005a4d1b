use Rattle.parked_gate.specs.Passes.{IsPassOf}
use Rattle.serve_tests.proofs.connections.threads.wait_for_session.Given as goal

abbrev pub invariant-loop : goal.invariant-loop
invariant-loop g l = IsPassOf l.directory l.purse.directory
