use Rattle.parked_gate.specs.Passes.{IsPassOf}
use Rattle.port_tests.proofs.gates.each_call_of_many_threads_is_there_once.Given as goal

abbrev pub invariant-loop-caller : goal.invariant-loop-caller
invariant-loop-caller g l = IsPassOf l.gate l.all
