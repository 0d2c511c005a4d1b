use Rattle.std.proofs.Common.{◌+◌, ◌*◌}
use Rattle.parked_gate.specs.Passes.{IsPassOf}
use Rattle.port_tests.proofs.gates.+adding.Given as goal

abbrev pub decreases-add_in_threads : goal.decreases-add_in_threads
decreases-add_in_threads g l = 2 * l.threads

abbrev pub decreases-join+arg2 : goal.decreases-join+arg2
decreases-join+arg2 g l = 2 * l.half + 1

abbrev pub decreases-join+arg3 : goal.decreases-join+arg3
decreases-join+arg3 g l = 2 * l.rest + 1

abbrev pub invariant-loop : goal.invariant-loop
invariant-loop g l = IsPassOf l.gate l.pass
