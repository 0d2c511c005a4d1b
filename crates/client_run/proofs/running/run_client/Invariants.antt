use Rattle.std.specs.Arc.{arc_value}
use Rattle.parked_gate.specs.Passes.{gate_of}
use Rattle.client_run.proofs.running.run_client.Given as goal

abbrev pub ghosts-run_named : goal.ghosts-run_named
ghosts-run_named g a = record { gate = gate_of (arc_value a.place.now.gate.now); alarm = gate_of (arc_value a.siren.gate) }
