use Rattle.std.specs.Prelude.{map}
use Rattle.std.specs.Arc.{arc_value}
use Rattle.parked_gate.specs.Passes.{gate_of}
use Rattle.session_pump.specs.Pumping.{facts_of}
use Rattle.serve_loop.specs.Trail.{setting}
use Rattle.bosh_server.proofs.run.run_workers.Given as goal

abbrev pub ghosts-run_named : goal.ghosts-run_named
ghosts-run_named g a = record {
  site = setting (arc_value a.yard).hosts (arc_value a.yard).limits (g.C.Clock.moment a.outside.now.clock);
  home = gate_of (arc_value a.yard).directory;
  stands = map (facts_of g.E.Backend.told g.E.Backend.counts) a.hosts.stands.items;
}
