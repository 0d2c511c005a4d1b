use Rattle.std.proofs.Common.{◌≡◌, ◌≤◌}
use Rattle.parked_gate.specs.Passes.{IsPassOf, known}
use Rattle.serve_loop.specs.Connections.{IsServedBy, outside}
use Rattle.serve_loop.specs.Drawing.{OpensAsDrawn}
use Rattle.serve_loop.specs.Stepping.{Steps}
use Rattle.serve_loop.specs.Trail.{setting}
use Rattle.bosh_server.proofs.served.Served.go_on.Given as goal

abbrev pub invariant-loop : goal.invariant-loop
invariant-loop g l = record {
  pass : IsPassOf l.site.directory.now l.self.worker.purse.directory;
  held : IsServedBy l.self.worker.purse.sessions l.self.connection.standing.stage;
  moves : Steps (setting l.site.hosts.now l.site.limits (g.C.Clock.moment l.site.clock.now))
      (outside l.fn.self.connection.reader (g.L.Polled.left l.fn.self.link) (g.L.Polled.given l.fn.self.link) l.fn.self.worker.trail l.fn.self.worker.purse (g.L.Polled.faults l.fn.self.link))
      (outside l.self.connection.reader (g.L.Polled.left l.self.link) (g.L.Polled.given l.self.link) l.self.worker.trail l.self.worker.purse (g.L.Polled.faults l.self.link))
      l.fn.self.connection.standing l.self.connection.standing;
  drawn : OpensAsDrawn (g.M.Names.drawn l.fn.tools.names) (g.M.Names.drawn l.tools.names) (known l.fn.self.worker.purse.directory) (known l.self.worker.purse.directory);
  faults : g.L.Polled.faults l.fn.self.link ≤ g.L.Polled.faults l.self.link;
}
