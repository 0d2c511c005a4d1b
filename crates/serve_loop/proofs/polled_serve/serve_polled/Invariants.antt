use Rattle.std.proofs.Common.{◌≤◌, []}
use Rattle.parked_gate.specs.Passes.{IsPassOf, known}
use Rattle.session_table.specs.declared.purse.Purse.{Purse}
use Rattle.serve_loop.specs.Connections.{IsServedBy, outside}
use Rattle.serve_loop.specs.Stepping.{StandsAt}
use Rattle.serve_loop.specs.Drawing.{OpensAsDrawn}
use Rattle.serve_loop.specs.Effects.{DropsRemoved}
use Rattle.serve_loop.specs.Trail.{setting}
use Rattle.serve_loop.proofs.polled_serve.serve_polled.Given as goal

abbrev pub invariant-loop : goal.invariant-loop
invariant-loop g l = record {
  next : (goal.iterator-loop g).can_next l.iterator';
  finite : (goal.iterator-loop g).is_finite l.iterator';
  pass : IsPassOf l.site.directory.now l.worker.purse.directory;
  held : IsServedBy l.worker.purse.sessions l.connection.standing.stage;
  first : Purse;
  dropped : DropsRemoved l.fn.worker.purse first;
  stands : StandsAt (setting l.site.hosts.now l.site.limits (g.C.Clock.moment l.site.clock.now))
      (outside [] (g.K.Polled.left l.fn.link) (g.K.Polled.given l.fn.link) l.fn.worker.trail first (g.K.Polled.faults l.fn.link))
      (outside l.connection.reader (g.K.Polled.left l.link) (g.K.Polled.given l.link) l.worker.trail l.worker.purse (g.K.Polled.faults l.link))
      l.connection.standing.place l.connection.standing.stage;
  drawn : OpensAsDrawn (g.M.Names.drawn l.fn.tools.names) (g.M.Names.drawn l.tools.names) (known l.fn.worker.purse.directory) (known l.worker.purse.directory);
  silences : g.B.Bell.silences l.fn.tools.bell ≤ g.B.Bell.silences l.tools.bell;
  faults : g.K.Polled.faults l.fn.link ≤ g.K.Polled.faults l.link;
}
