use Rattle.std.specs.Prelude.{◌≡◌}
use Rattle.session_pump.specs.Ends.{ends_of}
use Rattle.session_pump.specs.Giving.{GivesTimes}
use Rattle.session_pump.proofs.polling.poll_host.Given as goal

abbrev pub invariant-loop : goal.invariant-loop
invariant-loop g l = record {
  name : l.stand.host.name ≡ l.fn.stand.host.name;
  directory : l.purse.directory ≡ l.fn.purse.directory;
  silences : g.B.Bell.silences l.bell ≡ g.B.Bell.silences l.fn.bell;
  times : GivesTimes (g.C.Clock.moment l.clock) l.counter
      (record {
        place = l.place;
        kept = l.fn.stand.kept;
        ends = ends_of g.E.Backend.told g.E.Backend.counts l.fn.stand;
        sessions = l.fn.purse.sessions;
        lines = l.fn.lines;
      })
      (record {
        place = l.place;
        kept = l.stand.kept;
        ends = ends_of g.E.Backend.told g.E.Backend.counts l.stand;
        sessions = l.purse.sessions;
        lines = l.lines;
      });
}
