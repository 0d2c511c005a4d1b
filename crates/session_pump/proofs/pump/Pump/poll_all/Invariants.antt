use Rattle.std.specs.Prelude.{◌≡◌, length}
use Rattle.session_pump.specs.Pumping.{EachPlace, pumping_of}
use Rattle.session_pump.specs.Turns.{PollsAt}
use Rattle.session_pump.proofs.pump.Pump.poll_all.Given as goal

abbrev pub invariant-loop-place : goal.invariant-loop-place
invariant-loop-place g l = record {
  directory : l.self.purse.directory ≡ l.fn.self.purse.directory;
  hosts : length l.self.hosts.stands.items ≡ length l.fn.self.hosts.stands.items;
  silences : g.B.Bell.silences l.bell ≡ g.B.Bell.silences l.fn.bell;
  each : EachPlace (PollsAt (g.C.Clock.moment l.clock))
      (pumping_of g.E.Backend.told g.E.Backend.counts l.fn.self)
      l.place
      (pumping_of g.E.Backend.told g.E.Backend.counts l.self)
      l.polled;
}
