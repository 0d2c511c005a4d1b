use Rattle.std.specs.Prelude.{◌≡◌, take}
use Rattle.parked_gate.specs.Passes.{IsPassOf}
use Rattle.session_pump.specs.Pumping.{Each, pumping_of}
use Rattle.session_pump.specs.Turns.{ShutsOne}
use Rattle.session_pump.proofs.pump.Pump.shut_all.Given as goal

abbrev pub invariant-loop-session : goal.invariant-loop-session
invariant-loop-session g l = record {
  pass : IsPassOf l.directory l.self.purse.directory;
  silences : g.B.Bell.silences l.bell ≡ g.B.Bell.silences l.fn.bell;
  each : Each (ShutsOne (g.C.Clock.moment l.clock))
      (pumping_of g.E.Backend.told g.E.Backend.counts l.fn.self)
      (take l.session-index l.live)
      (pumping_of g.E.Backend.told g.E.Backend.counts l.self)
      l.told;
}
