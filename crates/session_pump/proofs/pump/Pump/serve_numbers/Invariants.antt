use Rattle.std.specs.Prelude.{◌≡◌, take}
use Rattle.parked_gate.specs.Passes.{IsPassOf}
use Rattle.session_pump.specs.Pumping.{Each, pumping_of}
use Rattle.session_pump.specs.NumberedTurns.{ServesNumber}
use Rattle.session_pump.proofs.pump.Pump.serve_numbers.Given as goal

abbrev pub invariant-loop-number : goal.invariant-loop-number
invariant-loop-number g l = record {
  pass : IsPassOf l.directory l.self.purse.directory;
  silences : g.B.Bell.silences l.bell ≡ g.B.Bell.silences l.fn.bell;
  each : Each (ServesNumber (g.C.Clock.moment l.clock))
      (pumping_of g.E.Backend.told g.E.Backend.counts l.fn.self)
      (take l.number-index l.numbers)
      (pumping_of g.E.Backend.told g.E.Backend.counts l.self)
      l.served;
}
