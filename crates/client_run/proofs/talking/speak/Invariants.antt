use Rattle.std.proofs.Common.{◌≡◌, ◌≤◌, ◌-◌, []}
use Rattle.std.specs.Io.KnownBytes.{prepend_known}
use Rattle.bosh_types.specs.Limits.{most_lines}
use Rattle.parked_gate.specs.Passes.{IsPassOf, known}
use Rattle.client_run.specs.Handing.{out_of}
use Rattle.client_run.specs.Talking.{HasSpoken, talk_of}
use Rattle.client_run.proofs.talking.speak.Given as goal

abbrev pub invariant-loop-lines : goal.invariant-loop-lines
invariant-loop-lines g l = record {
  pass : IsPassOf l.gate l.pass;
  few : l.lines ≤ most_lines;
  source : g.S.Source.faults l.source ≡ g.S.Source.faults l.fn.source;
  sink : g.K.Sink.faults l.sink ≡ g.K.Sink.faults l.fn.sink;
  silences : g.B.Bell.silences l.fn.bell ≤ g.B.Bell.silences l.bell;
  speaks : HasSpoken (talk_of (out_of (known l.fn.pass) (g.K.Sink.given l.fn.sink)) (g.S.Source.left l.fn.source) [])
      (out_of (known l.pass) (g.K.Sink.given l.sink)) (prepend_known l.reader (g.S.Source.left l.source)) l.lines;
}

abbrev pub decreases-loop-lines : goal.decreases-loop-lines
decreases-loop-lines g l = most_lines - l.lines
