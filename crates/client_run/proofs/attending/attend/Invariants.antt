use Rattle.std.proofs.Common.{◌≡◌, ◌≤◌, true}
use Rattle.std.specs.Io.KnownBytes.{prepend_known}
use Rattle.bosh_types.specs.Limits.{most_lines}
use Rattle.parked_gate.specs.Passes.{IsPassOf, known}
use Rattle.client_run.specs.Handed.{Handed}
use Rattle.client_run.specs.Handing.{out_of}
use Rattle.client_run.proofs.AttendLemmas.{HasAttended}
use Rattle.client_run.proofs.attending.attend.Given as goal

abbrev pub invariant-loop : goal.invariant-loop
invariant-loop g l = record {
  next : (goal.iterator-loop g).can_next l.iterator';
  finite : (goal.iterator-loop g).is_finite l.iterator';
  pass : IsPassOf l.gate l.pass;
  few : l.lines ≤ most_lines;
  source : g.S.Source.faults l.source ≡ g.S.Source.faults l.fn.source;
  sink : g.K.Sink.faults l.sink ≡ g.K.Sink.faults l.fn.sink;
  attended : HasAttended (known l.fn.pass) (g.S.Source.left l.fn.source) (known l.pass) (prepend_known l.reader (g.S.Source.left l.source)) l.lines;
  handed : Handed true (out_of (known l.fn.pass) (g.K.Sink.given l.fn.sink)) (out_of (known l.pass) (g.K.Sink.given l.sink)) (g.K.Sink.faults l.fn.sink) (g.K.Sink.faults l.sink);
}
