use Rattle.std.proofs.Common.{◌≡◌}
use Rattle.parked_gate.specs.Passes.{IsPassOf, known}
use Rattle.client_run.specs.Handing.{Writes, out_of}
use Rattle.client_run.proofs.draining.write_out.Given as goal

abbrev pub invariant-loop : goal.invariant-loop
invariant-loop g l = record {
  next : (goal.iterator-loop g).can_next l.iterator';
  finite : (goal.iterator-loop g).is_finite l.iterator';
  pass : IsPassOf l.gate l.pass;
  counts : g.K.Sink.faults l.sink ≡ g.K.Sink.faults l.fn.sink;
  writes : Writes (out_of (known l.fn.pass) (g.K.Sink.given l.fn.sink)) (out_of (known l.pass) (g.K.Sink.given l.sink));
}
