use Rattle.std.proofs.Common.{◌≡◌, true}
use Rattle.parked_gate.specs.Passes.{IsPassOf, known}
use Rattle.client_run.specs.Adding.{AddsOnly, is_hand_out}
use Rattle.client_run.specs.Handed.{Handed}
use Rattle.client_run.specs.Handing.{out_of}
use Rattle.client_run.proofs.lingering.await_ends.Given as goal

abbrev pub invariant-loop : goal.invariant-loop
invariant-loop g l = record {
  next : (goal.iterator-loop g).can_next l.iterator';
  finite : (goal.iterator-loop g).is_finite l.iterator';
  pass : IsPassOf l.gate l.pass;
  counts : g.K.Sink.faults l.sink ≡ g.K.Sink.faults l.fn.sink;
  adds : AddsOnly is_hand_out (known l.fn.pass) (known l.pass);
  handed : Handed true (out_of (known l.fn.pass) (g.K.Sink.given l.fn.sink)) (out_of (known l.pass) (g.K.Sink.given l.sink)) (g.K.Sink.faults l.fn.sink) (g.K.Sink.faults l.sink);
}
