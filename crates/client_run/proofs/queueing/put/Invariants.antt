use Rattle.std.proofs.Common.{◌≤◌}
use Rattle.parked_gate.specs.Passes.{IsPassOf, known}
use Rattle.client_run.specs.Queueing.{Offers}
use Rattle.client_run.proofs.queueing.put.Given as goal

abbrev pub invariant-loop : goal.invariant-loop
invariant-loop g l = record {
  next : (goal.iterator-loop g).can_next l.iterator';
  finite : (goal.iterator-loop g).is_finite l.iterator';
  pass : IsPassOf l.gate l.pass;
  silences : g.B.Bell.silences l.fn.bell ≤ g.B.Bell.silences l.bell;
  offers : Offers l.stanza (known l.fn.pass) (known l.pass);
}
