use Rattle.std.proofs.Common.{◌≡◌, ◌-◌, ◌^◌, All, length, min}
use Rattle.std.specs.List.{sum_by}
use Rattle.parked_gate.specs.Passes.{IsPassOf, known}
use Rattle.bosh_server.specs.Fates.{IsFate, IsOfHistory}
use Rattle.bosh_server.proofs.ends.Ends.gather.Given as goal

abbrev pub invariant-loop : goal.invariant-loop
invariant-loop g l = record {
  next : (goal.iterator-loop g).can_next l.iterator';
  finite : (goal.iterator-loop g).is_finite l.iterator';
  pass : IsPassOf l.directory l.pass;
  of_one : ∥ All (λ fates. All (IsOfHistory (known l.pass).seen) fates) l.roll ∥₁;
  home : l.home ≡ min (sum_by length l.roll) (2 ^ 64 - 1);
  true_of : ∥ All (λ fates. All (IsFate g.L.Polled.left g.L.Polled.given g.L.Polled.closed g.L.Polled.faults g.J.Naming.site) fates) l.roll ∥₁;
}
