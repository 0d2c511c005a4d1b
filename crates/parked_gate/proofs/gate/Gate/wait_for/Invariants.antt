use Rattle.std.proofs.Common.{◌≤◌}
use Rattle.parked_gate.specs.Passes.{known, IsPassOf, Grows}
use Rattle.parked_gate.proofs.gate.Gate.wait_for.Given as goal

abbrev pub invariant-loop : goal.invariant-loop
invariant-loop g l =
    (goal.iterator-loop g).can_next l.iterator' × (goal.iterator-loop g).is_finite l.iterator'
    × IsPassOf l.self l.pass × Grows (known l.initial.pass) (known l.pass)
    × (g.B.Bell.silences l.initial.bell ≤ g.B.Bell.silences l.bell)
