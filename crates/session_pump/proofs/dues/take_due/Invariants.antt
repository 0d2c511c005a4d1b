use Rattle.std.specs.Prelude.{ℕ}
use Rattle.std.specs.List.{Contains}
use Rattle.session_pump.specs.Dues.{IsTakenBy}
use Rattle.session_pump.proofs.dues.take_due.Given as goal

abbrev pub invariant-loop : goal.invariant-loop
invariant-loop g l = record {
  next : (goal.iterator-loop g).can_next l.iterator';
  finite : (goal.iterator-loop g).is_finite l.iterator';
  taken : (number : ℕ) → IsTakenBy l.now l.fn.dues l.dues l.numbers.items number;
  kept : (number : ℕ) → Contains l.fn.numbers.items number → Contains l.numbers.items number;
}
