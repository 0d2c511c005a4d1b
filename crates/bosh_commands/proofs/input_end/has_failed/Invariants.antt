use Rattle.std.proofs.Common.{◌≡◌}
use Rattle.bosh_commands.proofs.input_end.has_failed.Given as goal

abbrev pub invariant-loop : goal.invariant-loop
invariant-loop g l = record {
  next : (goal.iterator-loop g).can_next l.iterator';
  finite : (goal.iterator-loop g).is_finite l.iterator';
  counts : g.I.Source.faults l.input ≡ g.I.Source.faults l.fn.input;
}
