use Rattle.std.proofs.Common.{◌≡◌, true}
use Rattle.std.specs.List.{list_all}
use Rattle.parked_gate.specs.Passes.{IsPassOf, known}
use Rattle.client_run.specs.Adding.{is_entry, is_of_worker}
use Rattle.client_run.proofs.job.toil.Given as goal

abbrev pub invariant-loop : goal.invariant-loop
invariant-loop g l = record {
  next : (goal.iterator-loop g).can_next l.iterator';
  finite : (goal.iterator-loop g).is_finite l.iterator';
  pass : IsPassOf l.site.gate.now l.pass;
  mine : list_all (is_entry is_of_worker) (known l.pass).mine ≡ true;
}
