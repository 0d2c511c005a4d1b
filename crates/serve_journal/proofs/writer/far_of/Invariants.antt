use Rattle.std.proofs.Common.{◌≡◌, drop}
use Rattle.serve_journal.specs.Writing.{far_in}
use Rattle.serve_journal.proofs.writer.far_of.Given as goal

-- what the whole gives, those that are left give
abbrev pub invariant-loop-early : goal.invariant-loop-early
invariant-loop-early l = far_in l.far (drop l.early-index l.waiting) ≡ far_in l.taken l.waiting
