use Rattle.std.proofs.Common.{◌≡◌, ◌++◌, length}
use Rattle.serve_log.specs.Fields.{all_escaped}
use Rattle.serve_log.proofs.field.push_all_escaped.Given as goal

abbrev pub invariant-loop-left : goal.invariant-loop-left
invariant-loop-left l = l.fn.out.items ++ all_escaped l.text ≡ l.out.items ++ all_escaped l.left

abbrev pub decreases-loop-left : goal.decreases-loop-left
decreases-loop-left l = length l.left
