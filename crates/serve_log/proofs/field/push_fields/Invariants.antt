use Rattle.std.proofs.Common.{◌≡◌, ◌++◌, length}
use Rattle.serve_log.specs.Fields.{fields_text}
use Rattle.serve_log.proofs.field.push_fields.Given as goal

abbrev pub invariant-loop-left : goal.invariant-loop-left
invariant-loop-left l = l.fn.out.items ++ fields_text l.fields ≡ l.out.items ++ fields_text l.left

abbrev pub decreases-loop-left : goal.decreases-loop-left
decreases-loop-left l = length l.left
