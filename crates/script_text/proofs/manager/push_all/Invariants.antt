use Rattle.std.proofs.Common.{◌≡◌, ◌++◌}
use Rattle.std.specs.Vec.Iter.{into_iter_items}
use Rattle.script_text.proofs.manager.push_all.Given as goal

-- the lines so far, and those that are left
abbrev pub invariant-loop-line : goal.invariant-loop-line
invariant-loop-line l = l.fn.lines.items ++ l.fn.more.items ≡ l.lines.items ++ into_iter_items l.line-iterator
