use Rattle.std.proofs.Common.{◌≡◌, ◌++◌, map}
use Rattle.std.specs.Vec.Iter.{into_iter_items}
use Rattle.pair_text.specs.declared.report.PairReport.TheVariants.{Saw}
use Rattle.pair_text.proofs.run.saw_all.Given as goal

-- what was told, and what is left to tell, is all
abbrev pub invariant-loop-item : goal.invariant-loop-item
invariant-loop-item l = map Saw l.fn.seen ≡ l.lines.items ++ map Saw (into_iter_items l.item-iterator)
