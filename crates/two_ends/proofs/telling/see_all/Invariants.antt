use Rattle.std.specs.Vec.Iter.{into_iter_items}
use Rattle.two_ends.proofs.TellLemmas.{SeesOn}
use Rattle.two_ends.proofs.telling.see_all.Given as goal

-- what was seen, and what is left to see, is all
abbrev pub invariant-loop-told : goal.invariant-loop-told
invariant-loop-told l = SeesOn l.fn.seen.items l.fn.written.items l.fn.told.items l.all.items l.written.items (into_iter_items l.told-iterator)
