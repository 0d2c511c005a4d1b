use Rattle.std.proofs.Common.{◌≡◌, take}
use Rattle.bosh_types.proofs.copies.copy_queue.Given as goal

-- so many items are copied
abbrev pub invariant-loop-index : goal.invariant-loop-index
invariant-loop-index g l = l.copies.items ≡ take l.index l.items.items
