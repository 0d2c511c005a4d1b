use Rattle.std.proofs.Common.{◌≡◌, take}
use Rattle.bosh_types.proofs.copies.copy_items.Given as goal

-- so many items are copied
abbrev pub invariant-loop-item : goal.invariant-loop-item
invariant-loop-item g l = l.copies.items ≡ take l.item-index l.items
