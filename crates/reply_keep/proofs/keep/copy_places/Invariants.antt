use Rattle.std.proofs.Common.{◌≡◌, take}
use Rattle.reply_keep.proofs.keep.copy_places.Given as goal

-- so many places are copied
abbrev pub invariant-each : goal.invariant-each
invariant-each l = (l.copies.items ≡ take l.index l.places.items) × (l.copies.capacity ≡ l.places.capacity)
