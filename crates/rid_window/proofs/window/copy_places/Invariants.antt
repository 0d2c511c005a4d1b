use Rattle.std.proofs.Common.{◌≡◌, take}
use Rattle.rid_window.proofs.window.copy_places.Given as goal

-- so many places are copied
abbrev pub invariant-each : goal.invariant-each
invariant-each g l = (l.copies.items ≡ take l.index l.places.items) × (l.copies.capacity ≡ l.places.capacity)
