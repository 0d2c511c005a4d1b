use Rattle.std.proofs.Common.{◌≡◌, ℕ, None, get_or, length}
use Rattle.rid_window.proofs.window.Window.new.Given as goal

-- there are so many places, all of them empty
abbrev pub invariant-fill : goal.invariant-fill
invariant-fill g l = (length l.places.items ≡ l.counter) × (l.places.capacity ≡ l.size) × ((k : ℕ) → get_or l.places.items k None ≡ None)
