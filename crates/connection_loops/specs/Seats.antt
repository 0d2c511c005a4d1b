-- The seats of a loop.
use Rattle.std.specs.Prelude.{◌≡◌, ◌≢◌, ℕ, Option, None, Some}
use Rattle.slab.specs.Slab.{Slab, get}
use Rattle.connection_loops.specs.declared.slots.Slot.{Slot}

-- what sits in a slot, if there is one
abbrev pub seat_of : {S : Type 0} → Option (Slot S) → Option S
seat_of None = None
seat_of (Some slot) = Some slot.seat

-- the seat with a number
abbrev pub seat_at : {S : Type 0} → Slab (Slot S) → ℕ → Option S
seat_at slots at = seat_of (get slots at)

-- each seat is where it was
abbrev pub KeepsSeats : {S : Type 0} → Slab (Slot S) → Slab (Slot S) → Type 0
KeepsSeats old new = (at : ℕ) → seat_at new at ≡ seat_at old at

-- each seat but that with this number is where it was
abbrev pub KeepsOthers : {S : Type 0} → Slab (Slot S) → Slab (Slot S) → ℕ → Type 0
KeepsOthers old new at = (other : ℕ) → other ≢ at → seat_at new other ≡ seat_at old other
