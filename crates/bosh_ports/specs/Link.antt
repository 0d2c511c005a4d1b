-- What closing a link does; and a link in memory, which gives its bytes in pieces of stated sizes and fails at listed calls.
use Rattle.std.specs.Prelude.{◌≡◌, ℕ, ◌≤◌, List, [], ◌∷◌, Bool, true, Option, Some, None, min, max}
use Rattle.bosh_ports.specs.declared.source.Got.{Got}
use Rattle.bosh_ports.specs.declared.source.Got.TheVariants.{Bytes, End, Failed}
use Rattle.bosh_ports.specs.Memory.{Memory}

-- it is closed from here on, where it tells that
abbrev pub Closes : Option Bool → Option Bool → Type 0
Closes None new = Unit {0}
Closes (Some was) new = new ≡ Some true

-- what is left to be taken, what it was given, the sizes of the next pieces, and whether it was closed
pub record MemoryLink : Type 0 where
  pub taking : Memory
  pub giving : Memory
  pub pieces : List ℕ
  pub is_closed : Bool

-- the most bytes that the next piece has, where there is room for so many; past the stated sizes it is all of the room
abbrev pub next_piece : List ℕ → ℕ → ℕ
next_piece [] room = room
next_piece (size ∷ sizes) room = min room (max 1 size)

-- a take gives no more than this
abbrev pub GivesAtMost : ℕ → Got → Type 0
GivesAtMost most (Bytes n) = n ≤ most
GivesAtMost most End = Unit {0}
GivesAtMost most Failed = Unit {0}
