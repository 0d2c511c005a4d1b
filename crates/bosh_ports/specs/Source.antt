-- What a source gives, where it tells which bytes it has left.
use Rattle.std.specs.Prelude.{◌≡◌, ℕ, ◌≤◌, List, Option, length, take}
use Rattle.std.specs.Io.KnownBytes.{Consumes, Keeps, IsAtEnd}
use Rattle.bosh_ports.specs.declared.source.Got.{Got}
use Rattle.bosh_ports.specs.declared.source.Got.TheVariants.{Bytes, End, Failed}

-- one take: the next bytes, one at least and no more than there is room for; or the end; or nothing
abbrev pub Takes : Option (List ℕ) → Option (List ℕ) → List ℕ → Got → Type 0
Takes old new room (Bytes n) = (1 ≤ n) × (n ≤ length room) × Consumes old new (take n room)
Takes old new room End = IsAtEnd old × Keeps old new
Takes old new room Failed = Keeps old new

-- a take that didn't fail left the count of faults as it was
abbrev pub CountsTake : ℕ → ℕ → Got → Type 0
CountsTake old new (Bytes n) = new ≡ old
CountsTake old new End = new ≡ old
CountsTake old new Failed = Unit {0}
