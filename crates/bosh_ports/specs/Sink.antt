-- What a sink takes, where it tells which bytes it was given.
use Rattle.std.specs.Prelude.{◌≡◌, ℕ, ◌≤◌, List, ◌++◌, Option, Result, MatchResult, length, take}
use Rattle.std.specs.Io.KnownBytes.{Appends, Keeps}
use Rattle.bosh_ports.specs.declared.sink.Gave.{Gave}
use Rattle.bosh_ports.specs.declared.sink.Gave.TheVariants.{Wrote, Failed}

-- one give: the first bytes, one at least; or nothing
abbrev pub Gives : Option (List ℕ) → Option (List ℕ) → List ℕ → Gave → Type 0
Gives old new bytes (Wrote n) = (1 ≤ n) × (n ≤ length bytes) × Appends old new (take n bytes)
Gives old new bytes Failed = Keeps old new

-- a give that didn't fail left the count of faults as it was
abbrev pub CountsGive : ℕ → ℕ → Gave → Type 0
CountsGive old new (Wrote n) = new ≡ old
CountsGive old new Failed = Unit {0}

-- the sink was given a front of these bytes and nothing else
abbrev pub AppendsFront : Option (List ℕ) → Option (List ℕ) → List ℕ → Type 0
AppendsFront old new bytes = (front : List ℕ) × (rest : List ℕ) × (bytes ≡ front ++ rest) × Appends old new front

-- the sink was given all of these bytes, or where the call failed a front of them
abbrev pub GivesAll : {T E : Type 0} → Result T E → Option (List ℕ) → Option (List ℕ) → List ℕ → Type 0
GivesAll result old new bytes = MatchResult result (λ _. Appends old new bytes) (λ _. AppendsFront old new bytes)
