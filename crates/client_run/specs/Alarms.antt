-- The alarm of a crew, told by who raised it.
use Rattle.std.specs.Prelude.{◌≡◌, ◌&&◌, ℕ, not, Bool, true, false, List, [], ◌∷◌, Option, Some, None}
use Rattle.parked_gate.specs.Passes.{Known}

-- somebody raised it
abbrev pub is_raised : List ℕ → Bool
is_raised [] = false
is_raised (caller ∷ later) = true

-- the first who raises it is entered, and nobody after that
abbrev pub Raises : List ℕ → Option ℕ → Type 0
Raises [] None = ⊥
Raises [] (Some caller) = Unit {0}
Raises (caller ∷ later) made = made ≡ None

-- who has seen that it was raised, and did not raise it
abbrev pub has_heard : Known ℕ → Bool
has_heard alarm = is_raised alarm.seen && not (is_raised alarm.mine)
