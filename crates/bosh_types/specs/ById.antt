-- Things that are listed with their request ids.
use Rattle.std.specs.Prelude.{ℕ, ◌==◌, List, Option}
use Rattle.std.specs.Map.{lookup}

-- what stands at the id: of several, the first
abbrev pub at_id : {X : Type 0} → List (ℕ × X) → ℕ → Option X
at_id pairs rid = lookup (λ id. id == rid) pairs
