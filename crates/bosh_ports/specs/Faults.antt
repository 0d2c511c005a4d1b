-- Counts of faults.
use Rattle.std.specs.Prelude.{ℕ, ◌-◌, ◌^◌, ◌<◌}

-- the count rose; one that stands at the end of its type counts as risen
abbrev pub HasRisen : ℕ → ℕ → Type 0
HasRisen old new = old < 2 ^ 64 - 1 → old < new
