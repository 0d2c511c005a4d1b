-- Numbers that are each due at a moment, and which of them is due first.
use Rattle.std.specs.Prelude.{◌≡◌, ℕ, ◌<◌, ◌≤◌, ◌⊎◌, List, [], Option, Some, None}
use Rattle.std.specs.BTreeMap.{insert_entry, is_at}
use Rattle.std.specs.List.{All, Contains}
use Rattle.std.specs.List.Sorted.{IsStrictlySortedBy}
use Rattle.std.specs.Map.{keys_of, lookup, remove_entry}
use Rattle.std.specs.Ordering.{nat_cmp}

-- the numbers rise, so that no two of them are the same
abbrev pub IsByNumber : List (ℕ × ℕ) → Type 0
IsByNumber pairs = IsStrictlySortedBy nat_cmp (keys_of pairs)

-- when a number is due, by pairs of a number and its moment
abbrev pub moment_of : List (ℕ × ℕ) → ℕ → Option ℕ
moment_of pairs number = lookup (is_at (nat_cmp number)) pairs

-- the number has this moment, and no other pair changed
abbrev pub after_set : List (ℕ × ℕ) → ℕ → ℕ → List (ℕ × ℕ)
after_set pairs number moment = insert_entry nat_cmp pairs number moment

-- the number has no moment, and no other pair changed
abbrev pub after_clear : List (ℕ × ℕ) → ℕ → List (ℕ × ℕ)
after_clear pairs number = remove_entry (is_at (nat_cmp number)) pairs

-- a pair is due before another one, or is that one: at one moment the lower number comes first
abbrev pub IsNoLater : ℕ × ℕ → ℕ × ℕ → Type 0
IsNoLater one other = (one.1 < other.1) ⊎ ((one.1 ≡ other.1) × (one.0 ≤ other.0))

-- the number that is due first, where it is due by now, and none exactly where none is due by now
abbrev pub IsNextDue : List (ℕ × ℕ) → ℕ → Option ℕ → Type 0
IsNextDue pairs now None = All (λ pair. now < pair.1) pairs
IsNextDue pairs now (Some number) =
    (moment : ℕ) × Contains pairs (number, moment) × (moment ≤ now) × All (IsNoLater (number, moment)) pairs

-- the least of all moments, and none exactly where there is no pair
abbrev pub IsLeastMoment : List (ℕ × ℕ) → Option ℕ → Type 0
IsLeastMoment pairs None = pairs ≡ []
IsLeastMoment pairs (Some moment) = (number : ℕ) × Contains pairs (number, moment) × All (λ pair. moment ≤ pair.1) pairs
