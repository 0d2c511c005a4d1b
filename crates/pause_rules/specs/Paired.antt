-- That the two orders of an index have the same pairs.
use Rattle.std.specs.Prelude.{◌≡◌, ℕ, Bool, false, nat_eq, Option, Some, None}
use Rattle.std.specs.BTreeMap.{BTreeMap, IsOrdered, get}
use Rattle.std.specs.BTreeSet.{BTreeSet, contains}
use Rattle.std.specs.Ordering.{nat_cmp, ordering_then}
use Rattle.std.specs.declared.cmp.Ordering.{Ordering}

-- pairs of numbers by their first part, and then by their second
abbrev pub pair_cmp : ℕ × ℕ → ℕ × ℕ → Ordering
pair_cmp x y = ordering_then (nat_cmp x.0 y.0) (nat_cmp x.1 y.1)

-- whether it is this moment
abbrev pub is_moment : Option ℕ → ℕ → Bool
is_moment None moment = false
is_moment (Some other) moment = nat_eq other moment

-- the numbers are different, and the queue has just their pairs, with the moment first
pub record IsPaired (moments : BTreeMap ℕ ℕ) (queue : BTreeSet (ℕ × ℕ)) : Type 0 where
  pub ordered : IsOrdered nat_cmp moments
  pub agree : (moment number : ℕ) → contains pair_cmp queue (moment, number) ≡ is_moment (get nat_cmp moments number) moment
