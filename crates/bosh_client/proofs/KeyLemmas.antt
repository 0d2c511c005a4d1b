-- Keys are sent downwards.
use Rattle.std.proofs.Common.{◌≡◌, ℕ, zero, suc, ◌-◌, ◌≤◌, List, ◌∷◌, length, refl, ap, arith}
use Rattle.key_sequence.specs.Chain.{key_of, keys_down}

pub length-keys_down : (seed : List ℕ) (n : ℕ) → length (keys_down seed n) ≡ n
length-keys_down seed zero = refl
length-keys_down seed (suc n) = ap suc (length-keys_down seed n)

-- the first of the keys from a number down is that number's, and the others are those below it
pub first_key : (seed : List ℕ) (n : ℕ) (key : List ℕ) (left : List (List ℕ)) → 1 ≤ n → keys_down seed n ≡ key ∷ left → (key ≡ key_of seed n) × (left ≡ keys_down seed (n - 1))
first_key seed zero key left some is = absurd (omega arith)
first_key seed (suc n) key left some is =
    let same : suc n - 1 ≡ n = omega arith in
    (cc, rw same (cc))
