-- One more key of a sequence.
use Rattle.std.proofs.Common.{◌≡◌, ℕ, zero, suc, ◌+◌, ◌-◌, ◌≤◌, List, ◌∷◌, refl, ◌∙◌, ap, add-one, arith}
use Rattle.key_sequence.specs.Chain.{hex_digest, key_of, keys_down}

pub key_of-next : (seed : List ℕ) (number : ℕ) → key_of seed (number + 1) ≡ hex_digest (key_of seed number)
key_of-next seed number = rw add-one refl

pub keys_down-next : (seed : List ℕ) (number : ℕ) → 1 ≤ number → keys_down seed (number + 1 - 1) ≡ key_of seed number ∷ keys_down seed (number - 1)
keys_down-next seed zero some = absurd (omega arith)
keys_down-next seed (suc below) some =
    let same : suc below + 1 - 1 ≡ suc below = omega arith in
    let rest : below ≡ suc below - 1 = omega arith in
    ap (keys_down seed) same ∙ ap (λ k. key_of seed (suc below) ∷ keys_down seed k) rest
