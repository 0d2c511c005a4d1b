-- Numbers of four bytes.
use Rattle.std.proofs.Common.{◌≡◌, ℕ, zero, suc, ◌<◌, ◌^◌, List, [], ◌∷◌, length, get_or, arith, refl, sym, ◌∙◌, ap}
use Rattle.std.specs.Int.{from_be_bytes, w32}
use Rattle.std.proofs.lemmas.Nat.{from_be_bytes-to_be_bytes_4, be_bytes_4}
use Rattle.journal_store.specs.Records.{number4}

pub length-number4 : (n : ℕ) → length (number4 n) ≡ 4
unfolding number4
length-number4 n = refl

pub read-number4 : (n : ℕ) → n < 2 ^ 32 → from_be_bytes w32 (number4 n) ≡ n
unfolding number4
read-number4 n small = from_be_bytes-to_be_bytes_4 n small

-- two numbers with the same four bytes are one
pub same_number4 : (m n : ℕ) → m < 2 ^ 32 → n < 2 ^ 32 → number4 m ≡ number4 n → m ≡ n
same_number4 m n small small' same = sym (read-number4 m small) ∙ ap (λ (l : List ℕ). from_be_bytes w32 l) same ∙ read-number4 n small'

-- four bytes are those of the number that they give
pub number4_of : (a b c d n : ℕ) → a < 256 → b < 256 → c < 256 → d < 256 → n ≡ from_be_bytes w32 (a ∷ b ∷ c ∷ d ∷ []) → number4 n ≡ a ∷ b ∷ c ∷ d ∷ []
unfolding number4
number4_of a b c d n fits-a fits-b fits-c fits-d is = be_bytes_4 (a ∷ b ∷ c ∷ d ∷ []) n refl (λ i. each i) is
  where
    each : (i : ℕ) → get_or (a ∷ b ∷ c ∷ d ∷ []) i 0 < 256
    each zero = fits-a
    each (suc zero) = fits-b
    each (suc (suc zero)) = fits-c
    each (suc (suc (suc zero))) = fits-d
    each (suc (suc (suc (suc i)))) = omega arith
