-- The digits of a text in lower-case hexadecimal.
use Rattle.std.proofs.Common.{◌≡◌, ℕ, zero, suc, ◌/◌, ◌%◌, ◌<◌, Bool, true, ◌&&◌, inl, inr, List, [], ◌∷◌, slice_index, refl, arith}
use Rattle.std.specs.List.{AllPass}
use Rattle.std.proofs.lemmas.Bool.{and_parts, cases_lt}
use Rattle.std.proofs.lemmas.List.Elements.{All-cons, All-nil}
use Rattle.hex.specs.Hex.{IsBytes, encode_with, lower_digits}
use Rattle.bosh_types.specs.Key.{is_key_digit}

-- the digit of this value
abbrev is_digit_at : ℕ → Bool
is_digit_at d = is_key_digit (slice_index lower_digits d)

-- the digits of the first n values
abbrev are_digits : ℕ → Bool
are_digits zero = true
are_digits (suc n) = is_digit_at n && are_digits n

are_digits-at : (n d : ℕ) → are_digits n ≡ true → d < n → is_digit_at d ≡ true
are_digits-at zero d h lt = absurd (omega arith)
are_digits-at (suc n) d h lt =
    let parts = and_parts (is_digit_at n) (are_digits n) h in
    elim (cases_lt d n) [
      | inl below ↦ are_digits-at n d parts.1 below
      | inr top ↦
          let e : d ≡ n = omega arith in
          rw e parts.0
    ]

is_digit : (d : ℕ) → d < 16 → is_digit_at d ≡ true
is_digit d lt = are_digits-at 16 d refl lt

-- what hexadecimal text is made of
pub encode_lower-digits : (bytes : List ℕ) → IsBytes bytes → AllPass is_key_digit (encode_with lower_digits bytes)
unfolding encode_with
encode_lower-digits [] bounded = All-nil (λ c. is_key_digit c ≡ true)
encode_lower-digits (b ∷ rest) bounded =
    let fits : b < 256 = bounded 0 in
    All-cons (λ c. is_key_digit c ≡ true) (slice_index lower_digits (b / 16)) (slice_index lower_digits (b % 16) ∷ encode_with lower_digits rest) (is_digit (b / 16) (omega arith))
    (All-cons (λ c. is_key_digit c ≡ true) (slice_index lower_digits (b % 16)) (encode_with lower_digits rest) (is_digit (b % 16) (omega arith)) (encode_lower-digits rest (λ i. bounded (suc i))))
