-- The keys of a client are 40 digits.
use Rattle.std.proofs.Common.{◌≡◌, ℕ, zero, suc, ◌-◌, ◌/◌, ◌%◌, ◌<◌, ◌≤◌, ◌&&◌, Bool, true, inl, inr, List, [], ◌∷◌, ◌++◌, length, slice_index, refl, arith}
use Rattle.std.specs.Prelude.{IsTrue}
use Rattle.std.specs.Int.{to_be_bytes, w32}
use Rattle.std.proofs.lemmas.Bool.{and_parts, cases_lt}
use Rattle.std.proofs.lemmas.List.Elements.{All-cons, All-nil}
use Rattle.std.proofs.lemmas.Nat.{mod_below}
use Rattle.hex.specs.Hex.{IsBytes, encode_with, lower_digits}
use Rattle.hex.proofs.HexLemmas.{length-encode_with}
use Rattle.sha1.specs.Sha1.{digest_bytes, hash_after, padded_message, sha1}
use Rattle.body_cutter.specs.Chars.{is_digit}
use Rattle.body_writer.specs.ReadBack.{IsKey, is_key_digit}
use Rattle.key_sequence.specs.Chain.{hex_digest, key_of}
use Rattle.bosh_client.specs.Keys.{number_at}

bytes-append : (xs ys : List ℕ) → IsBytes xs → IsBytes ys → IsBytes (xs ++ ys)
bytes-append [] ys a b = b
bytes-append (x ∷ xs) ys a b = by (bytes-append xs ys (λ k. a (suc k)) b)
  where
    by : IsBytes (xs ++ ys) → IsBytes (x ∷ (xs ++ ys))
    by rest zero = a 0
    by rest (suc i) = rest i

word_bytes : (n : ℕ) → IsBytes (to_be_bytes w32 n)
word_bytes n zero = omega arith
word_bytes n (suc zero) = omega arith
word_bytes n (suc (suc zero)) = omega arith
word_bytes n (suc (suc (suc zero))) = omega arith
word_bytes n (suc (suc (suc (suc i)))) = omega arith

nothing_bytes : IsBytes []
nothing_bytes i = omega arith

digests_bytes : (h : List ℕ) (count : ℕ) → IsBytes (digest_bytes h count)
unfolding digest_bytes
digests_bytes h zero = nothing_bytes
digests_bytes h (suc n) = bytes-append (digest_bytes h n) (to_be_bytes w32 (slice_index h n)) (digests_bytes h n) (word_bytes (slice_index h n))

digests_long : (h : List ℕ) → length (digest_bytes h 5) ≡ 20
unfolding digest_bytes
digests_long h = refl

-- each value below 16 is written as a digit
abbrev is_digit_at : ℕ → Bool
is_digit_at d = is_key_digit (slice_index lower_digits d)

abbrev are_digits : ℕ → Bool
are_digits zero = true
are_digits (suc n) = is_digit_at n && are_digits n

digit_below : (n d : ℕ) → are_digits n ≡ true → d < n → is_digit_at d ≡ true
digit_below zero d all low = absurd (omega arith)
digit_below (suc n) d all low =
    let parts = and_parts (is_digit_at n) (are_digits n) all in
    elim (cases_lt d n) [
      | inl below ↦ digit_below n d parts.1 below
      | inr top ↦
          let same : d ≡ n = omega arith in
          rw same parts.0
    ]

all_digits : are_digits 16 ≡ true
unfolding is_digit
all_digits = refl

hex_digits : (bytes : List ℕ) → IsBytes bytes → IsKey (encode_with lower_digits bytes)
unfolding encode_with
hex_digits [] bounded = All-nil (λ byte. IsTrue (is_key_digit byte))
hex_digits (b ∷ rest) bounded =
    let P : ℕ → Type 0 = λ byte. IsTrue (is_key_digit byte) in
    let fits : b < 256 = bounded 0 in
    All-cons P (slice_index lower_digits (b / 16)) (slice_index lower_digits (b % 16) ∷ encode_with lower_digits rest) (digit_below 16 (b / 16) all_digits (omega arith))
    (All-cons P (slice_index lower_digits (b % 16)) (encode_with lower_digits rest) (digit_below 16 (b % 16) all_digits (omega arith)) (hex_digits rest (λ i. bounded (suc i))))

-- forty digits
sha1_bytes : (text : List ℕ) → IsBytes (sha1 text) × (length (sha1 text) ≡ 20)
unfolding sha1
sha1_bytes text =
    let h = hash_after (padded_message text) (length (padded_message text) / 64) in
    (digests_bytes h 5, digests_long h)

digest_form : (text : List ℕ) → IsKey (hex_digest text) × (length (hex_digest text) ≡ 40)
unfolding hex_digest
digest_form text =
    let bytes = sha1_bytes text in
    (hex_digits (sha1 text) bytes.0, omega (arith, length-encode_with lower_digits (sha1 text), bytes.1))

pub key_form : (seed : List ℕ) (number : ℕ) → 1 ≤ number → IsKey (key_of seed number) × (length (key_of seed number) ≡ 40)
key_form seed zero some = absurd (omega arith)
key_form seed (suc number) some = digest_form (key_of seed number)

-- a number of a key that is sent is one at least
pub number_some : (keys later : ℕ) → 2 ≤ keys → 1 ≤ number_at keys later
number_some keys later some = omega (arith, mod_below later (keys - 1) (omega (arith, some)))
