-- A number of 64 bits is read from exactly the text that it writes.
use Rattle.std.proofs.Common.{◌≡◌, ℕ, ◌+◌, ◌-◌, ◌*◌, ◌<◌, ◌≤◌, ◌^◌, Bool, true, false, List, Option, Some, None, if◌then◌else◌, ◌&&◌, nat_lt, slice_index, length, drop, add-one, drop-cons, refl, arith}
use Rattle.std.proofs.lemmas.Grind.{common_steps}
use Rattle.std.proofs.lemmas.Bool.Decides.{nat_tests}
use Rattle.std.specs.Char.{is_ascii_digit}
use Rattle.std.specs.Str.{all_ascii_digits}
use Rattle.bosh_types.specs.Decimal.{number_after, positive_of}
use Rattle.bosh_types.proofs.RidLemmas.{number_after-le}
use Rattle.bosh_commands.specs.Number.{within_64}

-- the number that these digits write where they follow those of n
abbrev pub value_after : ℕ → List ℕ → Option ℕ
value_after n text = if all_ascii_digits text then within_64 (Some (number_after n text)) else None

-- past 64 bits there is no way back
pub value_after-beyond : (n : ℕ) (text : List ℕ) → 2 ^ 64 ≤ n → value_after n text ≡ None
value_after-beyond n text beyond = grind (arith, common_steps, nat_tests, number_after-le n text)

begin_by : (all first : Bool) (n : ℕ) → first ≡ true → within_64 (if all && first then Some n else None) ≡ (if all then within_64 (Some n) else None)
begin_by true first n is = rw is refl
begin_by false first n is = refl

-- the first digit isn't 0
pub value_after-begin : (text : List ℕ) → 1 ≤ length text → 49 ≤ slice_index text 0 → within_64 (positive_of text) ≡ value_after 0 text
value_after-begin text some first =
    let test : nat_lt 48 (slice_index text 0) ≡ true = grind (arith, nat_tests) in
    begin_by (all_ascii_digits text) (nat_lt 48 (slice_index text 0)) (number_after 0 text) test

-- one digit more
pub value_after-digit : (n digit i : ℕ) (text : List ℕ) → i < length text → is_ascii_digit (slice_index text i) ≡ true → digit ≡ slice_index text i - 48
    → value_after n (drop i text) ≡ value_after (n * 10 + digit) (drop (i + 1) text)
value_after-digit n digit i text more is value = rw (value, add-one, drop-cons text i 0, is) refl

-- any other byte spoils it
pub value_after-other : (n i : ℕ) (text : List ℕ) → i < length text → is_ascii_digit (slice_index text i) ≡ false → value_after n (drop i text) ≡ None
value_after-other n i text more other = rw (drop-cons text i 0, other) refl

-- nothing is left
pub value_after-end : (n i : ℕ) (text : List ℕ) → length text ≤ i → n < 2 ^ 64 → value_after n (drop i text) ≡ Some n
value_after-end n i text end fits = grind (arith, common_steps, nat_tests)
