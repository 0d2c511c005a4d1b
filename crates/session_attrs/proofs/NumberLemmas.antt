-- A number is read digit by digit, and 9 of them fit.
use Rattle.std.proofs.Common.{◌≡◌, ℕ, ◌+◌, ◌-◌, ◌*◌, ◌^◌, ◌<◌, ◌≤◌, Bool, true, false, ◌&&◌, List, Option, Some, None, if◌then◌else◌, nat_le, slice_index, length, drop, add-one, drop-cons, refl, sym, arith, lit<}
use Rattle.std.proofs.lemmas.Grind.{common_steps}
use Rattle.std.proofs.lemmas.Bool.Decides.{nat_tests}
use Rattle.std.proofs.Math.Nat.{pow-le-pow_right, pow-suc}
use Rattle.std.specs.Char.{is_ascii_digit}
use Rattle.std.specs.Str.{all_ascii_digits}
use Rattle.bosh_types.specs.Decimal.{number_after}
use Rattle.session_attrs.specs.Forms.{number_of}

-- the number that these digits write where they follow those of n
abbrev pub number_on : ℕ → List ℕ → Option ℕ
number_on n text = if all_ascii_digits text then Some (number_after n text) else None

begin_by : (few all : Bool) (n : ℕ) → few ≡ true → (if few && all then Some n else None) ≡ (if all then Some n else None)
begin_by true all n is = refl
begin_by false all n is = cc

pub number_on-begin : (text : List ℕ) → 1 ≤ length text → length text ≤ 9 → number_of text ≡ number_on 0 text
unfolding number_of
number_on-begin text some few =
    let test : nat_le 1 (length text) && nat_le (length text) 9 ≡ true = grind (arith, nat_tests) in
    begin_by (nat_le 1 (length text) && nat_le (length text) 9) (all_ascii_digits text) (number_after 0 text) test

-- one digit more
pub number_on-digit : (n digit i : ℕ) (text : List ℕ) → i < length text → is_ascii_digit (slice_index text i) ≡ true → digit ≡ slice_index text i - 48 → number_on n (drop i text) ≡ number_on (n * 10 + digit) (drop (i + 1) text)
number_on-digit n digit i text more is value = rw (value, add-one, drop-cons text i 0, is) refl

-- any other byte spoils it
pub number_on-other : (n i : ℕ) (text : List ℕ) → i < length text → is_ascii_digit (slice_index text i) ≡ false → number_on n (drop i text) ≡ None
number_on-other n i text more other = rw (drop-cons text i 0, other) refl

-- nothing is left
pub number_on-end : (n i : ℕ) (text : List ℕ) → length text ≤ i → number_on n (drop i text) ≡ Some n
number_on-end n i text end = grind (arith, common_steps)

-- with one digit more it stays below the next power of 10
pub below_power : (i n digit : ℕ) → n < 10 ^ i → digit ≤ 9 → n * 10 + digit < 10 ^ (i + 1)
below_power i n digit low single = rw (add-one, pow-suc 10 i) (omega (arith, low, single))

-- after at most 8 digits one more fits
pub fits_power : (i n : ℕ) → n < 10 ^ i → i < 9 → n < 10 ^ 8
fits_power i n low few =
    let most : 10 ^ i ≤ 10 ^ 8 = pow-le-pow_right {n = 10} (lit< tt) {i = i} {j = 8} (omega (arith, few)) in
    omega (arith, low, most)

short_by : (some few all : Bool) (o : Option ℕ) → some ≡ false → (if (some && few) && all then o else None) ≡ None
short_by true few all o is = cc
short_by false few all o is = refl

long_by : (some few all : Bool) (o : Option ℕ) → few ≡ false → (if (some && few) && all then o else None) ≡ None
long_by true true all o is = cc
long_by true false all o is = refl
long_by false few all o is = refl

-- no digit is no number
pub number_of-empty : (text : List ℕ) → length text < 1 → None ≡ number_of text
unfolding number_of
number_of-empty text none =
    let test : nat_le 1 (length text) ≡ false = grind (arith, nat_tests) in
    sym (short_by (nat_le 1 (length text)) (nat_le (length text) 9) (all_ascii_digits text) (Some (number_after 0 text)) test)

-- nor are 10
pub number_of-long : (text : List ℕ) → 9 < length text → None ≡ number_of text
unfolding number_of
number_of-long text long =
    let test : nat_le (length text) 9 ≡ false = grind (arith, nat_tests) in
    sym (long_by (nat_le 1 (length text)) (nat_le (length text) 9) (all_ascii_digits text) (Some (number_after 0 text)) test)
