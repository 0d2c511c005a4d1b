-- A request id is read from exactly the text that its number writes.
use Rattle.std.proofs.Common.{◌≡◌, ◌≢◌, ℕ, ◌+◌, ◌-◌, ◌*◌, ◌<◌, ◌≤◌, ◌^◌, Bool, true, false, List, [], ◌∷◌, Option, Some, None, if◌then◌else◌, ◌&&◌, nat_le, nat_lt, slice_index, length, drop, add-one, drop-cons, refl, sym, ◌∙◌, ap, rules, arith, IfSome, IfNone}
use Rattle.std.proofs.lemmas.Grind.{common_steps}
use Rattle.std.proofs.lemmas.Bool.{ltb-true, leb-true}
use Rattle.std.proofs.lemmas.Bool.Decides.{nat_tests}
use Rattle.std.specs.Option.{SomeIff}
use Rattle.std.specs.Fmt.{decimal}
use Rattle.std.specs.Char.{is_ascii_digit}
use Rattle.std.specs.Str.{all_ascii_digits}
use Rattle.std.proofs.lemmas.Str.Parse.{IsNumeralModel, numerals_by_fold}
use Rattle.std.proofs.lemmas.Fmt.{digits_decimal, digits_value-decimal, first_decimal, decimal-digits_value, decimal_digit}
use Rattle.bosh_types.specs.Decimal.{number_after, is_positive_decimal, positive_of}
use Rattle.bosh_types.specs.Rid.{greatest_rid, IsRid, within_greatest, rid_of}

own : IsNumeralModel (λ ds. all_ascii_digits ds ≡ true) (number_after 0)
own = numerals_by_fold _ (search rules) number_after (search rules)

-- the request id that these digits write where they follow those of n
abbrev pub rid_after : ℕ → List ℕ → Option ℕ
rid_after n text = if all_ascii_digits text then within_greatest (Some (number_after n text)) else None

-- more digits write no lesser number
pub number_after-le : (n : ℕ) (text : List ℕ) → n ≤ number_after n text
number_after-le n [] = omega arith
number_after-le n (digit ∷ digits) = omega (arith, number_after-le (n * 10 + (digit - 48)) digits)

-- past the greatest there is no way back
pub rid_after-beyond : (n : ℕ) (text : List ℕ) → greatest_rid < n → rid_after n text ≡ None
rid_after-beyond n text beyond = grind (arith, common_steps, number_after-le n text)

pub rid_of-decimal : (n : ℕ) → IsRid n → rid_of (decimal n) ≡ Some n
rid_of-decimal n is =
    let small : n < 2 ^ 64 = omega arith in
    let digits : all_ascii_digits (decimal n) ≡ true = digits_decimal own n small in
    let value : number_after 0 (decimal n) ≡ n = digits_value-decimal own n small in
    let first : 48 < slice_index (decimal n) 0 = first_decimal n is.0 small in
    grind (arith, common_steps, digits, value, first)

some_where : (b : Bool) (o : Option ℕ) (n : ℕ) → (if b then o else None) ≡ Some n → (b ≡ true) × (o ≡ Some n)
some_where true o n is = (refl, is)
some_where false o n is = cc

both_true : (a b : Bool) → a && b ≡ true → (a ≡ true) × (b ≡ true)
both_true true b is = (refl, is)
both_true false b is = cc

within : (o : Option ℕ) (n : ℕ) → within_greatest o ≡ Some n → (o ≡ Some n) × (n ≤ greatest_rid)
within None n is = cc
within (Some m) n is =
    let w = some_where (nat_le m greatest_rid) (Some m) n is in
    let same : m ≡ n = cc in
    (w.1, omega (arith, leb-true m greatest_rid w.0, same))

some_first : (text : List ℕ) → 48 < slice_index text 0 → 0 < length text
some_first [] first = omega arith
some_first (c ∷ cs) first = omega arith

pub decimal-rid_of : (text : List ℕ) (rid : ℕ) → rid_of text ≡ Some rid → text ≡ decimal rid
decimal-rid_of text rid is =
    let w = within (positive_of text) rid is in
    let p = some_where (is_positive_decimal text) (Some (number_after 0 text)) rid w.0 in
    let d = both_true (all_ascii_digits text) (nat_lt 48 (slice_index text 0)) p.0 in
    let first : 48 < slice_index text 0 = ltb-true 48 (slice_index text 0) d.1 in
    let value : number_after 0 text ≡ rid = cc in
    sym (decimal-digits_value own text d.0 (some_first text first) (λ zero. absurd (omega arith)) (omega (arith, value, w.1)))
    ∙ ap decimal value

positive : (n : ℕ) → (n ≡ 0 → ⊥) → 1 ≤ n
positive n not_zero = omega (arith, not_zero)

-- what is read is a request id
pub rid_of-IsRid : (text : List ℕ) (rid : ℕ) → rid_of text ≡ Some rid → IsRid rid
rid_of-IsRid text rid is =
    let w = within (positive_of text) rid is in
    let p = some_where (is_positive_decimal text) (Some (number_after 0 text)) rid w.0 in
    let d = both_true (all_ascii_digits text) (nat_lt 48 (slice_index text 0)) p.0 in
    let first : 48 < slice_index text 0 = ltb-true 48 (slice_index text 0) d.1 in
    let zero : rid ≡ 0 → text ≡ 48 ∷ [] = λ e. decimal-rid_of text rid is ∙ ap decimal e ∙ decimal_digit 0 (omega arith) in
    (positive rid (λ e. omega (arith, first, ap (λ t. slice_index t 0) (zero e))), w.1)

-- no text of a request id is refused
pub rid_of-refused : (text : List ℕ) → rid_of text ≡ None → (n : ℕ) → IsRid n → text ≢ decimal n
rid_of-refused text none n is same =
    let some : Some n ≡ None = sym (rid_of-decimal n is) ∙ sym (ap rid_of same) ∙ none in
    cc

-- what is made of the number that was read
pub made_is : (text : List ℕ) (n : ℕ) (made : Option ℕ) → Some n ≡ rid_of text → SomeIff made (IsRid n) n → made ≡ rid_of text
made_is text n None is some = absurd (some (rid_of-IsRid text n (sym is)))
made_is text n (Some m) is some = ap Some some.1 ∙ is

pub written : (text : List ℕ) (read : Option ℕ) → read ≡ rid_of text → IfSome read (λ rid. text ≡ decimal rid)
written text None is = tt
written text (Some rid) is = decimal-rid_of text rid (sym is)

pub refused : (text : List ℕ) (read : Option ℕ) → read ≡ rid_of text → IfNone read ((n : ℕ) → IsRid n → text ≢ decimal n)
refused text None is = rid_of-refused text (sym is)
refused text (Some rid) is = tt

begin_by : (all first : Bool) (n : ℕ) → first ≡ true → within_greatest (if all && first then Some n else None) ≡ (if all then within_greatest (Some n) else None)
begin_by true first n is = rw is refl
begin_by false first n is = refl

-- the first digit isn't 0
pub rid_after-begin : (text : List ℕ) → 1 ≤ length text → 49 ≤ slice_index text 0 → rid_of text ≡ rid_after 0 text
rid_after-begin text some first =
    let test : nat_lt 48 (slice_index text 0) ≡ true = grind (arith, nat_tests) in
    begin_by (all_ascii_digits text) (nat_lt 48 (slice_index text 0)) (number_after 0 text) test

-- one digit more
pub rid_after-digit : (n digit i : ℕ) (text : List ℕ) → i < length text → is_ascii_digit (slice_index text i) ≡ true → digit ≡ slice_index text i - 48 → rid_after n (drop i text) ≡ rid_after (n * 10 + digit) (drop (i + 1) text)
rid_after-digit n digit i text more is value = rw (value, add-one, drop-cons text i 0, is) refl

-- any other byte spoils it
pub rid_after-other : (n i : ℕ) (text : List ℕ) → i < length text → is_ascii_digit (slice_index text i) ≡ false → rid_after n (drop i text) ≡ None
rid_after-other n i text more other = rw (drop-cons text i 0, other) refl

-- nothing is left
pub rid_after-end : (n i : ℕ) (text : List ℕ) → length text ≤ i → n ≤ greatest_rid → rid_after n (drop i text) ≡ Some n
rid_after-end n i text end fits = grind (arith, common_steps)
