-- A number that is written in decimal is read as itself.
use Rattle.std.proofs.Common.{◌≡◌, ◌∙◌, ℕ, ◌<◌, ◌≤◌, ◌^◌, true, false, refl, ap, arith, rules, length}
use Rattle.std.specs.Prelude.{Some, nat_le, nat_lt, ◌==◌}
use Rattle.std.specs.Option.{option_map}
use Rattle.std.specs.Fmt.{decimal}
use Rattle.std.specs.Str.{all_ascii_digits}
use Rattle.std.proofs.lemmas.Str.Parse.{IsNumeralModel, numerals_by_fold}
use Rattle.std.proofs.lemmas.Fmt.{digits_decimal, digits_value-decimal, decimal_nonempty, length-decimal-le}
use Rattle.std.proofs.lemmas.Bool.Decides.{nat_tests}
use Rattle.bosh_types.specs.Decimal.{number_after}
use Rattle.bosh_types.specs.Rid.{IsRid}
use Rattle.bosh_types.proofs.RidLemmas.{rid_of-decimal}
use Rattle.session_attrs.specs.Forms.{number_of, pause_of, ack_of, below, unless_zero}
use Rattle.session_attrs.specs.Rows.{told}

own : IsNumeralModel (λ ds. all_ascii_digits ds ≡ true) (number_after 0)
own = numerals_by_fold _ (search rules) number_after (search rules)

pub number_of-decimal : (n : ℕ) → n ≤ 999999999 → number_of (decimal n) ≡ Some n
unfolding number_of
number_of-decimal n within =
    let small : n < 2 ^ 64 = omega (arith, within) in
    let some : nat_le 1 (length (decimal n)) ≡ true = grind (arith, nat_tests, decimal_nonempty n small) in
    let few : nat_le (length (decimal n)) 9 ≡ true = grind (arith, nat_tests, length-decimal-le 9 n (omega arith) (omega (arith, within)) small) in
    rw (some, few, digits_decimal own n small, digits_value-decimal own n small) refl

pub told_number : (n : ℕ) → n ≤ 999999999 → told number_of (decimal n) ≡ Some (Some n)
told_number n within = ap (λ o. option_map Some o) (number_of-decimal n within)

pub pause_of-decimal : (n : ℕ) → 1 ≤ n → n ≤ 999999999 → pause_of (decimal n) ≡ Some n
unfolding pause_of
pause_of-decimal n some within =
    let positive : (n == 0) ≡ false = grind (arith, nat_tests, some) in
    ap unless_zero (number_of-decimal n within) ∙ rw positive refl

pub ack_of-decimal : (rid n : ℕ) → IsRid rid → 1 ≤ n → n < rid → ack_of rid (decimal n) ≡ Some n
unfolding ack_of
ack_of-decimal rid n is some lower =
    let less : nat_lt n rid ≡ true = grind (arith, nat_tests, lower) in
    ap (below rid) (rid_of-decimal n (some, omega (arith, lower, is.1))) ∙ rw less refl
