use Rattle.std.proofs.Common.{◌≡◌, ◌<◌, ◌≤◌, ◌^◌, ◌*◌, arith, length}
use Rattle.std.proofs.lemmas.Bool.Decides.{nat_tests}
use Rattle.session_attrs.proofs.NumberLemmas.{number_of-empty, number_of-long, number_on-begin, fits_power}
use Rattle.session_attrs.proofs.forms.number_of.Goals as goal

pub returns-then-is_empty : goal.returns-then-is_empty
returns-then-is_empty c = number_of-empty c.args.text.now (grind (arith, nat_tests))

pub returns-then-text-gt-MOST_DIGITS : goal.returns-then-text-gt-MOST_DIGITS
returns-then-text-gt-MOST_DIGITS c = number_of-long c.args.text.now c.if-text-gt-MOST_DIGITS.true

pub loop-digit-init : goal.loop-digit-init
loop-digit-init c =
    let some : 1 ≤ length c.args.text.now = grind (arith, nat_tests) in
    record { low = omega arith; same = number_on-begin c.args.text.now some c.if-text-gt-MOST_DIGITS.false }

pub overflow_mul-value : goal.overflow_mul-value
overflow_mul-value c =
    let few : c.loop-digit.digit-index < 9 = omega (arith, c.loop-digit-test.true, c.if-text-gt-MOST_DIGITS.false) in
    let fits : c.loop-digit.value < 10 ^ 8 = fits_power c.loop-digit.digit-index c.loop-digit.value c.loop-digit.invariant.low few in
    omega (arith, fits)

pub overflow_add-value : goal.overflow_add-value
overflow_add-value c =
    let few : c.loop-digit.digit-index < 9 = omega (arith, c.loop-digit-test.true, c.if-text-gt-MOST_DIGITS.false) in
    let fits : c.loop-digit.value < 10 ^ 8 = fits_power c.loop-digit.digit-index c.loop-digit.value c.loop-digit.invariant.low few in
    grind (arith, fits)
