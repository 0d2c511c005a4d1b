use Rattle.std.proofs.Common.{◌<◌, ◌≤◌, ◌+◌, ◌*◌, ◌^◌, take, sym, ◌∙◌, ap, subst, arith}
use Rattle.std.proofs.lemmas.Int.Digits.{digits_value_more}
use Rattle.std.specs.Str.Parse.{digits_value}
use Rattle.bosh_http.proofs.WordLemmas.{digit_at, below_power, fits_power}
use Rattle.bosh_http.proofs.fields.number_of.Goals as goal

pub overflow_mul-number : goal.overflow_mul-number
overflow_mul-number c =
    let at = digit_at c.args.digits.now c.loop-digit.digit-index c.requires c.loop-digit-test.true in
    let fits : c.loop-digit.number < 10 ^ 17 = fits_power c.loop-digit.digit-index c.loop-digit.number c.loop-digit.invariant.small at.0 in
    omega (arith, fits)

pub overflow_add-number : goal.overflow_add-number
overflow_add-number c =
    let at = digit_at c.args.digits.now c.loop-digit.digit-index c.requires c.loop-digit-test.true in
    let fits : c.loop-digit.number < 10 ^ 17 = fits_power c.loop-digit.digit-index c.loop-digit.number c.loop-digit.invariant.small at.0 in
    let single : c.from.result ≤ 9 = subst (λ d. d ≤ 9) (sym c.from.ensures) at.2 in
    omega (arith, fits, single)

pub loop-digit-preserved : goal.loop-digit-preserved
loop-digit-preserved c =
    let digits = c.args.digits.now in
    let i = c.loop-digit.digit-index in
    let at = digit_at digits i c.requires c.loop-digit-test.true in
    let single : c.from.result ≤ 9 = subst (λ d. d ≤ 9) (sym c.from.ensures) at.2 in
    record {
      value = ap (λ n. n * 10 + c.from.result) c.loop-digit.invariant.value ∙ ap (λ d. digits_value 10 (take i digits) * 10 + d) (c.from.ensures ∙ sym at.1) ∙ sym (digits_value_more 10 digits i c.loop-digit-test.true);
      small = below_power i c.loop-digit.number c.from.result c.loop-digit.invariant.small single;
    }
