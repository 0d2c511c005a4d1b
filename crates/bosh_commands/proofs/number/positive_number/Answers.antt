use Rattle.std.proofs.Common.{◌∙◌, ◌+◌, ◌*◌, ◌-◌, ℕ, arith, drop, refl, slice_index, sym}
use Rattle.bosh_commands.proofs.NumberLemmas.{value_after-beyond, value_after-digit, value_after-end}
use Rattle.bosh_commands.proofs.number.positive_number.Goals as goal

pub returns-in_err-tens : goal.returns-in_err-tens
returns-in_err-tens c =
    let text = c.args.text.now in
    let digit : ℕ = slice_index text c.loop-digit.digit-index - 48 in
    c.from_residual.ensures
    ∙ sym (c.loop-digit.invariant.same ∙ value_after-digit c.loop-digit.value digit c.loop-digit.digit-index text c.loop-digit-test.true (cc) refl
    ∙ value_after-beyond (c.loop-digit.value * 10 + digit) (drop (c.loop-digit.digit-index + 1) text) (omega (arith, c.in_err-tens.ensures)))

pub returns-in_err-value : goal.returns-in_err-value
returns-in_err-value c =
    let text = c.args.text.now in
    let digit : ℕ = slice_index text c.loop-digit.digit-index - 48 in
    c.from_residual-in_err-value.ensures
    ∙ sym (c.loop-digit.invariant.same ∙ value_after-digit c.loop-digit.value digit c.loop-digit.digit-index text c.loop-digit-test.true (cc) refl
    ∙ value_after-beyond (c.loop-digit.value * 10 + digit) (drop (c.loop-digit.digit-index + 1) text)
    (omega (arith, c.in_err-value.ensures, c.in_ok-tens.ensures, c.from.ensures)))

pub returns : goal.returns
returns c =
    sym (c.loop-digit.invariant.same ∙ value_after-end c.loop-digit.value c.loop-digit.digit-index c.args.text.now c.loop-digit-test.false c.loop-digit.invariant.fits)
