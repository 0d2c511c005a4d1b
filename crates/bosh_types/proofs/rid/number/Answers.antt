use Rattle.std.proofs.Common.{sym, ◌∙◌, arith, drop, ◌+◌, ◌*◌}
use Rattle.bosh_types.proofs.RidLemmas.{rid_after-begin, rid_after-digit, rid_after-other, rid_after-beyond, rid_after-end}
use Rattle.bosh_types.proofs.rid.number.Goals as goal

pub loop-digit-init : goal.loop-digit-init
loop-digit-init c = record { in_range = omega arith; same = rid_after-begin c.args.text.now c.in-49-to-57.len_at_least (omega arith) }

pub returns-then-not-is_ascii_digit : goal.returns-then-not-is_ascii_digit
returns-then-not-is_ascii_digit c = sym (c.loop-digit.invariant.same ∙ rid_after-other c.loop-digit.value c.loop-digit.digit-index c.args.text.now c.loop-digit-test.true cc)

pub returns-then-value-gt-GREATEST : goal.returns-then-value-gt-GREATEST
returns-then-value-gt-GREATEST c = sym (c.loop-digit.invariant.same ∙ rid_after-digit c.loop-digit.value c.from.result c.loop-digit.digit-index c.args.text.now c.loop-digit-test.true (cc) c.from.ensures ∙ rid_after-beyond (c.loop-digit.value * 10 + c.from.result) (drop (c.loop-digit.digit-index + 1) c.args.text.now) c.if-value-gt-GREATEST.true)

pub loop-digit-preserved : goal.loop-digit-preserved
loop-digit-preserved c = record { in_range = c.if-value-gt-GREATEST.false; same = c.loop-digit.invariant.same ∙ rid_after-digit c.loop-digit.value c.from.result c.loop-digit.digit-index c.args.text.now c.loop-digit-test.true (cc) c.from.ensures }

pub returns : goal.returns
returns c = sym (c.loop-digit.invariant.same ∙ rid_after-end c.loop-digit.value c.loop-digit.digit-index c.args.text.now c.loop-digit-test.false c.loop-digit.invariant.in_range)
