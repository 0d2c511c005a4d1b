use Rattle.std.proofs.Common.{◌≡◌, ◌+◌, true, take, min, length, ap, sym, ◌∙◌, arith}
use Rattle.bosh_types.specs.Limits.{most_waiting}
use Rattle.session_core.specs.Answers.{fit_one_answer}
use Rattle.session_core.proofs.Fronts.{fits_is, longest_is, no_longer, one_front, stops}
use Rattle.session_core.proofs.outbox.longest_of.Goals as goal

pub returns-in_default-clause-longest : goal.returns-in_default-clause-longest
returns-in_default-clause-longest c = λ first.
    let items = c.args.items.now in
    let fits : fit_one_answer (take c.loop-count.count items) ≡ true =
    fits_is (take c.loop-count.count items) c.loop-count.invariant.stanzas (one_front items c.loop-count.count c.args.stream first c.loop-count.invariant.one)
    (omega (arith, c.loop-count.invariant.sum_is, c.loop-count.invariant.small)) in
    longest_is (min most_waiting (length items)) c.loop-count.count items (omega arith) fits
    (λ m above within. no_longer items (c.loop-count.count + 1) m (omega arith)
    (stops items c.loop-count.count c.loop-count.bytes c.args.stream c.index-items-count.result first (omega arith) c.index-items-count.is c.loop-count.invariant.sum_is c.in_default.ensures))

pub returns-clause-longest : goal.returns-clause-longest
returns-clause-longest c = λ first.
    let items = c.args.items.now in
    let whole : c.loop-count.count ≡ c.min-most.result = omega (arith) in
    let fits : fit_one_answer (take c.loop-count.count items) ≡ true =
    fits_is (take c.loop-count.count items) c.loop-count.invariant.stanzas (one_front items c.loop-count.count c.args.stream first c.loop-count.invariant.one)
    (omega (arith, c.loop-count.invariant.sum_is, c.loop-count.invariant.small)) in
    ap (λ n. take n items) (sym whole)
    ∙ longest_is (min most_waiting (length items)) c.loop-count.count items (omega (arith, whole, c.min-most.ensures)) fits
    (λ m above within. absurd (omega (arith, above, within, whole, c.min-most.ensures)))
