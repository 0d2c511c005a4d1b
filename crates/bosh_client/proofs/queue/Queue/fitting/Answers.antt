use Rattle.std.proofs.Common.{◌≡◌, ◌∙◌, ◌+◌, ap, length, min, take, true, arith}
use Rattle.bosh_types.specs.Limits.{most_children}
use Rattle.bosh_client.specs.Outgoing.{fit_one_body, same_stream, stream_in, stream_of}
use Rattle.bosh_client.proofs.Fronts.{first_stream, fits_is, longest_is, no_longer, stops, together_take}
use Rattle.bosh_client.proofs.queue.Queue.fitting.Goals as goal

pub returns-in_default-clause-longest : goal.returns-in_default-clause-longest
returns-in_default-clause-longest c =
    let items = c.self.inside.items.items in
    let fits : fit_one_body (take c.loop-count.count items) ≡ true = fits_is (take c.loop-count.count items) c.loop-count.invariant.stanzas (omega (arith, c.loop-count.invariant.sum_is, c.loop-count.invariant.small)) (together_take items c.loop-count.count ∙ c.loop-count.invariant.together) in
    let on : stream_of c.index.result.now ≡ stream_in items = first_stream items c.index.result.now (omega arith) c.index.ensures in
    rw (← c.self.view_is)
    (longest_is (min most_children (length items)) c.loop-count.count items (omega arith) fits
    (λ m above within. no_longer items (c.loop-count.count + 1) m (omega arith)
    (stops items c.loop-count.count c.loop-count.bytes c.index-in-loop-count.result.now (omega arith) c.index-in-loop-count.ensures c.loop-count.invariant.sum_is
    (λ fits. c.in_default.ensures (fits.0, ap (λ o. same_stream o (stream_of c.index-in-loop-count.result.now)) on ∙ fits.1, fits.2)))))

pub returns-clause-longest : goal.returns-clause-longest
returns-clause-longest c =
    let items = c.self.inside.items.items in
    let all : c.min-most.result ≡ c.loop-count.count = omega arith in
    let most : c.min-most.result ≡ min most_children (length items) = omega arith in
    let fits : fit_one_body (take c.loop-count.count items) ≡ true = fits_is (take c.loop-count.count items) c.loop-count.invariant.stanzas (omega (arith, c.loop-count.invariant.sum_is, c.loop-count.invariant.small)) (together_take items c.loop-count.count ∙ c.loop-count.invariant.together) in
    rw (← c.self.view_is)
    (longest_is (min most_children (length items)) c.min-most.result items (omega arith) (rw all fits) (λ m above within. absurd (omega arith)))
