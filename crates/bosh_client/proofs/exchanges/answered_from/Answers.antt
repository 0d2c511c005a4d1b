use Rattle.std.proofs.Common.{◌∙◌, sym, arith}
use Rattle.bosh_client.proofs.PlacesLemmas.{answer_goes_on, answered_within, open_ends}
use Rattle.bosh_client.proofs.exchanges.answered_from.Goals as goal

pub returns-then-is_open : goal.returns-then-is_open
returns-then-is_open c = λ known.
    let ends = open_ends c.args.slots.now.items c.loop-place.place c.index.result.now (omega arith) c.index.ensures (sym c.is_open.ensures ∙ c.if-is_open.true) in
    omega (arith, ends, c.loop-place.invariant known)

pub loop-place-preserved : goal.loop-place-preserved
loop-place-preserved c = λ known.
    answer_goes_on c.args.slots.now.items c.loop-place.place c.index.result.now (omega arith) (c.loop-place.invariant known) c.index.ensures (sym c.is_open.ensures ∙ c.if-is_open.false)

pub returns : goal.returns
returns c = λ known. omega (arith, c.loop-place.invariant known, answered_within c.args.slots.now.items)
