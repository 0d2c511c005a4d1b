use Rattle.std.proofs.Common.{arith, subst, drop, ◌+◌}
use Rattle.two_ends.proofs.CollectingLemmas.{CollectsOn, collects_more, collects_end, from_place, none_after}
use Rattle.two_ends.proofs.manager.collect_all.Goals as goal

pub loop-parked-preserved : goal.loop-parked-preserved
loop-parked-preserved c = λ journal is.
    collects_more _ _ _ _ (drop (c.loop-parked.parked-index + 1) c.args.parked.now) _ c.args.parked.now journal c.parked-item.result
    (subst (λ rest. CollectsOn c.loop-parked.session c.loop-parked.told.items c.loop-parked.left.items rest c.args.told.now.items c.args.parked.now journal)
    (from_place c.args.parked.now c.loop-parked.parked-index c.parked-item.result (omega (arith, c.loop-parked-test.true)) c.parked-item.is)
    (c.loop-parked.invariant journal is))
    c.collect-collected.result c.collect-collected.ensures _ _ c.in_ok-tell_fate.ensures.told c.in_ok-tell_fate.ensures.left

pub returns : goal.returns
returns c = λ journal is. collects_end _ _ _ _ _ journal
    (none_after _ _ _ c.loop-parked.parked-index _ c.args.parked.now journal (omega (arith, c.loop-parked-test.false)) (c.loop-parked.invariant journal is))
