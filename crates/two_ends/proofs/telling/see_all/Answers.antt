use Rattle.std.proofs.Common.{◌∙◌, arith, subst}
use Rattle.std.proofs.lemmas.Grind.{common_steps}
use Rattle.std.specs.Vec.Iter.{into_iter_items}
use Rattle.two_ends.proofs.TellLemmas.{SeesOn, nothing_left, sees_end, sees_more}
use Rattle.two_ends.proofs.telling.see_all.Goals as goal

pub loop-told-preserved : goal.loop-told-preserved
loop-told-preserved c =
    let rest = into_iter_items c.next.new.self in
    sees_more _ _ _ _ _ _ _ _ rest (c.in_ok-see.ensures.seen rest) (c.in_ok-see.ensures.written rest)
    (subst (λ told. SeesOn c.args.seen.items c.args.written.now.items c.args.told.items c.loop-told.all.items c.loop-told.written.items told) (c.in-Some.ensures.steps).0 c.loop-told.invariant)

pub returns : goal.returns
returns c =
    let none = nothing_left (into_iter_items c.loop-told.told-iterator) (grind (arith, common_steps, (c.in-None.ensures.steps).0)) in
    let all = sees_end _ _ _ _ _ (subst (λ told. SeesOn c.args.seen.items c.args.written.now.items c.args.told.items c.loop-told.all.items c.loop-told.written.items told) none c.loop-told.invariant) in
    (c.from_vec.ensures ∙ all.0, all.1)
