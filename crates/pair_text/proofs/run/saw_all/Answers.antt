use Rattle.std.proofs.Common.{◌≡◌, ◌++◌, ◌∷◌, [], ◌∙◌, ℕ, List, length, map, ap, sym, refl, arith, append_assoc, append-nil}
use Rattle.std.proofs.lemmas.Grind.{common_steps}
use Rattle.std.specs.Vec.Iter.{into_iter_items}
use Rattle.world_laws.specs.declared.seen.SeenItem.{SeenItem}
use Rattle.pair_text.specs.declared.report.PairReport.TheVariants.{Saw}
use Rattle.pair_text.proofs.run.saw_all.Goals as goal

none_left : (items : List SeenItem) → length items ≡ 0 → items ≡ []
none_left [] is = refl
none_left (item ∷ items) is = absurd (cc)

pub loop-item-preserved : goal.loop-item-preserved
loop-item-preserved c =
    let rest = into_iter_items c.next.new.self in
    c.loop-item.invariant
    ∙ ap (λ items. c.loop-item.lines.items ++ map Saw items) (c.in-Some.ensures.steps).0
    ∙ sym (append_assoc c.loop-item.lines.items (Saw c.in-Some.item ∷ []) (map Saw rest))
    ∙ ap (λ lines. lines ++ map Saw rest) (sym c.in_ok-push.ensures.items)

pub returns : goal.returns
returns c =
    let none = none_left (into_iter_items c.loop-item.item-iterator) (grind (arith, common_steps, (c.in-None.ensures.steps).0)) in
    sym (c.loop-item.invariant ∙ ap (λ items. c.loop-item.lines.items ++ map Saw items) none ∙ append-nil c.loop-item.lines.items)
