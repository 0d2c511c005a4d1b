use Rattle.std.proofs.Common.{◌≡◌, ◌∙◌, Option, Some, None, refl, subst, sym}
use Rattle.bosh_types.specs.declared.inward.Inward.{Inward}
use Rattle.script_text.proofs.TakingLemmas.{TakesOn, takes_more, takes_end}
use Rattle.script_text.proofs.live.take_all.Goals as goal

none : (o : Option Inward) → ((item : Inward) → o ≡ Some item → ⊥) → None ≡ o
none None not_some = refl
none (Some item) not_some = absurd (not_some item refl)

pub loop-item-preserved : goal.loop-item-preserved
loop-item-preserved c = λ journal is.
    subst (λ lines. TakesOn c.args.number c.take_inward.new.session lines c.args.lines.now.items journal) (sym c.in_ok-push.ensures.items)
    (takes_more _ c.loop-item.session _ _ _ journal c.in-Some.item (c.loop-item.invariant journal is)
    (λ j at. (sym c.in-Some.is ∙ (c.in_ok-item.ensures.reply j at).0, (c.in_ok-item.ensures.reply j at).1)))

pub returns : goal.returns
returns c = λ journal is.
    takes_end _ c.loop-item.session _ _ _ journal (c.loop-item.invariant journal is)
    (λ j at. (none c.in_ok-item.field-0 c.in_default.not-Some ∙ (c.in_ok-item.ensures.reply j at).0, (c.in_ok-item.ensures.reply j at).1))
