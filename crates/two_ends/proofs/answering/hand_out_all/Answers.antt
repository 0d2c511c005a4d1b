use Rattle.std.proofs.Common.{◌≡◌, ◌∙◌, ◌++◌, ◌∷◌, [], List, ℕ, Option, Some, None, ap, refl, subst, sym}
use Rattle.bosh_client.specs.Machine.{hand_out_on}
use Rattle.bosh_client.specs.StandsFor.{Does}
use Rattle.two_ends.proofs.HandingLemmas.{HandsOn, hands_end, hands_more}
use Rattle.two_ends.proofs.answering.hand_out_all.Goals as goal

none : (o : Option (ℕ × List ℕ)) → ((payload : ℕ × List ℕ) → o ≡ Some payload → ⊥) → o ≡ None
none None not_some = refl
none (Some payload) not_some = absurd (not_some payload refl)

pub loop-payload-preserved : goal.loop-payload-preserved
loop-payload-preserved c = λ plain is.
    subst (λ lines. HandsOn c.hand_out_on.new.self lines c.args.seen.now.items plain)
    (sym (c.in_ok-push.ensures.items ∙ ap (λ item. c.loop-payload.seen.items ++ item ∷ []) c.got.ensures))
    (hands_more c.loop-payload.client c.hand_out_on.new.self _ _ plain c.in-Some.payload (c.loop-payload.invariant plain is)
    (λ d at. subst (λ o. Does c.hand_out_on.new.self o (hand_out_on d)) c.in-Some.is (c.hand_out_on.ensures.step d at)))

pub returns : goal.returns
returns c = λ plain is.
    hands_end c.loop-payload.client _ _ _ plain (c.loop-payload.invariant plain is)
    (λ d at. subst (λ o. Does c.hand_out_on.new.self o (hand_out_on d)) (none c.hand_out_on.result c.in_default.not-Some) (c.hand_out_on.ensures.step d at))
