use Rattle.std.proofs.Common.{◌∙◌, ◌++◌, ◌∷◌, [], ap, refl}
use Rattle.two_ends.proofs.RestLemmas.{made_step, none_step, spent_step}
use Rattle.two_ends.proofs.TurnLemmas.{IfOk-from}
use Rattle.two_ends.proofs.world.World.send.Goals as goal

pub returns-in-Nothing : goal.returns-in-Nothing
returns-in-Nothing c = IfOk-from c.only.result _ _ (λ news it w is.
    none_step c.args.self.now w is _ c.in_ok-next.next (c.in_ok-next.ensures.step w.client is.rest.client) news c.in-Nothing.is it) c.only.ensures

pub returns-in-RidsSpent : goal.returns-in-RidsSpent
returns-in-RidsSpent c = IfOk-from c.only-in-RidsSpent.result _ _ (λ news it w is.
    spent_step c.args.self.now w is _ c.in_ok-next.next (c.in_ok-next.ensures.step w.client is.rest.client) news c.in-RidsSpent.is it) c.only-in-RidsSpent.ensures

pub returns-in_ok-push-in-Request : goal.returns-in_ok-push-in-Request
returns-in_ok-push-in-Request c = IfOk-from c.only-in-Request.result _ _ (λ news it w is.
    made_step c.args.self.now w is _ c.in_ok-next.next (c.in_ok-next.ensures.step w.client is.rest.client) news c.in-Request.rid c.in-Request.body _ c.in-Request.is
    refl refl refl refl refl refl (c.in_ok-push-in-Request.ensures.items ∙ ap (λ b. c.args.self.now.sent.items ++ b ∷ []) c.in_ok-again-in-Request.ensures) it) c.only-in-Request.ensures
