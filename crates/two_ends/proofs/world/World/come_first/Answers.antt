use Rattle.std.proofs.Common.{◌∙◌, sym}
use Rattle.two_ends.proofs.CopyLemmas.{dup_step, first_step}
use Rattle.two_ends.proofs.TurnLemmas.{IfOk-from}
use Rattle.two_ends.proofs.world.World.come_first.Goals as goal

pub returns-then-is_some : goal.returns-then-is_some
returns-then-is_some c = IfOk-from c.only.result _ _ (λ news it w is.
    dup_step c.args.self.now w is c.args.body.now c.args.request.now c.args.creation (sym c.is_some.ensures ∙ c.if-is_some.true) news it) c.only.ensures

pub returns : goal.returns
returns c = IfOk-from c.admit.result _ _ (λ news it w is.
    first_step c.args.self.now w is c.args.body.now c.args.request.now c.args.creation (sym c.is_some.ensures ∙ c.if-is_some.false) news _ (it w is)) c.admit.ensures
