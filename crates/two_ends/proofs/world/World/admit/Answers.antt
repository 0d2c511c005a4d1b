use Rattle.std.proofs.Common.{◌∙◌, subst, sym}
use Rattle.world_laws.specs.Steps.{admits}
use Rattle.two_ends.specs.Worlds.{IsPlainStep}
use Rattle.two_ends.proofs.CopyLemmas.{admitted_as}
use Rattle.two_ends.proofs.TurnLemmas.{IfOk-from}
use Rattle.two_ends.proofs.world.World.admit.Goals as goal

pub returns-in-Host : goal.returns-in-Host
returns-in-Host c = IfOk-from c.create.result _ _ (λ news it w is.
    subst (λ a. IsPlainStep news c.create.new.self (admits w c.args.body.now c.args.request.now c.args.creation a))
    (sym c.in-Host.is ∙ c.in_ok-admitted.ensures ∙ admitted_as c.args.self.now w is c.args.request.now.to) (it w is)) c.create.ensures

pub returns-in-Improper : goal.returns-in-Improper
returns-in-Improper c = IfOk-from c.refuse.result _ _ (λ news it w is.
    subst (λ a. IsPlainStep news c.refuse.new.self (admits w c.args.body.now c.args.request.now c.args.creation a))
    (sym c.in-Improper.is ∙ c.in_ok-admitted.ensures ∙ admitted_as c.args.self.now w is c.args.request.now.to) (it w is)) c.refuse.ensures

pub returns-in-Unknown : goal.returns-in-Unknown
returns-in-Unknown c = IfOk-from c.refuse-in-Unknown.result _ _ (λ news it w is.
    subst (λ a. IsPlainStep news c.refuse-in-Unknown.new.self (admits w c.args.body.now c.args.request.now c.args.creation a))
    (sym c.in-Unknown.is ∙ c.in_ok-admitted.ensures ∙ admitted_as c.args.self.now w is c.args.request.now.to) (it w is)) c.refuse-in-Unknown.ensures
