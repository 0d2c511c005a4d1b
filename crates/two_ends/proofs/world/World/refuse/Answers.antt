use Rattle.std.proofs.Common.{◌∙◌, ◌∷◌, ◌++◌, [], ap, refl}
use Rattle.world_laws.specs.declared.told.Told.TheVariants as tells
use Rattle.two_ends.specs.declared.world.World.{World}
use Rattle.two_ends.proofs.TellLemmas.{refused_step}
use Rattle.two_ends.proofs.TurnLemmas.{IfOk-from}
use Rattle.two_ends.proofs.world.World.refuse.Goals as goal

pub returns : goal.returns
returns c =
    let next : World = record c.args.self.now { written = c.see_all.new.written } in
    IfOk-from c.see_all.result _ _ (λ news sees w is.
    refused_step c.args.self.now next w is c.args.rid c.args.condition _
    (c.in_ok-push.ensures.items ∙ ap (λ l. l ++ tells.Answer c.args.rid c.in_ok-body.body ∷ []) c.new-told.ensures.items ∙ ap (λ b. tells.Answer c.args.rid b ∷ []) c.in_ok-body.ensures)
    c.new.result.items news c.new.ensures.items sees refl refl refl refl refl refl) c.see_all.ensures
