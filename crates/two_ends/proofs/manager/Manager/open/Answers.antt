use Rattle.std.proofs.Common.{[], ◌∷◌, false, subst, sym}
use Rattle.body_writer.specs.Answer.{answer_text}
use Rattle.session_core.specs.Machine.{created_parts}
use Rattle.world_laws.specs.declared.told.Told.TheVariants as tells
use Rattle.world_laws.specs.Manager.{PlainManager, turned}
use Rattle.two_ends.specs.Stands.{IsTurn}
use Rattle.two_ends.proofs.manager.Manager.open.Goals as goal

pub returns : goal.returns
returns c = λ o is rid body.
    let m : PlainManager = record { journal = record { opening = o; entries = [] }; parked = [] } in
    let told = c.in_ok-told.told.items in
    let after = c.turned.new.self in
    subst (λ n. IsTurn told after (turned false m (tells.Answer n (answer_text (created_parts o)) ∷ []))) (sym rid)
    (subst (λ b. IsTurn told after (turned false m (tells.Answer c.args.rid b ∷ []))) body (c.in_ok-told.ensures m (record { journal = is; parked = c.new.ensures.items })))
