use Rattle.std.proofs.Common.{◌∙◌, ap, subst, sym}
use Rattle.session_journal.specs.Entries.{request_in}
use Rattle.world_laws.specs.Steps.{carried}
use Rattle.two_ends.specs.Worlds.{IsPlainStep}
use Rattle.two_ends.proofs.TurnLemmas.{IfOk-from}
use Rattle.two_ends.proofs.world.World.carried.Goals as goal

pub returns-in-Some : goal.returns-in-Some
returns-in-Some c = IfOk-from c.come.result _ _ (λ news it w is.
    subst (λ o. IsPlainStep news c.come.new.self (carried w c.args.rid c.args.body o)) (sym c.in-Some.is ∙ c.in_ok-request.ensures ∙ ap request_in c.as_slice.ensures) (it w is)) c.come.ensures

pub returns-in-None : goal.returns-in-None
returns-in-None c = IfOk-from c.refuse.result _ _ (λ news it w is.
    subst (λ o. IsPlainStep news c.refuse.new.self (carried w c.args.rid c.args.body o)) (sym c.in-None.is ∙ c.in_ok-request.ensures ∙ ap request_in c.as_slice.ensures) (it w is)) c.refuse.ensures
