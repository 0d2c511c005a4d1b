use Rattle.std.proofs.Common.{◌∙◌, subst, sym}
use Rattle.world_laws.specs.Steps.{comes}
use Rattle.two_ends.specs.Worlds.{IsPlainStep}
use Rattle.two_ends.proofs.CopyLemmas.{creation_is, later_is}
use Rattle.two_ends.proofs.TurnLemmas.{IfOk-from}
use Rattle.two_ends.proofs.world.World.come.Goals as goal

pub come_first-requires-clause-kind : goal.come_first-requires-clause-kind
come_first-requires-clause-kind c = creation_is c.args.request.kind c.in-Some.creation (sym c.creation_in.ensures ∙ c.in-Some.is)

pub come_later-requires-clause-kind : goal.come_later-requires-clause-kind
come_later-requires-clause-kind c = later_is c.args.request.kind (sym c.creation_in.ensures ∙ c.in-None.is)

pub returns-in-Some : goal.returns-in-Some
returns-in-Some c = IfOk-from c.come_first.result _ _ (λ news it w is.
    subst (λ k. IsPlainStep news c.come_first.new.self (comes w c.args.body c.args.request k w.manager)) (sym (creation_is c.args.request.kind c.in-Some.creation (sym c.creation_in.ensures ∙ c.in-Some.is))) (it w is)) c.come_first.ensures
