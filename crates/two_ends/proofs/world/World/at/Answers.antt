use Rattle.std.proofs.Common.{refl, Some}
use Rattle.two_ends.specs.declared.world.World.{World}
use Rattle.two_ends.proofs.EndLemmas.{at_none, at_step, rest_at}
use Rattle.two_ends.proofs.TellLemmas.{turned_step}
use Rattle.two_ends.proofs.TurnLemmas.{IfOk-from}
use Rattle.world_laws.specs.Steps.{at}
use Rattle.two_ends.proofs.world.World.at.Goals as goal

pub returns-in_ok-told-in-Some : goal.returns-in_ok-told-in-Some
returns-in_ok-told-in-Some c =
    let later : World = record c.args.self.now { moment = c.later-self.result } in
    let next : World = record later { manager = Some c.pass.new.self; written = c.see_all.new.written } in
    IfOk-from c.see_all.result _ _ (λ news sees w is.
    at_step c.args.self.now w c.in-Some.manager c.args.moment c.later-self.result c.in_ok-told-in-Some.told.items c.pass.new.self c.new.result.items news next is
    c.in-Some.is c.later-self.ensures c.in_ok-told-in-Some.ensures c.new.ensures.items
    (λ turn is_turn. turned_step later next (at w c.args.moment) (rest_at c.args.self.now w c.args.moment c.later-self.result c.later-self.ensures is.rest)
    c.in_ok-told-in-Some.told.items c.pass.new.self turn is_turn c.new.result.items news sees refl refl refl refl refl refl)) c.see_all.ensures

pub returns-in-None : goal.returns-in-None
returns-in-None c = λ w is. at_none c.args.self.now w c.args.moment c.later-self.result c.nothing.result is c.in-None.is c.later-self.ensures c.nothing.ensures
