use Rattle.std.proofs.Common.{refl, Some}
use Rattle.world_laws.proofs.RequestLemmas.{given_read}
use Rattle.two_ends.specs.declared.world.World.{World}
use Rattle.two_ends.proofs.CopyLemmas.{arrive_step, lost_step}
use Rattle.two_ends.proofs.TellLemmas.{turned_step}
use Rattle.two_ends.proofs.TurnLemmas.{IfOk-from}
use Rattle.two_ends.proofs.world.World.come_later.Goals as goal

pub arrive-requires : goal.arrive-requires
arrive-requires c = (given_read c.args.body c.args.request c.requires.read, c.requires.kind)

pub returns-in_ok-told-in-Some : goal.returns-in_ok-told-in-Some
returns-in_ok-told-in-Some c =
    let next : World = record c.args.self.now { manager = Some c.arrive.new.self; written = c.see_all.new.written } in
    IfOk-from c.see_all.result _ _ (λ news sees w is.
    arrive_step c.args.self.now w is c.in-Some.manager c.args.body c.requires.kind.0 c.args.request c.requires.kind.1 c.in-Some.is
    c.in_ok-told-in-Some.told.items c.arrive.new.self c.in_ok-told-in-Some.ensures c.new.result.items c.new.ensures.items news next
    (λ turn is_turn. turned_step c.args.self.now next w is.rest c.in_ok-told-in-Some.told.items c.arrive.new.self turn is_turn c.new.result.items news sees refl refl refl refl refl refl)) c.see_all.ensures

pub returns-in-None : goal.returns-in-None
returns-in-None c = λ w is.
    lost_step c.args.self.now w is c.args.body c.requires.kind.0 c.args.request c.requires.kind.1 c.in-None.is c.nothing.result c.nothing.ensures
