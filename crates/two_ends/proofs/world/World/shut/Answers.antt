use Rattle.std.proofs.Common.{refl, Some}
use Rattle.world_laws.specs.declared.seen.SeenItem.TheVariants as seen
use Rattle.world_laws.specs.declared.seen.Word.TheVariants as words
use Rattle.two_ends.specs.declared.world.World.{World}
use Rattle.two_ends.proofs.EndLemmas.{shut_none, shut_step, only_step}
use Rattle.two_ends.proofs.TellLemmas.{turned_step}
use Rattle.two_ends.proofs.TurnLemmas.{IfOk-from}
use Rattle.two_ends.proofs.world.World.shut.Goals as goal

pub returns-in_ok-refused-in-Some : goal.returns-in_ok-refused-in-Some
returns-in_ok-refused-in-Some c =
    let next : World = record c.args.self.now { manager = Some c.shut.new.self; written = c.see_all.new.written } in
    IfOk-from c.see_all.result _ _ (λ news sees w is.
    shut_step c.args.self.now w c.in-Some.manager c.args.stream c.args.closing c.in_ok-taken-in-Some.taken c.in_ok-taken-in-Some.told.items c.shut.new.self c.in_ok-refused-in-Some.refused.items news next is
    c.in-Some.is c.in_ok-taken-in-Some.ensures c.in_ok-refused-in-Some.ensures
    (λ turn is_turn. turned_step c.args.self.now next w is.rest c.in_ok-taken-in-Some.told.items c.shut.new.self turn is_turn c.in_ok-refused-in-Some.refused.items news sees refl refl refl refl refl refl)) c.see_all.ensures

pub returns-in-None : goal.returns-in-None
returns-in-None c = IfOk-from c.only.result _ _ (λ news it w is.
    shut_none c.args.self.now w c.args.stream c.args.closing news c.args.self.now is c.in-None.is (only_step c.args.self.now w (seen.RefusedOver words.Shut) news is it)) c.only.ensures
