use Rattle.std.proofs.Common.{refl, Some, subst}
use Rattle.world_laws.specs.declared.seen.SeenItem.TheVariants as seen
use Rattle.world_laws.specs.declared.seen.Word.TheVariants as words
use Rattle.world_laws.specs.Steps.{gives_to}
use Rattle.two_ends.specs.Worlds.{IsPlainStep}
use Rattle.two_ends.specs.declared.world.World.{World}
use Rattle.two_ends.proofs.EndLemmas.{give_none, give_step, only_step}
use Rattle.two_ends.proofs.TellLemmas.{turned_step}
use Rattle.two_ends.proofs.TurnLemmas.{IfOk-from}
use Rattle.two_ends.proofs.world.World.give.Goals as goal

pub returns-in_ok-refused-in-Some : goal.returns-in_ok-refused-in-Some
returns-in_ok-refused-in-Some c =
    let next : World = record c.args.self.now { manager = Some c.give.new.self; written = c.see_all.new.written } in
    IfOk-from c.see_all.result _ _ (λ news sees w is.
    subst (λ s. IsPlainStep news next (gives_to w c.args.stream s w.manager)) c.in_ok-stanza-in-Some.ensures
    (give_step c.args.self.now w c.in-Some.manager c.args.stream c.in_ok-stanza-in-Some.stanza c.in_ok-taken-in-Some.taken c.in_ok-taken-in-Some.told.items c.give.new.self c.in_ok-refused-in-Some.refused.items news next is
    c.in-Some.is c.in_ok-taken-in-Some.ensures c.in_ok-refused-in-Some.ensures
    (λ turn is_turn. turned_step c.args.self.now next w is.rest c.in_ok-taken-in-Some.told.items c.give.new.self turn is_turn c.in_ok-refused-in-Some.refused.items news sees refl refl refl refl refl refl))) c.see_all.ensures

pub returns-in-None : goal.returns-in-None
returns-in-None c = IfOk-from c.only.result _ _ (λ news it w is.
    give_none c.args.self.now w c.args.stream c.args.stanza news c.args.self.now is c.in-None.is (only_step c.args.self.now w (seen.RefusedOver words.Give) news is it)) c.only.ensures
