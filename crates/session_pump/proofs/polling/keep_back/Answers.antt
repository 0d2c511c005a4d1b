use Rattle.std.proofs.Common.{ap, refl, rules, sym, ◌∙◌}
use Rattle.session_pump.specs.Giving.{none}
use Rattle.session_pump.specs.Sides.{line_facts, with_side}
use Rattle.session_pump.proofs.GivingLemmas.{held_back_by, here_so}
use Rattle.session_pump.proofs.ListLemmas.{got_read}
use Rattle.session_pump.proofs.TurnLemmas.{line_turns}
use Rattle.session_pump.proofs.polling.keep_back.Goals as goal

pub returns-in_default-clause-moves : goal.returns-in_default-clause-moves
returns-in_default-clause-moves g c moment sessions = none

pub returns-clause-moves : goal.returns-clause-moves
returns-clause-moves g c moment sessions =
    let there = got_read c.in-Some-get_mut.line.now.sides.items c.in-Some-get_mut.line.now.sides.items c.in-Some.at c.in-Some-get_mut-2.side.now refl (search rules) (search rules) in
    held_back_by _ _ _ _ c.in-Some-take.owing _ _ _ _ _ c.in-Some-get_mut.line.now _ _ c.in-Some-get_mut-2.side.now c.requires.kept (sym c.take.ensures.value ∙ c.in-Some-take.is)
    (sym c.in-Some-get_mut.ensures.value) there (here_so _ c.args.lines.now c.args.number _ _ _ _ _ c.in-Some.ensures.here (sym c.in-Some-get_mut.ensures.value) there) c.requires.first
    (line_turns _ _ _ _ _ (sym c.in-Some-get_mut.ensures.value) (c.get_mut.follows.holds _))
    (ap (λ side. with_side c.in-Some.at side (line_facts c.in-Some-get_mut.line.now)) c.keep_on.ensures)
    c.hold.ensures.ends (c.hold.ensures.kept ∙ c.take.ensures.after)
