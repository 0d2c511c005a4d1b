use Rattle.std.proofs.Common.{Some, rules}
use Rattle.session_pump.specs.Ends.{ends_of}
use Rattle.session_pump.specs.Sides.{StrandMoves, kept_after, strand}
use Rattle.session_pump.proofs.MovesLemmas.{did_nothing, failed_at, let_go, passed_on}
use Rattle.session_pump.proofs.PassingLemmas.{closing_so, for_it}
use Rattle.session_pump.proofs.passing.pass_on.Goals as goal

pub returns-then-not-is_open_on-clause-moves : goal.returns-then-not-is_open_on-clause-moves
returns-then-not-is_open_on-clause-moves g c moment known = let_go _ _ _ c.requires.stream c.requires.passes c.requires.opened (c.is_open_on.ensures.closed (search rules))

pub returns-then-is_closing-clause-moves : goal.returns-then-is_closing-clause-moves
returns-then-is_closing-clause-moves g c moment known =
    closing_so (λ item. StrandMoves moment
    (strand known (Some item) c.args.side.now (ends_of g.E.Backend.told g.E.Backend.counts c.args.stand.now))
    (strand known (kept_after c.close_wire.result item) c.close_wire.new.side (ends_of g.E.Backend.told g.E.Backend.counts c.close_wire.new.stand)))
    _ _ (c.is_closing.ensures.closing c.if-is_closing.true) c.requires.stream (c.close_wire.ensures.moves moment known)

pub close_wire-requires : goal.close_wire-requires
close_wire-requires g c = c.is_open_on.ensures.open c.if-not-is_open_on.false

pub returns-in-Done-clause-moves : goal.returns-in-Done-clause-moves
returns-in-Done-clause-moves g c moment known =
    passed_on _ _ _ _ (c.is_open_on.ensures.open c.if-not-is_open_on.false)
    (for_it _ _ c.requires.stream (c.is_closing.ensures.passing c.if-is_closing.false c.requires.passes)) c.in-Done.ensures.ends

pub returns-in-Failed-clause-moves : goal.returns-in-Failed-clause-moves
returns-in-Failed-clause-moves g c moment known =
    failed_at _ _ _ _ (c.is_open_on.ensures.open c.if-not-is_open_on.false)
    (for_it _ _ c.requires.stream (c.is_closing.ensures.passing c.if-is_closing.false c.requires.passes)) c.in-Failed.ensures.ends

pub returns-in-NoMemory-clause-moves : goal.returns-in-NoMemory-clause-moves
returns-in-NoMemory-clause-moves g c moment known = did_nothing (Some c.args.item.now) _ _ _ c.in-NoMemory.ensures.ends
