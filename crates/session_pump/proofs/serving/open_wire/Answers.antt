use Rattle.session_pump.specs.Sides.{stays}
use Rattle.session_pump.proofs.MovesLemmas.{did_nothing, failed_to_open, opened_on}
use Rattle.session_pump.proofs.serving.open_wire.Goals as goal

pub returns-then-not-is_unopened-clause-moves : goal.returns-then-not-is_unopened-clause-moves
returns-then-not-is_unopened-clause-moves g c moment known kept = stays

pub returns-in-Done-clause-moves : goal.returns-in-Done-clause-moves
returns-in-Done-clause-moves g c moment known kept = opened_on kept _ _ _ (c.is_unopened.ensures.unopened c.if-not-is_unopened.false) c.in-Done.ensures.ends

pub returns-in-Failed-clause-moves : goal.returns-in-Failed-clause-moves
returns-in-Failed-clause-moves g c moment known kept = failed_to_open kept _ _ _ (c.is_unopened.ensures.unopened c.if-not-is_unopened.false) c.in-Failed.ensures.ends

pub returns-in-NoMemory-clause-moves : goal.returns-in-NoMemory-clause-moves
returns-in-NoMemory-clause-moves g c moment known kept = did_nothing kept _ _ _ c.in-NoMemory.ensures.ends
