use Rattle.session_pump.specs.Sides.{stays}
use Rattle.session_pump.proofs.ServingLemmas.{cut_told, cut_untold}
use Rattle.session_pump.proofs.TurnedLemmas.{turned_none}
use Rattle.session_pump.proofs.serving.tell_cut.Goals as goal

pub returns-then-not-is_cut_from-clause-moves : goal.returns-then-not-is_cut_from-clause-moves
returns-then-not-is_cut_from-clause-moves g c kept = turned_none _ _ _ c.requires (λ k. stays)

pub returns-in-Ok-clause-moves : goal.returns-in-Ok-clause-moves
returns-in-Ok-clause-moves g c kept = cut_told kept _ _ _ _ _ (c.is_cut_from.ensures.cut c.if-not-is_cut_from.false) c.in-Ok.ensures.closes

pub returns-in-Err-clause-moves : goal.returns-in-Err-clause-moves
returns-in-Err-clause-moves g c kept = cut_untold kept _ _ _ _ _ _ c.in-Err.ensures.closes
