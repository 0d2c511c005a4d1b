use Rattle.std.proofs.Common.{Some}
use Rattle.bosh_types.specs.declared.inward.Inward.TheVariants as inward
use Rattle.session_pump.proofs.MovesLemmas.{closed_so, did_nothing, failed_to_close}
use Rattle.session_pump.proofs.passing.close_wire.Goals as goal

pub returns-in-Done-clause-moves : goal.returns-in-Done-clause-moves
returns-in-Done-clause-moves g c moment known = closed_so _ _ _ c.requires c.in-Done.ensures.ends

pub returns-in-Failed-clause-moves : goal.returns-in-Failed-clause-moves
returns-in-Failed-clause-moves g c moment known = failed_to_close _ _ _ c.requires c.in-Failed.ensures.ends

pub returns-in-NoMemory-clause-moves : goal.returns-in-NoMemory-clause-moves
returns-in-NoMemory-clause-moves g c moment known = did_nothing (Some (inward.Close c.args.side.now.stream)) _ _ _ c.in-NoMemory.ensures.ends
