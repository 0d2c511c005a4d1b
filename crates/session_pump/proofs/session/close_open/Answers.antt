use Rattle.session_pump.specs.Turns.{fails_at_it}
use Rattle.session_pump.proofs.TurnLemmas.{wire_closed, wire_not}
use Rattle.session_pump.proofs.session.close_open.Goals as goal

pub returns-in-Done-clause-closes : goal.returns-in-Done-clause-closes
returns-in-Done-clause-closes g c known kept = wire_closed known kept _ _ _ c.requires c.in-Done.ensures.ends

pub returns-in-Failed-clause-closes : goal.returns-in-Failed-clause-closes
returns-in-Failed-clause-closes g c known kept = fails_at_it _ c.requires c.in-Failed.ensures.ends

pub returns-in-NoMemory-clause-closes : goal.returns-in-NoMemory-clause-closes
returns-in-NoMemory-clause-closes g c known kept = wire_not known kept _ _ _ _ c.in-NoMemory.ensures.ends
