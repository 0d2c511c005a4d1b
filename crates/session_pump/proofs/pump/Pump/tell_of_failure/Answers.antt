use Rattle.std.proofs.Common.{rules}
use Rattle.session_pump.specs.Turns.{not_held, told_where_cut}
use Rattle.session_pump.proofs.pump.Pump.tell_of_failure.Goals as goal

pub returns-then-is_none-clause-tells : goal.returns-then-is_none-clause-tells
returns-then-is_none-clause-tells g c = not_held (search rules)

pub returns-clause-tells : goal.returns-clause-tells
returns-clause-tells g c = told_where_cut c.tell_held.ensures.tells
