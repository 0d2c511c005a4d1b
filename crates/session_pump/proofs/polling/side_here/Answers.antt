use Rattle.std.proofs.Common.{rules}
use Rattle.session_pump.proofs.GivingLemmas.{found_here}
use Rattle.session_pump.proofs.polling.side_here.Goals as goal

pub returns-in-Some-clause-here : goal.returns-in-Some-clause-here
returns-in-Some-clause-here c = found_here c.args.lines.now c.args.number c.args.stream c.args.place c.args.failures c.in-Some.line.now _ (search rules) c.place_here.ensures.within c.place_here.ensures.here
