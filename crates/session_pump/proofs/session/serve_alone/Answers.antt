use Rattle.session_pump.proofs.TurnLemmas.{alone_not, alone_on}
use Rattle.session_pump.proofs.session.serve_alone.Goals as goal

pub returns-in_err-tick-clause-serves : goal.returns-in_err-tick-clause-serves
returns-in_err-tick-clause-serves g c = alone_not (g.C.Clock.moment c.args.clock.now) _ _ _ _ _ c.from_residual.ensures.0 c.in_err-tick.ensures.ticks

pub returns-clause-serves : goal.returns-clause-serves
returns-clause-serves g c = alone_on (g.C.Clock.moment c.args.clock.now) _ _ _ _ _ c.in_ok-tick.ensures.ticks c.drop_all.ensures.takes
