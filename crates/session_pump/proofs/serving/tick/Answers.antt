use Rattle.session_pump.proofs.ServingLemmas.{ticks_at, ticks_not}
use Rattle.session_pump.proofs.serving.tick.Goals as goal

pub returns-in-Ok-clause-ticks : goal.returns-in-Ok-clause-ticks
returns-in-Ok-clause-ticks g c = ticks_at (g.C.Clock.moment c.args.clock.now) _ _ _ _ _ c.now-now.ensures c.in-Ok.ensures.called

pub returns-in-Err-clause-ticks : goal.returns-in-Err-clause-ticks
returns-in-Err-clause-ticks g c = ticks_not (g.C.Clock.moment c.args.clock.now) _ c.now-now.result _ _ _ c.in-Err.ensures.called
