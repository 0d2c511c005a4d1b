use Rattle.session_pump.proofs.ServingLemmas.{closes_at, closes_not}
use Rattle.session_pump.proofs.serving.close_stream.Goals as goal

pub returns-in-Ok-clause-closes : goal.returns-in-Ok-clause-closes
returns-in-Ok-clause-closes g c = closes_at (g.C.Clock.moment c.args.clock.now) _ _ _ _ _ _ _ c.now-now.ensures c.in-Ok.ensures.called

pub returns-in-Err-clause-closes : goal.returns-in-Err-clause-closes
returns-in-Err-clause-closes g c = closes_not (g.C.Clock.moment c.args.clock.now) _ c.now-now.result c.args.stream c.args.closing _ _ _ c.in-Err.ensures.called
