use Rattle.session_pump.specs.Turns.{shuts_all}
use Rattle.session_pump.proofs.TurnLemmas.{shut_nobody_so}
use Rattle.session_pump.proofs.pump.Pump.shut_down.Goals as goal

pub returns-in_err-live-clause-shuts_down : goal.returns-in_err-live-clause-shuts_down
returns-in_err-live-clause-shuts_down g c = shut_nobody_so _ _ _ c.from_residual.ensures.0 c.in_err-live.ensures.err

pub returns-clause-shuts_down : goal.returns-clause-shuts_down
returns-clause-shuts_down g c = shuts_all _ c.in_ok-live.ensures.asked c.shut_all.ensures.each
