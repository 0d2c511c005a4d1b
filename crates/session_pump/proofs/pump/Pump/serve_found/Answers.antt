use Rattle.session_pump.specs.Pumping.{went_on}
use Rattle.session_pump.proofs.TurnLemmas.{then_not}
use Rattle.session_pump.proofs.pump.Pump.serve_found.Goals as goal

pub returns-in_err-meet-clause-serves : goal.returns-in_err-meet-clause-serves
returns-in_err-meet-clause-serves g c = then_not _ _ c.from_residual.ensures.0 c.in_err-meet.ensures.meets

pub returns-clause-serves : goal.returns-clause-serves
returns-clause-serves g c = went_on c.in_ok-meet.ensures.meets c.serve_met.ensures.serves
