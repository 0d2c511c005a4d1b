use Rattle.std.proofs.Common.{◌∙◌, ap}
use Rattle.session_pump.specs.Pumping.{both}
use Rattle.session_pump.specs.Turns.{turned}
use Rattle.session_pump.proofs.TurnLemmas.{all_places, counted_so, not_asked_so}
use Rattle.session_pump.proofs.pump.Pump.turn.Goals as goal

pub returns-in_err-live-clause-turns : goal.returns-in_err-live-clause-turns
returns-in_err-live-clause-turns g c = not_asked_so _ _ _ c.from_residual.ensures.0 c.in_err-live.ensures.err

pub returns-clause-turns : goal.returns-clause-turns
returns-clause-turns g c =
    turned _ c.in_ok-live.ensures.asked c.serve_all-served.ensures.each (all_places _ _ c.poll_all-polled.ensures.each) c.tell_all-told.ensures.each
    (counted_so _ _ _ _ (c.both-done.ensures ∙ ap (both _) c.both-after.ensures) c.count.ensures.counts)
