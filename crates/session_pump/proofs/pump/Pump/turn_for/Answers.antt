use Rattle.std.proofs.Common.{refl}
use Rattle.session_pump.proofs.NumberedLemmas.{not_begun_so, turned_so}
use Rattle.session_pump.proofs.TurnLemmas.{all_places}
use Rattle.session_pump.proofs.pump.Pump.turn_for.Goals as goal

pub returns-in_err-before-clause-turns : goal.returns-in_err-before-clause-turns
returns-in_err-before-clause-turns g c = not_begun_so _ _ c.from_residual.ensures.0

pub returns-clause-turns : goal.returns-clause-turns
returns-clause-turns g c =
    turned_so _ _ _ _ _ _ _ refl c.as_slice.ensures.value c.in_ok-before.ensures c.both-after.ensures c.both.ensures
    c.serve_numbers-served.ensures.each (all_places _ _ c.poll_all-polled.ensures.each) c.tell_failures-told.ensures.tells
