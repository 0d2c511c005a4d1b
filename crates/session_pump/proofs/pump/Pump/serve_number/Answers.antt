use Rattle.session_pump.specs.NumberedTurns.{has_no_copy, was_held}
use Rattle.session_pump.proofs.NumberedLemmas.{holds_copy, if_none, is_held, some_is}
use Rattle.session_pump.proofs.pump.Pump.serve_number.Goals as goal

pub serve_unmet-requires-clause-not_held : goal.serve_unmet-requires-clause-not_held
serve_unmet-requires-clause-not_held g c = if_none _ c.in-None.is c.sid_of.ensures.not_held

pub serve_found-requires-clause-held : goal.serve_found-requires-clause-held
serve_found-requires-clause-held g c = is_held _ _ _ (some_is _ _ _ c.in-Some.is c.sid_of.ensures.held)

pub returns-in_default-clause-serves : goal.returns-in_default-clause-serves
returns-in_default-clause-serves g c = has_no_copy _

pub returns-in-Ok-clause-serves : goal.returns-in-Ok-clause-serves
returns-in-Ok-clause-serves g c =
    was_held _ (holds_copy _ _ _ _ c.in-Ok.ensures (some_is _ _ _ c.in-Some.is c.sid_of.ensures.held)) c.serve_found.ensures.serves
