use Rattle.session_pump.specs.NumberedTurns.{is_not_live, was_looked_up}
use Rattle.session_pump.proofs.NumberedLemmas.{among, in_vain_so, none_among, some_is}
use Rattle.session_pump.proofs.pump.Pump.serve_unmet.Goals as goal

pub returns-in_err-live-clause-serves : goal.returns-in_err-live-clause-serves
returns-in_err-live-clause-serves g c = in_vain_so _ _ _ c.from_residual.ensures.0 c.requires.not_held c.in_err-live.ensures.err

pub returns-in-Some-clause-serves : goal.returns-in-Some-clause-serves
returns-in-Some-clause-serves g c =
    let found = some_is _ _ _ c.in-Some.is c.session_under.ensures.found in
    was_looked_up _ _ c.requires.not_held c.in_ok-live.ensures.asked (among _ _ _ c.as_slice.ensures found.0) found.1 c.serve.ensures.serves

pub returns-clause-serves : goal.returns-clause-serves
returns-clause-serves g c = is_not_live _ c.requires.not_held c.in_ok-live.ensures.asked (none_among _ _ _ c.as_slice.ensures c.in-None.ensures.none)
