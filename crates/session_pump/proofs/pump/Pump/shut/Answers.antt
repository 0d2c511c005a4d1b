use Rattle.std.proofs.Common.{refl}
use Rattle.session_pump.specs.Turns.{shut, shut_before, shut_not}
use Rattle.session_pump.proofs.TurnLemmas.{asks_missing, directory_asked, found_held, found_named, is_found}
use Rattle.session_pump.proofs.pump.Pump.shut.Goals as goal

pub shut_found-requires : goal.shut_found-requires
shut_found-requires g c = found_held _ _ _ _ (is_found _ _ _ c.in-Some.is c.in-Ok.ensures.found)

pub returns-in-Some-clause-shuts : goal.returns-in-Some-clause-shuts
returns-in-Some-clause-shuts g c =
    shut c.in-Some.number (record {
      learns = c.in-Ok.ensures.grows;
      found = found_named _ _ _ _ _ c.as_slice-sid.ensures (is_found _ _ _ c.in-Some.is c.in-Ok.ensures.found);
      same = refl;
    })
    c.shut_found.ensures.shuts

pub returns-in-None-clause-shuts : goal.returns-in-None-clause-shuts
returns-in-None-clause-shuts g c = shut_before (asks_missing _ _ _ _ _ _ _ _ _ c.in-None.is c.as_slice-sid.ensures c.in-Ok.ensures.unknown)

pub returns-in-Err-clause-shuts : goal.returns-in-Err-clause-shuts
returns-in-Err-clause-shuts g c = shut_not _ (directory_asked _ _ _ _ _ _ c.in-Err.ensures.grows c.in-Err.ensures.err)
