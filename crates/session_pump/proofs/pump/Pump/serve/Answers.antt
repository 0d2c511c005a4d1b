use Rattle.std.proofs.Common.{refl}
use Rattle.session_pump.specs.Turns.{found, live_no_longer, not_found}
use Rattle.session_pump.proofs.TurnLemmas.{asks_missing, directory_asked, found_held, found_named, is_found}
use Rattle.session_pump.proofs.pump.Pump.serve.Goals as goal

pub serve_found-requires-clause-held : goal.serve_found-requires-clause-held
serve_found-requires-clause-held g c = found_held _ _ _ _ (is_found _ _ _ c.in-Some.is c.in-Ok.ensures.found)

pub returns-in-Some-clause-serves : goal.returns-in-Some-clause-serves
returns-in-Some-clause-serves g c =
    found c.in-Some.number (record {
      learns = c.in-Ok.ensures.grows;
      found = found_named _ _ _ _ _ c.as_slice-sid.ensures (is_found _ _ _ c.in-Some.is c.in-Ok.ensures.found);
      same = refl;
    })
    c.serve_found.ensures.serves

pub returns-in-None-clause-serves : goal.returns-in-None-clause-serves
returns-in-None-clause-serves g c = live_no_longer (asks_missing _ _ _ _ _ _ _ _ _ c.in-None.is c.as_slice-sid.ensures c.in-Ok.ensures.unknown)

pub returns-in-Err-clause-serves : goal.returns-in-Err-clause-serves
returns-in-Err-clause-serves g c = not_found _ (directory_asked _ _ _ _ _ _ c.in-Err.ensures.grows c.in-Err.ensures.err)
