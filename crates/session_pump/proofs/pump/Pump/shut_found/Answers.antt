use Rattle.std.proofs.Common.{ap, sym}
use Rattle.parked_gate.specs.Passes.{known}
use Rattle.session_pump.proofs.TurnLemmas.{asks_of, shuts_alone, shuts_line}
use Rattle.session_pump.proofs.pump.Pump.shut_found.Goals as goal

pub returns-in-Some-clause-shuts : goal.returns-in-Some-clause-shuts
returns-in-Some-clause-shuts g c =
    asks_of _ _ _ _ _ _ _ (ap known c.close_each.ensures.directory)
    (shuts_line (g.C.Clock.moment c.args.clock.now) _ _ _ _ _ _ _ (sym c.in-Some.ensures.value) c.close_each.ensures.closes) c.close_each.ensures.others

pub returns-in-None-clause-shuts : goal.returns-in-None-clause-shuts
returns-in-None-clause-shuts g c =
    asks_of _ _ _ _ _ _ _ (ap known c.close_stream.ensures.directory)
    (shuts_alone (g.C.Clock.moment c.args.clock.now) _ _ _ _ _ _ _ (sym c.in-None.ensures.value) c.unnamed-stream.ensures c.close_stream.ensures.closes) c.close_stream.ensures.others
