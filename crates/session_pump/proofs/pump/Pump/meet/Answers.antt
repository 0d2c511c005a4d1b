use Rattle.std.proofs.Common.{ap, refl, rules}
use Rattle.parked_gate.specs.Passes.{known}
use Rattle.session_pump.specs.Turns.{too_large}
use Rattle.session_pump.proofs.TurnLemmas.{asks_of, meets_not, meets_so, met_before, met_never, new_line}
use Rattle.session_pump.proofs.pump.Pump.meet.Goals as goal

pub returns-then-is_some-clause-meets : goal.returns-then-is_some-clause-meets
returns-then-is_some-clause-meets g c = met_before _ _ (search rules)

pub returns-in_err-name-clause-meets : goal.returns-in_err-name-clause-meets
returns-in_err-name-clause-meets g c =
    meets_not _ _ _ _ _ _ _ _ c.from_residual.ensures.0 (ap known c.in_err-name.ensures.directory) c.in_err-name.ensures.asked c.in_err-name.ensures.others

pub returns-in_default-clause-meets : goal.returns-in_default-clause-meets
returns-in_default-clause-meets g c =
    too_large (asks_of _ _ _ _ _ _ _ (ap known c.in_ok-name.ensures.directory) c.in_ok-name.ensures.asked c.in_ok-name.ensures.others) c.in_default.ensures.large

pub returns-in_err-line-clause-meets : goal.returns-in_err-line-clause-meets
returns-in_err-line-clause-meets g c =
    meets_not _ _ _ _ _ _ _ _ c.from_residual-in_err-line.ensures.0 (ap known c.in_ok-name.ensures.directory) c.in_ok-name.ensures.asked c.in_ok-name.ensures.others

pub returns-clause-meets : goal.returns-clause-meets
returns-clause-meets g c =
    meets_so _ _ _ _ _ _ _ _ _ _ _ (met_never c.args.self.now.lines c.args.number (search rules)) (ap known c.in_ok-name.ensures.directory) c.in_ok-name.ensures.named c.in_ok-name.ensures.others
    (new_line _ _ _ c.as_slice.result.now _ _ _ _ _ c.as_slice.ensures c.in-Some.ensures.small c.place_of-host.ensures.first c.place_of-host.ensures.none
    c.in_ok-line.ensures.opening c.in_ok-line.ensures.kept c.in_ok-line.ensures.side refl refl refl refl refl)
    c.keep_line.ensures.kept c.keep_line.ensures.others c.keep_line.ensures.err
