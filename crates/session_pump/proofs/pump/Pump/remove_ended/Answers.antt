use Rattle.std.proofs.Common.{ap, rules}
use Rattle.parked_gate.specs.Passes.{known}
use Rattle.session_pump.specs.Pumping.{went_on}
use Rattle.session_pump.specs.Turns.{goes_on, has_ended}
use Rattle.session_pump.proofs.TurnLemmas.{asks_of, then_not}
use Rattle.session_pump.proofs.TurnedLemmas.{still_held}
use Rattle.session_pump.proofs.pump.Pump.remove_ended.Goals as goal

pub pass_rest-requires-clause-held : goal.pass_rest-requires-clause-held
pass_rest-requires-clause-held g c = still_held _ _ _ _ c.state-state.ensures.looked

pub returns-then-is_none-clause-removes : goal.returns-then-is_none-clause-removes
returns-then-is_none-clause-removes g c =
    goes_on _ (asks_of _ _ _ _ _ _ _ (ap known c.state-state.ensures.directory) c.state-state.ensures.looked c.state-state.ensures.others) (search rules)
    c.note_answer.ensures.notes

pub returns-in_err-pass_rest-clause-removes : goal.returns-in_err-pass_rest-clause-removes
returns-in_err-pass_rest-clause-removes g c =
    has_ended _ (asks_of _ _ _ _ _ _ _ (ap known c.state-state.ensures.directory) c.state-state.ensures.looked c.state-state.ensures.others) (search rules)
    (then_not _ _ c.from_residual.ensures.0 (c.in_err-pass_rest.ensures.passes))

pub returns-in_err-close_wires-clause-removes : goal.returns-in_err-close_wires-clause-removes
returns-in_err-close_wires-clause-removes g c =
    has_ended _ (asks_of _ _ _ _ _ _ _ (ap known c.state-state.ensures.directory) c.state-state.ensures.looked c.state-state.ensures.others) (search rules)
    (went_on (c.in_ok-pass_rest.ensures.passes) (then_not _ _ c.from_residual-in_err-close_wires.ensures.0 c.in_err-close_wires.ensures.closes))

pub returns-clause-removes : goal.returns-clause-removes
returns-clause-removes g c =
    has_ended _ (asks_of _ _ _ _ _ _ _ (ap known c.state-state.ensures.directory) c.state-state.ensures.looked c.state-state.ensures.others) (search rules)
    (went_on (c.in_ok-pass_rest.ensures.passes) (went_on c.in_ok-close_wires.ensures.closes c.remove.ensures.removes))
