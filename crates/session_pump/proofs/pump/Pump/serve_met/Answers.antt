use Rattle.std.proofs.Common.{ap}
use Rattle.parked_gate.specs.Passes.{known}
use Rattle.session_pump.specs.Pumping.{went_on}
use Rattle.session_pump.specs.Turns.{left_alone, was_served}
use Rattle.session_pump.proofs.TurnLemmas.{asks_of, then_not}
use Rattle.session_pump.proofs.TurnedLemmas.{still_held}
use Rattle.session_pump.proofs.pump.Pump.serve_met.Goals as goal

pub serve_held-requires : goal.serve_held-requires
serve_held-requires g c = still_held _ _ _ _ c.state-state.ensures.looked

pub returns-then-leaves-clause-serves : goal.returns-then-leaves-clause-serves
returns-then-leaves-clause-serves g c = left_alone (record {
  state = c.state-state.result;
  asked = _;
  answers = asks_of _ _ _ _ _ _ _ (ap known c.state-state.ensures.directory) c.state-state.ensures.looked c.state-state.ensures.others;
  now = c.now.result;
  at = c.now.ensures;
  nothing = c.leaves.ensures.nothing c.if-leaves.true;
  rests = c.leaves.ensures.rests c.if-leaves.true;
  notes = c.note_answer.ensures.notes;
})

pub returns-in_err-serve_held-clause-serves : goal.returns-in_err-serve_held-clause-serves
returns-in_err-serve_held-clause-serves g c =
    was_served _ (asks_of _ _ _ _ _ _ _ (ap known c.state-state.ensures.directory) c.state-state.ensures.looked c.state-state.ensures.others)
    (then_not _ _ c.from_residual.ensures.0 c.in_err-serve_held.ensures.serves)

pub returns-clause-serves : goal.returns-clause-serves
returns-clause-serves g c =
    was_served _ (asks_of _ _ _ _ _ _ _ (ap known c.state-state.ensures.directory) c.state-state.ensures.looked c.state-state.ensures.others)
    (went_on c.in_ok-serve_held.ensures.serves c.remove_ended.ensures.removes)
