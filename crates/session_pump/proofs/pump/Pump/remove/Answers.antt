use Rattle.std.proofs.Common.{ap, rules}
use Rattle.parked_gate.specs.Passes.{known}
use Rattle.session_pump.proofs.TurnLemmas.{removes_not, removes_refused, removes_so}
use Rattle.session_pump.proofs.pump.Pump.remove.Goals as goal

pub returns-in_err-from_slice-clause-removes : goal.returns-in_err-from_slice-clause-removes
returns-in_err-from_slice-clause-removes g c = removes_not _ _ _ _ c.from_residual.ensures.0

pub returns-in_err-call-clause-removes : goal.returns-in_err-call-clause-removes
returns-in_err-call-clause-removes g c =
    removes_refused _ _ c.from_vec-sid.result _ _ _ _ _ _ _ c.from_residual-in_err-call.ensures.0 (search rules) c.in_err-call.ensures.called

pub returns-clause-removes : goal.returns-clause-removes
returns-clause-removes g c =
    removes_so _ _ c.from_vec-sid.result _ _ _ _ _ _ _ _ _ (search rules) (ap known c.let_go.ensures.directory) c.in_ok-call.ensures.called
    c.forget_line.ensures.gone c.forget_line.ensures.others c.let_go.ensures.gone c.let_go.ensures.others c.forget_due.ensures
