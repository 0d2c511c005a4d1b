use Rattle.trace_audit.proofs.OutcomeLemmas.{one_outcome}
use Rattle.trace_audit.proofs.laws.a_trace_has_one_outcome.Goals as goal

pub returns : goal.returns
returns c = one_outcome
