use Rattle.trace_audit.proofs.KeepsLemmas.{keeps_both}
use Rattle.trace_audit.proofs.laws.a_trace_that_holds_keeps_both_prefixes.Goals as goal

pub returns : goal.returns
returns c = keeps_both
