use Rattle.std.proofs.Common.{◌≡◌, ◌<◌}
use Rattle.std.specs.Io.KnownBytes.{prepend_known}
use Rattle.trace_audit.proofs.StepLemmas.{GoingOn}
use Rattle.trace_audit.proofs.audit.outcome_of.Given as goal

-- what was read so far is a trace that holds
abbrev pub invariant-loop-n : goal.invariant-loop-n
invariant-loop-n g l = record {
  going : GoingOn (g.S.Source.left l.fn.source) (prepend_known l.reader (g.S.Source.left l.source)) l.heard l.tally l.n;
  faults : g.S.Source.faults l.source ≡ g.S.Source.faults l.fn.source;
  requests : l.tally.requests < l.n;
  passed : l.tally.passed < l.n;
  got : l.tally.got < l.n;
}
