use Rattle.std.proofs.Common.{◌+◌, ◌-◌, ◌≤◌}
use Rattle.session_core.specs.Gap.{strike_each}
use Rattle.session_core.specs.StandsFor.{StandsFor}
use Rattle.session_core.specs.State.{PlainSession}
use Rattle.session_core.proofs.StruckLemmas.{first_struck}
use Rattle.session_core.proofs.session.Session.strike_due.Given as goal

-- of the ids before this one those that are to be struck were
abbrev pub invariant-loop-ahead : goal.invariant-loop-ahead
invariant-loop-ahead l = record {
  some : 1 ≤ l.ahead;
  few : l.ahead ≤ l.fn.self.deadlines.terms.requests + 2;
  stands : (plain : PlainSession) → StandsFor l.fn.self plain → StandsFor l.self (strike_each (first_struck plain (l.ahead - 1)) plain);
}
