use Rattle.std.proofs.Common.{◌+◌, ◌-◌, ◌≤◌, ◌<◌, ◌^◌}
use Rattle.std.specs.Prelude.{IfSome}
use Rattle.session_core.specs.StandsFor.{StandsFor}
use Rattle.session_core.specs.State.{PlainSession}
use Rattle.session_core.proofs.DueLemmas.{IsFirst, any_struck}
use Rattle.session_core.proofs.session.Session.first_strike_due.Given as goal

-- the first moment of the ids before this one
abbrev pub invariant-loop-ahead : goal.invariant-loop-ahead
invariant-loop-ahead l = record {
  some : 1 ≤ l.ahead;
  few : l.ahead ≤ l.self.deadlines.terms.requests + 2;
  small : IfSome l.first (λ moment. moment < 2 ^ 64);
  first : (plain : PlainSession) → StandsFor l.self plain → IsFirst (any_struck plain (l.ahead - 1)) l.first;
}
