use Rattle.std.proofs.Common.{◌≡◌, ◌+◌, ◌-◌, ◌≤◌, []}
use Rattle.session_core.specs.StandsFor.{StandsFor}
use Rattle.session_core.specs.State.{PlainSession}
use Rattle.session_core.proofs.StruckLemmas.{first_struck}
use Rattle.session_core.proofs.session.Session.owes_errors_at.Given as goal

-- none of the ids before this one is to be struck
abbrev pub invariant-loop-ahead : goal.invariant-loop-ahead
invariant-loop-ahead l = record {
  some : 1 ≤ l.ahead;
  few : l.ahead ≤ l.self.deadlines.terms.requests + 2;
  none : (plain : PlainSession) → StandsFor l.self plain → first_struck (record plain { now = l.moment }) (l.ahead - 1) ≡ [];
}
