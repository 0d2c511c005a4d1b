use Rattle.std.proofs.Common.{◌≡◌, ◌-◌, length}
use Rattle.session_core.specs.Answers.{settled, settled_in}
use Rattle.session_core.specs.StandsFor.{StandsFor}
use Rattle.session_core.specs.State.{PlainSession}
use Rattle.session_core.proofs.session.Session.settle.Given as goal

-- what the session stands for now settles to what it stood for, in the steps that are left
abbrev pub invariant-loop-request : goal.invariant-loop-request
invariant-loop-request l = (plain : PlainSession) → StandsFor l.fn.self plain
    → (now : PlainSession) × StandsFor l.self now × (settled_in (length l.fn.self.held - l._request) now ≡ settled plain)
