use Rattle.std.proofs.Common.{◌≡◌, ◌-◌}
use Rattle.bosh_types.specs.Rid.{greatest_rid}
use Rattle.session_core.specs.Machine.{advanced, advanced_in}
use Rattle.session_core.specs.StandsFor.{StandsFor}
use Rattle.session_core.specs.State.{PlainSession}
use Rattle.session_core.proofs.session.Session.advance.Given as goal

-- what the session stands for now advances to what it stood for, in the ids that are left
abbrev pub invariant-loop-id : goal.invariant-loop-id
invariant-loop-id l = (plain : PlainSession) → StandsFor l.fn.self plain
    → (now : PlainSession) × StandsFor l.self now × (advanced_in (greatest_rid - l._id) now ≡ advanced plain)
