use Rattle.std.proofs.Common.{◌≡◌}
use Rattle.serve_journal.proofs.held_backend.hand_on.Given as goal

-- nothing was counted
abbrev pub invariant-loop : goal.invariant-loop
invariant-loop g l = g.E.Backend.counts l.to ≡ g.E.Backend.counts l.fn.to
