use Rattle.std.proofs.Common.{◌≡◌}
use Rattle.script_text.specs.Resumed.{lost_tickets}
use Rattle.script_text.proofs.resumed.lost_tickets.Given as goal

-- those of the first tickets
abbrev pub invariant-loop-before : goal.invariant-loop-before
invariant-loop-before l = l.parked.items ≡ lost_tickets l.before
