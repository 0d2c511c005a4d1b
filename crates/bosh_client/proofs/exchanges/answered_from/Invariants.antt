use Rattle.std.proofs.Common.{◌≤◌}
use Rattle.bosh_client.specs.Places.{answered_front}
use Rattle.bosh_client.proofs.exchanges.answered_from.Given as goal

-- so many of the first have an answer, if so many had that were known
abbrev pub invariant-loop-place : goal.invariant-loop-place
invariant-loop-place l = l.known ≤ answered_front l.slots.items → l.place ≤ answered_front l.slots.items
