use Rattle.std.proofs.Common.{◌≡◌, ◌+◌, length}
use Rattle.bosh_client.specs.Left.{left_of}
use Rattle.bosh_client.specs.PlainClient.{PlainClient}
use Rattle.bosh_client.specs.StandsFor.{HoldsRequests}
use Rattle.bosh_client.proofs.answering.move_on.Given as goal

-- what they hold is what they held, and as many payloads are left
abbrev pub invariant-loop-exchanges : goal.invariant-loop-exchanges
invariant-loop-exchanges l =
    ((plain : PlainClient) → HoldsRequests l.fn.exchanges l.fn.inbox plain → HoldsRequests l.exchanges l.inbox plain)
    × (length l.inbox + left_of l.exchanges.slots ≡ length l.fn.inbox + left_of l.fn.exchanges.slots)

abbrev pub decreases-loop-exchanges : goal.decreases-loop-exchanges
decreases-loop-exchanges l = length l.exchanges.slots
