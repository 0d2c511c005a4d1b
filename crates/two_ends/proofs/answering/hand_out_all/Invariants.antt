use Rattle.bosh_client.specs.Left.{left_in}
use Rattle.bosh_client.specs.PlainClient.{PlainClient}
use Rattle.bosh_client.specs.StandsFor.{StandsFor}
use Rattle.two_ends.proofs.HandingLemmas.{HandsOn}
use Rattle.two_ends.proofs.answering.hand_out_all.Given as goal

-- what was seen, and what is left to hand out, is all
abbrev pub invariant-loop-payload : goal.invariant-loop-payload
invariant-loop-payload l = (c : PlainClient) → StandsFor l.fn.client c → HandsOn l.client l.seen.items l.fn.seen.items c

abbrev pub decreases-loop-payload : goal.decreases-loop-payload
decreases-loop-payload l = left_in l.client
