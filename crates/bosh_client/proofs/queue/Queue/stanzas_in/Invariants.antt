use Rattle.std.proofs.Common.{◌≡◌, take}
use Rattle.bosh_client.specs.Outgoing.{stanzas_in}
use Rattle.bosh_client.proofs.queue.Queue.stanzas_in.Given as goal

-- the stanzas among the items so far
abbrev pub invariant-loop-index : goal.invariant-loop-index
invariant-loop-index l = l.stanzas.items ≡ stanzas_in (take l.index l.self-inside.items.items)
