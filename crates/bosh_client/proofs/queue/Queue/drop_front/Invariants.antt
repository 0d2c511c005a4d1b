use Rattle.std.proofs.Common.{◌≡◌, drop}
use Rattle.bosh_client.proofs.queue.Queue.drop_front.Given as goal

-- so many of the first items are gone
abbrev pub invariant-loop-item : goal.invariant-loop-item
invariant-loop-item l = l.self ≡ drop l._item l.fn.self
