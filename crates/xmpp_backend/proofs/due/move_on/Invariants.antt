use Rattle.std.proofs.Common.{◌≡◌, ◌++◌, ◌+◌, ◌≤◌, drop, filter, length, not, take}
use Rattle.std.proofs.Common.{deque_capacity}
use Rattle.xmpp_backend.specs.Dues.{Due, is_on}
use Rattle.xmpp_backend.proofs.due.move_on.Given as goal

-- so many were moved, each behind its queue
abbrev pub invariant-loop : goal.invariant-loop
invariant-loop l = record {
  from : l.from.items ≡ drop l.counter l.fn.from.items ++ filter (λ (due : Due). not (is_on l.wire due)) (take l.counter l.fn.from.items);
  to : l.to.items ≡ l.fn.to.items ++ filter (is_on l.wire) (take l.counter l.fn.from.items);
  capacity : deque_capacity l.from ≡ deque_capacity l.fn.from;
  room : deque_capacity l.to ≡ deque_capacity l.fn.to;
}
