use Rattle.std.proofs.Common.{◌<◌, ◌∙◌, length, rules, subst, sym}
use Rattle.std.proofs.Common.{deque_capacity}
use Rattle.xmpp_backend.proofs.MovingLemmas.{moves_next, moves_within}
use Rattle.xmpp_backend.proofs.due.move_on.Goals as goal

pub move_first-requires-clause-room : goal.move_first-requires-clause-room
move_first-requires-clause-room c =
    let within : c.loop.counter < length c.args.from.now.items = subst (λ n. c.loop.counter < n) (c.len-end.ensures ∙ c.args.from.now.ok.0) c.loop-test.true in
    rw (c.loop.invariant.to, c.loop.invariant.room) (moves_within c.args.wire c.loop.counter (deque_capacity c.args.to.now) c.args.to.now.items c.args.from.now.items within c.requires)

pub loop-preserved : goal.loop-preserved
loop-preserved c =
    let within : c.loop.counter < length c.args.from.now.items = subst (λ n. c.loop.counter < n) (c.len-end.ensures ∙ c.args.from.now.ok.0) c.loop-test.true in
    let next = moves_next c.args.wire c.loop.counter c.args.from.now.items c.args.to.now.items c.loop.from.items c.loop.to.items c.move_first.new.from.items c.move_first.new.to.items within
    c.loop.invariant.from c.loop.invariant.to c.move_first.ensures.on c.move_first.ensures.off in
    record {
      from = next.0;
      to = next.1;
      capacity = c.move_first.ensures.capacity ∙ c.loop.invariant.capacity;
      room = c.move_first.ensures.room ∙ c.loop.invariant.room;
    }
