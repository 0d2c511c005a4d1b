use Rattle.std.proofs.Common.{arith, subst, ap, length, ◌+◌}
use Rattle.session_core.specs.Journal as plain
use Rattle.session_core.specs.Journal.{state_of}
use Rattle.session_journal.specs.Recording.{Recording}
use Rattle.session_journal.specs.Stored.{Steps}
use Rattle.session_journal.specs.Storing.{by_caller}
use Rattle.session_journal.proofs.RecordedLemmas.{kept}
use Rattle.session_journal.proofs.Stepping.{closed}
use Rattle.session_journal.proofs.recorded.Recorded.back_closed.Goals as goal

pub invariant_of-self-2 : goal.invariant_of-self-2
invariant_of-self-2 c =
    let old = (c.self.invariant).0 in
    let stands = old.stands in
    let does = c.in_ok-reply.ensures.step (state_of old.journal) stands in
    let stays = kept c.self.inside.entries c.enter-made.new.entries c.args.caller (by_caller c.args.caller c.stored_as-entered.result) c.self.inside.host (c.self.invariant).1 c.enter-made.ensures.entries in
    ((closed old c.back_closed.new.self c.args.caller c.enter-made.new.entries c.args.stream c.args.closing c.args.now c.in_ok-reply.reply does c.ending-before.result c.ending-after.result c.stored_as-entered.result (c.ending-before.ensures _ stands) (c.ending-after.ensures _ does.after) c.stored_as-entered.ensures c.enter-made.ensures.entries).0, stays.0, omega (arith, stays.1, c.len.ensures, c.in_ok-has_room.ensures.ok))

pub returns-clause-step : goal.returns-clause-step
returns-clause-step c =
    let old = (c.self.invariant).0 in
    let stands = old.stands in
    let does = c.in_ok-reply.ensures.step (state_of old.journal) stands in
    subst (λ l. Steps l c.args.caller (plain.BackClosed c.args.stream c.args.closing c.args.now) (plain.ToBack c.in_ok-reply.reply) c.enter-made.new.entries) (ap (λ (r : Recording). r.log) c.self.view_is)
    (closed old c.back_closed.new.self c.args.caller c.enter-made.new.entries c.args.stream c.args.closing c.args.now c.in_ok-reply.reply does c.ending-before.result c.ending-after.result c.stored_as-entered.result (c.ending-before.ensures _ stands) (c.ending-after.ensures _ does.after) c.stored_as-entered.ensures c.enter-made.ensures.entries).1

pub returns-clause-room : goal.returns-clause-room
returns-clause-room c =
    let stays = kept c.self.inside.entries c.enter-made.new.entries c.args.caller (by_caller c.args.caller c.stored_as-entered.result) c.self.inside.host (c.self.invariant).1 c.enter-made.ensures.entries in
    omega (arith, stays.1, ap (λ (r : Recording). length r.log + r.out) c.self.view_is)
