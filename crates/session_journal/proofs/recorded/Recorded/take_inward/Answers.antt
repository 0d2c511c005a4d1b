use Rattle.std.proofs.Common.{arith, subst, ◌∙◌, not, ap, Some, length, ◌+◌}
use Rattle.session_core.specs.Journal as plain
use Rattle.session_journal.specs.declared.entry.Entered.TheVariants as stored
use Rattle.session_journal.specs.Recording.{Recording}
use Rattle.session_journal.specs.Stored.{Steps}
use Rattle.session_journal.specs.Storing.{by_caller}
use Rattle.session_journal.proofs.RecordedLemmas.{kept}
use Rattle.session_journal.proofs.Stepping.{taken}
use Rattle.session_journal.proofs.recorded.Recorded.take_inward.Goals as goal

pub invariant_of-self-2 : goal.invariant_of-self-2
invariant_of-self-2 c =
    let old = (c.self.invariant).0 in
    let some = c.is_none.ensures ∙ ap not c.if-is_none.false in
    let stays = kept c.self.inside.entries c.enter-made.new.entries c.args.caller (by_caller c.args.caller (Some stored.TakeInward)) c.self.inside.host (c.self.invariant).1 c.enter-made.ensures.entries in
    ((taken old c.take_inward-item.new.self c.args.caller c.enter-made.new.entries c.take_inward-item.result (c.take_inward-item.ensures.reply _ old.stands) (c.take_inward-item.ensures.after _ old.stands) some c.enter-made.ensures.entries).0, stays.0, omega (arith, stays.1, c.len.ensures, c.in_ok-has_room.ensures.ok))

pub returns-clause-step : goal.returns-clause-step
returns-clause-step c =
    let old = (c.self.invariant).0 in
    let some = c.is_none.ensures ∙ ap not c.if-is_none.false in
    subst (λ l. Steps l c.args.caller plain.TakeInward (plain.ToTakeInward c.take_inward-item.result) c.enter-made.new.entries) (ap (λ (r : Recording). r.log) c.self.view_is)
    (taken old c.take_inward-item.new.self c.args.caller c.enter-made.new.entries c.take_inward-item.result (c.take_inward-item.ensures.reply _ old.stands) (c.take_inward-item.ensures.after _ old.stands) some c.enter-made.ensures.entries).1

pub returns-clause-room : goal.returns-clause-room
returns-clause-room c =
    let stays = kept c.self.inside.entries c.enter-made.new.entries c.args.caller (by_caller c.args.caller (Some stored.TakeInward)) c.self.inside.host (c.self.invariant).1 c.enter-made.ensures.entries in
    omega (arith, stays.1, ap (λ (r : Recording). length r.log + r.out) c.self.view_is)
