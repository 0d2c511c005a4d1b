use Rattle.std.proofs.Common.{Some, arith, subst, sym, ◌∙◌, ap, length, ◌+◌}
use Rattle.session_core.specs.Journal as plain
use Rattle.session_journal.specs.declared.entry.Entered.TheVariants as stored
use Rattle.session_journal.specs.Recording.{Recording}
use Rattle.session_journal.specs.Stored.{Steps}
use Rattle.session_journal.specs.Storing.{by_caller}
use Rattle.session_journal.proofs.RecordedLemmas.{kept}
use Rattle.session_journal.proofs.Stepping.{collected, one_out}
use Rattle.session_journal.proofs.recorded.Recorded.collect.Goals as goal

pub enter-made-requires : goal.enter-made-requires
enter-made-requires c =
    let old = (c.self.invariant).0 in
    let out = one_out old c.args.ticket c.collect-collected.result (c.collect-collected.ensures.reply _ old.stands) (sym c.uses_up.ensures ∙ c.if-not-uses_up.false) in
    omega (arith, (c.self.invariant).2, out)

pub overflow_sub-self : goal.overflow_sub-self
overflow_sub-self c =
    let old = (c.self.invariant).0 in
    let out = one_out old c.args.ticket c.collect-collected.result (c.collect-collected.ensures.reply _ old.stands) (sym c.uses_up.ensures ∙ c.if-not-uses_up.false) in
    omega (arith, out)

pub invariant_of-self-2 : goal.invariant_of-self-2
invariant_of-self-2 c =
    let old = (c.self.invariant).0 in
    let uses = sym c.uses_up.ensures ∙ c.if-not-uses_up.false in
    let out = one_out old c.args.ticket c.collect-collected.result (c.collect-collected.ensures.reply _ old.stands) uses in
    let stays = kept c.self.inside.entries c.enter-made.new.entries c.args.caller (by_caller c.args.caller (Some (stored.Collect c.args.ticket))) c.self.inside.host (c.self.invariant).1 c.enter-made.ensures.entries in
    ((collected old c.collect-collected.new.self c.args.caller c.enter-made.new.entries c.args.ticket c.collect-collected.result (c.collect-collected.ensures.reply _ old.stands) (c.collect-collected.ensures.after _ old.stands) uses c.enter-made.ensures.entries).0, stays.0, omega (arith, (c.self.invariant).2, out, stays.1))

pub returns-clause-step : goal.returns-clause-step
returns-clause-step c =
    let old = (c.self.invariant).0 in
    let uses = sym c.uses_up.ensures ∙ c.if-not-uses_up.false in
    subst (λ l. Steps l c.args.caller (plain.Collect c.args.ticket) (plain.ToCollect c.collect-collected.result) c.enter-made.new.entries) (ap (λ (r : Recording). r.log) c.self.view_is)
    (collected old c.collect-collected.new.self c.args.caller c.enter-made.new.entries c.args.ticket c.collect-collected.result (c.collect-collected.ensures.reply _ old.stands) (c.collect-collected.ensures.after _ old.stands) uses c.enter-made.ensures.entries).1

pub returns-clause-room : goal.returns-clause-room
returns-clause-room c =
    let old = (c.self.invariant).0 in
    let uses = sym c.uses_up.ensures ∙ c.if-not-uses_up.false in
    let out = one_out old c.args.ticket c.collect-collected.result (c.collect-collected.ensures.reply _ old.stands) uses in
    let stays = kept c.self.inside.entries c.enter-made.new.entries c.args.caller (by_caller c.args.caller (Some (stored.Collect c.args.ticket))) c.self.inside.host (c.self.invariant).1 c.enter-made.ensures.entries in
    omega (arith, out, stays.1, ap (λ (r : Recording). length r.log + r.out) c.self.view_is)
