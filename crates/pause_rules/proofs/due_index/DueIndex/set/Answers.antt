use Rattle.std.proofs.Common.{Some, sym, ◌∙◌, ap}
use Rattle.pause_rules.proofs.due_index.DueIndex.set.Goals as goal
use Rattle.pause_rules.proofs.Pairs.{paired_again, paired_fresh, paired_moved, paired_taken}

pub invariant_of-self-in_default : goal.invariant_of-self-in_default
invariant_of-self-in_default c =
    paired_taken c.self.inside.moments c.insert-2.new.self c.self.inside.queue c.insert.new.self c.millis-millis.result c.args.number c.self.invariant c.insert-2.ensures.ordered c.remove.new.self
    c.in_ok-insert.ensures.updates.0 c.in_default.ensures.err c.remove.ensures.updates.0 c.in_default.ensures.absent

pub invariant_of-self-in_default-before : goal.invariant_of-self-in_default-before
invariant_of-self-in_default-before c =
    paired_fresh c.self.inside.moments c.insert-2.new.self c.self.inside.queue c.insert.new.self c.millis-millis.result c.args.number c.self.invariant c.insert-2.ensures.ordered
    c.in-Ok.ensures.updates.0 c.in_ok-insert.ensures.updates.0 (sym c.in-Ok.ensures.old ∙ c.in_default-before.is)

pub invariant_of-self-then-old-millis : goal.invariant_of-self-then-old-millis
invariant_of-self-then-old-millis c =
    paired_moved c.self.inside.moments c.insert-2.new.self c.self.inside.queue c.insert.new.self c.millis-millis.result c.args.number c.self.invariant c.insert-2.ensures.ordered
    c.remove-then-old-millis.new.self c.in_ok-insert.ensures.updates.0 c.in-Some.old c.in-Ok.ensures.updates.0 c.remove-then-old-millis.ensures.updates.0 (sym c.in-Ok.ensures.old ∙ c.in-Some.is)
    (λ e. c.if-old-millis.true e)

pub invariant_of-self-else-old-millis : goal.invariant_of-self-else-old-millis
invariant_of-self-else-old-millis c =
    paired_again c.self.inside.moments c.insert-2.new.self c.self.inside.queue c.insert.new.self c.millis-millis.result c.args.number c.self.invariant c.insert-2.ensures.ordered
    c.in-Ok.ensures.updates.0 c.in_ok-insert.ensures.updates.0
    (sym c.in-Ok.ensures.old ∙ c.in-Some.is ∙ ap Some c.if-old-millis.false)
