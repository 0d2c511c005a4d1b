use Rattle.std.proofs.Common.{sym, ◌∙◌}
use Rattle.pause_rules.proofs.due_index.DueIndex.clear.Goals as goal
use Rattle.pause_rules.proofs.Pairs.{paired_gone}

pub invariant_of-self-2 : goal.invariant_of-self-2
invariant_of-self-2 c =
    paired_gone c.self.inside.moments c.remove.new.self c.self.inside.queue c.remove-2.new.self c.in-Some.was c.args.number c.self.invariant c.remove.ensures.ordered c.remove.ensures.updates.0
    c.remove-2.ensures.updates.0 (sym c.remove.ensures.value ∙ c.in-Some.is)
