use Rattle.std.proofs.Common.{Some, sym, ◌∙◌, subst}
use Rattle.std.proofs.lemmas.Bool.{false≢true}
use Rattle.pause_rules.specs.NextDue.{IsLeastMoment}
use Rattle.pause_rules.proofs.due_index.DueIndex.first_due.Goals as goal
use Rattle.pause_rules.proofs.FirstPair.{is_first, none_at_all, none_first}

pub returns-in_err-millis-clause-first : goal.returns-in_err-millis-clause-first
returns-in_err-millis-clause-first c =
    none_first c.args.self.now c.from_residual.result
    (sym c.self.view_is ∙ none_at_all c.self.inside.moments c.self.inside.queue c.self.invariant (λ some. false≢true (c.in_err-millis.ensures.variant.1 some))) c.from_residual.ensures

pub returns-clause-first : goal.returns-clause-first
returns-clause-first c =
    subst (λ pairs. IsLeastMoment pairs (Some c.from_millis.result)) c.self.view_is
    (rw c.from_millis.ensures (is_first c.self.inside.moments c.self.inside.queue c.self.invariant c.in_ok-millis.field-0.now.0 c.in_ok-millis.field-0.now.1 c.in_ok-millis.ensures.member c.in_ok-millis.ensures.least))
