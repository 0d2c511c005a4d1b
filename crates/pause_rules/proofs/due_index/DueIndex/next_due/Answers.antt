use Rattle.std.proofs.Common.{Some, None, sym, ◌∙◌, arith, subst}
use Rattle.std.proofs.lemmas.Bool.{false≢true}
use Rattle.pause_rules.specs.NextDue.{IsNextDue}
use Rattle.pause_rules.proofs.due_index.DueIndex.next_due.Goals as goal
use Rattle.pause_rules.proofs.FirstPair.{is_later, is_next, none_at_all, none_due}

pub returns-in_err-millis-clause-next : goal.returns-in_err-millis-clause-next
returns-in_err-millis-clause-next c =
    none_due c.args.self.now c.args.now c.from_residual.result
    (sym c.self.view_is ∙ none_at_all c.self.inside.moments c.self.inside.queue c.self.invariant (λ some. false≢true (c.in_err-millis.ensures.variant.1 some))) c.from_residual.ensures

pub returns-then-millis-clause-next : goal.returns-then-millis-clause-next
returns-then-millis-clause-next c =
    subst (λ pairs. IsNextDue pairs c.args.now (Some c.in_ok-millis.field-0.now.1)) c.self.view_is
    (is_next c.self.inside.moments c.self.inside.queue c.self.invariant c.in_ok-millis.field-0.now.0 c.in_ok-millis.field-0.now.1 c.in_ok-millis.ensures.member c.in_ok-millis.ensures.least c.args.now
    (omega (arith, c.if-millis.true, c.millis.ensures)))

pub returns-else-millis-clause-next : goal.returns-else-millis-clause-next
returns-else-millis-clause-next c =
    subst (λ pairs. IsNextDue pairs c.args.now None) c.self.view_is
    (is_later c.self.inside.moments c.self.inside.queue c.self.invariant c.in_ok-millis.field-0.now.0 c.in_ok-millis.field-0.now.1 c.in_ok-millis.ensures.member c.in_ok-millis.ensures.least c.args.now
    (omega (arith, c.if-millis.false, c.millis.ensures)))
