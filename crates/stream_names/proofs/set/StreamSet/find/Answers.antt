use Rattle.std.proofs.Common.{◌∙◌, ◌≡◌, ap, cond, Bool, sym, Some, None, ℕ}
use Rattle.stream_names.proofs.Named.{named_at, named_nowhere}
use Rattle.stream_names.proofs.set.StreamSet.find.Goals as goal

pub returns-in_default : goal.returns-in_default
returns-in_default c = sym (named_nowhere c.args.self.now c.args.name.now c.in_order.ensures c.in_default.ensures.refused)

pub returns-then-not-contains : goal.returns-then-not-contains
returns-then-not-contains c =
    sym (named_at c.args.self.now c.in-Some.stream c.args.name.now c.in_order.ensures c.in-Some.ensures.small c.in-Some.ensures.number
    ∙ ap (λ (b : Bool). cond b (Some c.in-Some.stream) None) (sym c.contains.ensures ∙ c.if-not-contains.true))

pub returns : goal.returns
returns c =
    sym (named_at c.args.self.now c.in-Some.stream c.args.name.now c.in_order.ensures c.in-Some.ensures.small c.in-Some.ensures.number
    ∙ ap (λ (b : Bool). cond b (Some c.in-Some.stream) None) (sym c.contains.ensures ∙ c.if-not-contains.false))
