use Rattle.std.proofs.Common.{take, ◌∙◌, ap}
use Rattle.session_core.specs.Outward.{size_of_all}
use Rattle.session_core.proofs.Fronts.{counted_left}
use Rattle.session_core.proofs.outbox.Outbox.take_front.Goals as goal

pub invariant_of-self-2 : goal.invariant_of-self-2
invariant_of-self-2 c =
    let count = c.longest_fitting-fitting.result.count in
    rw (c.replace-taken.ensures.after, c.in_ok-rest.ensures.tail)
    (counted_left c.self.inside.items.items c.self.inside.bytes count c.longest_fitting-fitting.result.bytes c.self.inside.closed c.self.invariant
    (c.longest_fitting-fitting.ensures.bytes ∙ ap (λ items. size_of_all (take count items)) c.deref-2.ensures.value))
