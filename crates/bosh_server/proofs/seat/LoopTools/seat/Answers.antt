use Rattle.std.proofs.Common.{ap, sym, ◌∙◌}
use Rattle.bosh_server.proofs.FateLemmas.{begins}
use Rattle.bosh_server.proofs.seat.LoopTools.seat.Goals as goal

pub invariant_of-result-clause-stands : goal.invariant_of-result-clause-stands
invariant_of-result-clause-stands g c =
    let port = g.L.Polled in
    let made = c.new-served in
    ∣ begins port.left port.given port.closed port.faults g.J.Naming.site c.of-came.result.value made.result.link c.of-first.result.value made.result.worker.purse
    made.result.worker.trail made.result.connection (c.of-came.ensures ∙ sym made.ensures.link) (c.of-first.ensures ∙ sym (ap (λ w. w.purse) made.ensures.worker))
    (ap (λ w. w.trail) made.ensures.worker ∙ c.new-trail.ensures) made.ensures.fresh ∣₁
