use Rattle.std.proofs.Common.{[], subst, sym}
use Rattle.serve_loop.specs.Connections.{outside}
use Rattle.bosh_server.specs.Fates.{IsSiteOf}
use Rattle.bosh_server.proofs.FateLemmas.{goes_on}
use Rattle.bosh_server.proofs.seat.ConnectionSeatSeatLoopTools.go_on.Goals as goal

pub invariant_of-self-clause-stands : goal.invariant_of-self-clause-stands
invariant_of-self-clause-stands g c =
    let port = g.L.Polled in
    let seat = c.args.self.now in
    let old = seat.served in
    let new = c.go_on-wants.new.served in
    let yard = c.deref.result.now in
    goes_on g.J.Naming.site yard.hosts yard.limits (g.C.Clock.moment c.args.tools.now.clock)
    (outside [] (port.left seat.came.value) (port.given seat.came.value) [] seat.first.value (port.faults seat.came.value))
    (outside old.connection.reader (port.left old.link) (port.given old.link) old.worker.trail old.worker.purse (port.faults old.link))
    (outside new.connection.reader (port.left new.link) (port.given new.link) new.worker.trail new.worker.purse (port.faults new.link))
    old.connection.standing new.connection.standing
    (subst (λ y. ∥ IsSiteOf g.J.Naming.site y.hosts y.limits ∥₁) (sym c.deref.ensures) seat.site) c.args.tools.now.moment c.go_on-wants.ensures.moves seat.stands
