use Rattle.std.proofs.Common.{ap, subst, sym}
use Rattle.serve_loop.specs.Connections.{IsServedBy}
use Rattle.bosh_server.proofs.FateLemmas.{stands_on}
use Rattle.bosh_server.proofs.seat.ConnectionSeatSeatLoopTools.has_left.Goals as goal

pub invariant_of-self-clause-stands : goal.invariant_of-self-clause-stands
invariant_of-self-clause-stands g c =
    let port = g.L.Polled in
    let seat = c.args.self.now in
    let new = c.is_left.new.self in
    let looked = c.is_left.ensures in
    stands_on port.left port.given port.closed port.faults g.J.Naming.site seat.came.value seat.served.link new.link seat.first.value seat.served.worker.purse new.worker.purse
    seat.served.worker.trail new.worker.trail seat.served.connection new.connection looked.left looked.given looked.faults (ap (λ w. w.trail) looked.worker)
    (ap (λ w. w.purse) looked.worker) looked.connection seat.stands

pub invariant_of-self-clause-held : goal.invariant_of-self-clause-held
invariant_of-self-clause-held g c =
    let seat = c.args.self.now in
    let new = c.is_left.new.self in
    let looked = c.is_left.ensures in
    subst (λ w. IsServedBy w.purse.sessions new.connection.standing.stage) (sym looked.worker)
    (subst (λ k. IsServedBy seat.served.worker.purse.sessions k.standing.stage) (sym looked.connection) seat.held)
