use Rattle.std.proofs.Common.{◌∙◌, subst, sym}
use Rattle.parked_gate.specs.Histories.{StartsWith}
use Rattle.parked_gate.specs.Passes.{known}
use Rattle.bosh_server.proofs.FateLemmas.{served_so}
use Rattle.bosh_server.proofs.seat.ConnectionSeatSeatLoopTools.leave.Goals as goal

pub learn-requires : goal.learn-requires
learn-requires g c = c.args.self.fits ∙ (c.args.self.home ∙ sym c.args.tools.now.home)

pub settle-requires : goal.settle-requires
settle-requires g c =
    let port = g.L.Polled in
    let seat = c.args.self in
    let shut = c.close-2.ensures in
    record {
      is = served_so port.left port.given port.closed port.faults g.J.Naming.site
          (record {
            came = seat.came;
            went = c.of-went.result;
            end = c.of-end.result;
            first = seat.first;
            last = c.of-last.result;
            trail = seat.served.worker.trail;
            connection = c.of-connection.result;
          })
          seat.served.link c.close-2.new.self seat.served.worker.purse seat.served.connection c.of-went.ensures c.of-end.ensures c.of-last.ensures c.of-connection.ensures
          (record { closed_too = shut.closed; left_so = shut.left; given_so = shut.given; faults_so = shut.faults }) seat.stands;
      of_one = ∣ subst (λ purse. StartsWith (known c.learn.new.self.pass).seen (known purse.directory).seen) (sym c.of-last.ensures) c.learn.ensures.seen ∣₁;
    }
