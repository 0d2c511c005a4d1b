use Rattle.bosh_server.proofs.FateLemmas.{given_up_so}
use Rattle.bosh_server.proofs.seat.LoopTools.give_up.Goals as goal

pub settle-requires : goal.settle-requires
settle-requires g c =
    let port = g.L.Polled in
    let shut = c.close.ensures in
    record {
      is = ∣ given_up_so port.left port.given port.closed port.faults (record { came = c.of-came.result; end = c.of-end.result }) c.args.link c.close.new.self c.of-came.ensures
          c.of-end.ensures (record { closed_too = shut.closed; left_so = shut.left; given_so = shut.given; faults_so = shut.faults }) ∣₁;
      of_one = ∣ tt ∣₁;
    }
