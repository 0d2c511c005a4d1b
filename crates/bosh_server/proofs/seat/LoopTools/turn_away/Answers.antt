use Rattle.bosh_server.proofs.FateLemmas.{turned_so}
use Rattle.bosh_server.proofs.seat.LoopTools.turn_away.Goals as goal

pub settle-requires : goal.settle-requires
settle-requires g c =
    let port = g.L.Polled in
    let told = c.turn_away.ensures in
    record {
      is = ∣ turned_so port.left port.given port.closed port.faults (record { came = c.of-came.result; end = c.of-end.result }) c.args.link c.turn_away.new.link c.of-came.ensures
          c.of-end.ensures told.left told.given told.closed told.faults ∣₁;
      of_one = ∣ tt ∣₁;
    }
