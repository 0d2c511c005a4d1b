use Rattle.std.proofs.Common.{ap}
use Rattle.parked_gate.proofs.WholeTurn.{polls}
use Rattle.parked_gate.proofs.gate.Gate.poll.Goals as goal

pub returns-clause-polled : goal.returns-clause-polled
returns-clause-polled g c =
    let object = g.O.Object in
    let pass = c.args.pass.now in
    let begun = c.begin-before.ensures.begun in
    let sought = c.seek-found.ensures.sought begun.0 (ap (λ m. m.1) begun.2) in
    polls object.history object.caller_of pass.seat.me.0 pass.number begun.1 begun.0 sought.0 sought.1 _ _ _ begun.2 sought.2 pass.numbered
    (begun.5 pass.number pass.numbered) sought.3 c.finish.ensures.finished
    (λ seen. object.lacks seen c.args.ask) (λ found before made. object.finds before c.args.ask found made) begun.4 _ sought.4
