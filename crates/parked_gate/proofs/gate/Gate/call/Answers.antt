use Rattle.std.proofs.Common.{ap}
use Rattle.parked_gate.proofs.WholeTurn.{calls}
use Rattle.parked_gate.proofs.gate.Gate.call.Goals as goal

pub returns-clause-called : goal.returns-clause-called
returns-clause-called g c =
    let object = g.O.Object in
    let pass = c.args.pass.now in
    let begun = c.begin-before.ensures.begun in
    let ran = c.run-reply.ensures.ran begun.0 (ap (λ m. m.1) begun.2) in
    calls object.history object.caller_of pass.seat.me.0 pass.number begun.1 begun.0 ran.0 ran.1 _ _ _ begun.2 ran.2 pass.numbered
    (begun.5 pass.number pass.numbered) ran.3 c.finish.ensures.finished begun.4 ran.4
