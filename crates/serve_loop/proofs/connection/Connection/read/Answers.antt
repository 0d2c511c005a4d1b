use Rattle.std.proofs.Common.{refl}
use Rattle.serve_loop.specs.Connections.{outside}
use Rattle.serve_loop.proofs.ConnectionLemmas.{moves_to_refusal, moves_to_request, moves_to_want}
use Rattle.serve_loop.proofs.connection.Connection.read.Goals as goal

pub returns-in-Ok-Request-clause-moves : goal.returns-in-Ok-Request-clause-moves
returns-in-Ok-Request-clause-moves g c = λ site purse.
    let port = g.L.Link in
    let trail = c.args.trail.now in
    let it = c.in-Ok-Request in
    moves_to_request site
    (outside c.args.self.now.reader (port.left c.args.link.now) (port.given c.args.link.now) trail purse (port.faults c.args.link.now))
    (outside c.next.new.self (port.left c.next.new.link) (port.given c.next.new.link) trail purse (port.faults c.next.new.link))
    it.body it.closing c.asked_stage.result (rw it.field-0-is at it.ensures.reads) c.next.ensures.given refl refl
    (it.ensures.quiet (λ no. let is = it.field-0-is in cc)) c.asked_stage.ensures

pub returns-in-Ok-Refused-clause-moves : goal.returns-in-Ok-Refused-clause-moves
returns-in-Ok-Refused-clause-moves g c = λ site purse.
    let port = g.L.Link in
    let it = c.in-Ok-Refused in
    moves_to_refusal site
    (outside c.args.self.now.reader (port.left c.args.link.now) (port.given c.args.link.now) c.args.trail.now purse (port.faults c.args.link.now))
    (outside c.next.new.self (port.left c.next.new.link) (port.given c.next.new.link) c.refused.new.trail purse (port.faults c.next.new.link))
    it.refusal c.refused.result (rw it.field-0-is at it.ensures.reads) c.next.ensures.given refl
    (it.ensures.quiet (λ no. let is = it.field-0-is in cc)) c.refused.ensures.stage c.refused.ensures.told

pub returns-in-Err-clause-moves : goal.returns-in-Err-clause-moves
returns-in-Err-clause-moves g c = λ site purse.
    let port = g.L.Link in
    moves_to_want site (port.left c.args.link.now) (port.left c.next.new.link) (port.given c.args.link.now) (port.given c.next.new.link) c.args.self.now.reader c.next.new.self
    c.args.trail.now purse (port.faults c.args.link.now) (port.faults c.next.new.link) c.in-Err.ensures.kept c.next.ensures.given (c.in-Err.ensures.quiet (λ no. cc))
