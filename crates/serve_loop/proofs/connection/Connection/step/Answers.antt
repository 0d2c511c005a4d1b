use Rattle.std.proofs.Common.{subst}
use Rattle.serve_loop.specs.Connections.{Moves, outside}
use Rattle.serve_loop.specs.Trail.{setting}
use Rattle.serve_loop.proofs.connection.Connection.step.Goals as goal

pub returns-clause-moves : goal.returns-clause-moves
returns-clause-moves g c =
    let port = g.L.Link in
    let site = setting c.args.site.now.hosts.now c.args.site.now.limits (g.C.Clock.moment c.args.site.now.clock.now) in
    let old = c.args.worker.now in
    let new = c.move_on.new in
    let before = outside c.args.self.now.reader (port.left c.args.link.now) (port.given c.args.link.now) old.trail old.purse (port.faults c.args.link.now) in
    let after = outside new.self.reader (port.left new.link) (port.given new.link) new.worker.trail new.worker.purse (port.faults new.link) in
    subst (λ stage. Moves site before after stage c.move_on.result) c.replace-stage.ensures.value c.move_on.ensures.moves
