use Rattle.std.proofs.Common.{subst}
use Rattle.serve_loop.specs.declared.polled_connection.Standing.{Standing}
use Rattle.serve_loop.specs.Connections.{outside}
use Rattle.serve_loop.specs.Stepping.{Steps}
use Rattle.serve_loop.specs.Trail.{setting}
use Rattle.serve_loop.proofs.polled_connection.PolledConnection.step.Goals as goal

pub returns-clause-moves : goal.returns-clause-moves
returns-clause-moves g c =
    let port = g.K.Polled in
    let site = setting c.args.site.now.hosts.now c.args.site.now.limits (g.C.Clock.moment c.args.site.now.clock.now) in
    let old = c.args.worker.now in
    let new = c.move_on-reached.new in
    let before = outside c.args.self.now.reader (port.left c.args.link.now) (port.given c.args.link.now) old.trail old.purse (port.faults c.args.link.now) in
    let after = outside new.self.reader (port.left new.link) (port.given new.link) new.worker.trail new.worker.purse (port.faults new.link) in
    subst (λ (standing : Standing). Steps site before after standing c.move_on-reached.result.standing) c.replace-standing.ensures.value c.move_on-reached.ensures.moves
