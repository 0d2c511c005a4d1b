use Rattle.std.proofs.Common.{sym, subst}
use Rattle.parked_gate.specs.Passes.{known}
use Rattle.serve_loop.specs.Connections.{Moves, outside}
use Rattle.serve_loop.specs.Trail.{setting}
use Rattle.serve_loop.proofs.DrawingLemmas.{draws_beside, draws_still}
use Rattle.serve_loop.proofs.connection.Connection.move_on.Goals as goal

pub returns-in-Reading-clause-moves : goal.returns-in-Reading-clause-moves
returns-in-Reading-clause-moves g c =
    let port = g.L.Link in
    let site = setting c.args.site.now.hosts.now c.args.site.now.limits (g.C.Clock.moment c.args.site.now.clock.now) in
    let purse = c.args.worker.now.purse in
    let old = outside c.args.self.now.reader (port.left c.args.link.now) (port.given c.args.link.now) c.args.worker.now.trail purse (port.faults c.args.link.now) in
    let new = outside c.read.new.self.reader (port.left c.read.new.link) (port.given c.read.new.link) c.read.new.trail purse (port.faults c.read.new.link) in
    subst (λ stage. Moves site old new stage c.read.result) (sym c.in-Reading.is) (c.read.ensures.moves site purse)

pub returns-in-Owing-clause-moves : goal.returns-in-Owing-clause-moves
returns-in-Owing-clause-moves g c =
    let port = g.L.Link in
    let site = setting c.args.site.now.hosts.now c.args.site.now.limits (g.C.Clock.moment c.args.site.now.clock.now) in
    let purse = c.args.worker.now.purse in
    let trail = c.args.worker.now.trail in
    let old = outside c.args.self.now.reader (port.left c.args.link.now) (port.given c.args.link.now) trail purse (port.faults c.args.link.now) in
    let new = outside c.write.new.self.reader (port.left c.write.new.link) (port.given c.write.new.link) trail purse (port.faults c.write.new.link) in
    subst (λ stage. Moves site old new stage c.write.result) (sym c.in-Owing.is) (c.write.ensures.moves site purse trail)

pub returns-in-Reading-clause-held : goal.returns-in-Reading-clause-held
returns-in-Reading-clause-held g c = c.read.ensures.held c.args.worker.now.purse

pub returns-in-Owing-clause-held : goal.returns-in-Owing-clause-held
returns-in-Owing-clause-held g c = c.write.ensures.held c.args.worker.now.purse

pub returns-in-Reading-clause-drawn : goal.returns-in-Reading-clause-drawn
returns-in-Reading-clause-drawn g c = draws_still (g.M.Names.drawn c.args.tools.now.names) (known c.args.worker.now.purse.directory)

pub returns-in-Owing-clause-drawn : goal.returns-in-Owing-clause-drawn
returns-in-Owing-clause-drawn g c = draws_still (g.M.Names.drawn c.args.tools.now.names) (known c.args.worker.now.purse.directory)

pub returns-in-Over-clause-drawn : goal.returns-in-Over-clause-drawn
returns-in-Over-clause-drawn g c = draws_still (g.M.Names.drawn c.args.tools.now.names) (known c.args.worker.now.purse.directory)

pub returns-in-Waiting-clause-drawn : goal.returns-in-Waiting-clause-drawn
returns-in-Waiting-clause-drawn g c = draws_beside (g.M.Names.drawn c.args.tools.now.names) c.args.worker.now.purse c.collected.new.worker.purse c.collected.ensures.directory
