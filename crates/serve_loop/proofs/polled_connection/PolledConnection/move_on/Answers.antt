use Rattle.std.proofs.Common.{sym, subst}
use Rattle.std.specs.Io.KnownBytes.{prepend_known}
use Rattle.serve_loop.specs.declared.connection.Stage.TheVariants as stages
use Rattle.parked_gate.specs.Passes.{known}
use Rattle.serve_loop.specs.Connections.{outside}
use Rattle.serve_loop.specs.Stepping.{IsNextAt, Steps}
use Rattle.serve_loop.specs.Trail.{setting}
use Rattle.serve_loop.proofs.ConnectionLemmas.{after_write}
use Rattle.serve_loop.proofs.SteppingLemmas.{step_whole}
use Rattle.serve_loop.proofs.DrawingLemmas.{draws_beside, draws_still}
use Rattle.serve_loop.proofs.polled_connection.PolledConnection.move_on.Goals as goal

pub returns-in-Reading-clause-moves : goal.returns-in-Reading-clause-moves
returns-in-Reading-clause-moves g c =
    let port = g.K.Polled in
    let site = setting c.args.site.now.hosts.now c.args.site.now.limits (g.C.Clock.moment c.args.site.now.clock.now) in
    let purse = c.args.worker.now.purse in
    let old = outside c.args.self.now.reader (port.left c.args.link.now) (port.given c.args.link.now) c.args.worker.now.trail purse (port.faults c.args.link.now) in
    let new = outside c.read.new.self.reader (port.left c.read.new.link) (port.given c.read.new.link) c.read.new.trail purse (port.faults c.read.new.link) in
    subst (λ stage. Steps site old new (record { stage = stage; place = c.args.standing.place }) c.read.result.standing) (sym c.in-Reading.is) (c.read.ensures.moves site purse)

pub returns-in-Owing-clause-moves : goal.returns-in-Owing-clause-moves
returns-in-Owing-clause-moves g c =
    let port = g.K.Polled in
    let site = setting c.args.site.now.hosts.now c.args.site.now.limits (g.C.Clock.moment c.args.site.now.clock.now) in
    let purse = c.args.worker.now.purse in
    let trail = c.args.worker.now.trail in
    let kept = c.args.self.now.reader in
    let old = outside kept (port.left c.args.link.now) (port.given c.args.link.now) trail purse (port.faults c.args.link.now) in
    let new = outside kept (port.left c.give.new.link) (port.given c.give.new.link) trail purse (port.faults c.give.new.link) in
    subst (λ stage. Steps site old new (record { stage = stage; place = c.args.standing.place }) c.give.result.standing) (sym c.in-Owing.is) (c.give.ensures.moves site purse trail kept)

pub returns-in-Asked-clause-moves : goal.returns-in-Asked-clause-moves
returns-in-Asked-clause-moves g c =
    let port = g.K.Polled in
    let site = setting c.args.site.now.hosts.now c.args.site.now.limits (g.C.Clock.moment c.args.site.now.clock.now) in
    let link = c.args.link.now in
    let old = c.args.worker.now in
    let new = c.ask.new.worker in
    let stream = prepend_known c.args.self.now.reader (port.left link) in
    step_whole site (after_write stream (port.given link) old.trail old.purse (port.faults link)) (after_write stream (port.given link) new.trail new.purse (port.faults link))
    c.args.standing c.at.result.standing (stages.Asked c.in-Asked.body c.in-Asked.closing) c.ask.result c.in-Asked.is (λ start stands. stands) c.at.ensures.stage c.at.ensures.place
    (c.ask.ensures.moves stream (port.given link) (port.faults link))

pub returns-in-Reading-clause-stays : goal.returns-in-Reading-clause-stays
returns-in-Reading-clause-stays g c = λ is. c.read.ensures.stays is c.args.worker.now.purse

pub returns-in-Owing-clause-held : goal.returns-in-Owing-clause-held
returns-in-Owing-clause-held g c = c.give.ensures.held c.args.worker.now.purse

pub returns-in-Owing-clause-next : goal.returns-in-Owing-clause-next
returns-in-Owing-clause-next g c = λ on.
    let kept = c.args.self.now.reader in
    subst (λ stage. IsNextAt kept kept c.args.standing.place stage c.give.result.standing) (sym c.in-Owing.is) (c.give.ensures.next kept kept on)

pub returns-in-Owing-clause-stays : goal.returns-in-Owing-clause-stays
returns-in-Owing-clause-stays g c = λ is. c.give.ensures.stays is c.args.worker.now.purse c.args.worker.now.trail c.args.self.now.reader

pub returns-in-Reading-clause-drawn : goal.returns-in-Reading-clause-drawn
returns-in-Reading-clause-drawn g c = draws_still (g.M.Names.drawn c.args.tools.now.names) (known c.args.worker.now.purse.directory)

pub returns-in-Owing-clause-drawn : goal.returns-in-Owing-clause-drawn
returns-in-Owing-clause-drawn g c = draws_still (g.M.Names.drawn c.args.tools.now.names) (known c.args.worker.now.purse.directory)

pub returns-in-Over-clause-drawn : goal.returns-in-Over-clause-drawn
returns-in-Over-clause-drawn g c = draws_still (g.M.Names.drawn c.args.tools.now.names) (known c.args.worker.now.purse.directory)

pub returns-in-Waiting-clause-drawn : goal.returns-in-Waiting-clause-drawn
returns-in-Waiting-clause-drawn g c = draws_beside (g.M.Names.drawn c.args.tools.now.names) c.args.worker.now.purse c.collected.new.worker.purse c.collected.ensures.directory
