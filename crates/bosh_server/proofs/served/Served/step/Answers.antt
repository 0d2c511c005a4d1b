use Rattle.std.proofs.Common.{subst, sym}
use Rattle.parked_gate.specs.Passes.{known}
use Rattle.serve_loop.specs.declared.worker.Worker.{Worker}
use Rattle.serve_loop.specs.Connections.{outside}
use Rattle.serve_loop.specs.Drawing.{OpensAsDrawn}
use Rattle.serve_loop.specs.Stepping.{StandsAt}
use Rattle.serve_loop.specs.Trail.{setting}
use Rattle.bosh_server.proofs.served.Served.step.Goals as goal

pub returns-clause-moves : goal.returns-clause-moves
returns-clause-moves g c = λ start stands.
    let port = g.L.Polled in
    let site = setting c.args.site.now.hosts.now c.args.site.now.limits (g.C.Clock.moment c.args.site.now.clock.now) in
    let stepped = c.step-moved.new in
    let counted = c.count_coming.new.self in
    let moved = c.count_coming.ensures.moves site
    (outside stepped.self.reader (port.left stepped.link) (port.given stepped.link) stepped.worker.trail stepped.worker.purse (port.faults stepped.link))
    start (c.step-moved.ensures.moves start stands) in
    let standing = counted.connection.standing in
    subst (λ reader. StandsAt site start (outside reader (port.left counted.link) (port.given counted.link) counted.worker.trail counted.worker.purse (port.faults counted.link)) standing.place standing.stage)
    (sym c.count_coming.ensures.reader)
    (subst (λ link. StandsAt site start (outside stepped.self.reader (port.left link) (port.given link) counted.worker.trail counted.worker.purse (port.faults link)) standing.place standing.stage)
    (sym c.count_coming.ensures.link)
    (subst (λ worker. StandsAt site start (outside stepped.self.reader (port.left stepped.link) (port.given stepped.link) worker.trail worker.purse (port.faults stepped.link)) standing.place standing.stage)
    (sym c.count_coming.ensures.worker) moved))

pub returns-clause-drawn : goal.returns-clause-drawn
returns-clause-drawn g c =
    subst (λ (w : Worker). OpensAsDrawn (g.M.Names.drawn c.args.tools.now.names) (g.M.Names.drawn c.step-moved.new.tools.names) (known c.args.self.now.worker.purse.directory) (known w.purse.directory))
    (sym c.count_coming.ensures.worker) c.step-moved.ensures.drawn
