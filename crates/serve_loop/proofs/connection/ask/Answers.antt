use Rattle.std.proofs.Common.{sym, subst}
use Rattle.serve_loop.specs.Connections.{Moves}
use Rattle.serve_loop.specs.Trail.{setting}
use Rattle.serve_loop.specs.declared.connection.Stage.TheVariants as stages
use Rattle.serve_loop.proofs.ConnectionLemmas.{after_write, moves_asked, moves_wanting}
use Rattle.serve_loop.proofs.connection.ask.Goals as goal

pub returns-in-Ok-clause-moves : goal.returns-in-Ok-clause-moves
returns-in-Ok-clause-moves g c stream given faults =
    let site = setting c.args.site.now.hosts.now c.args.site.now.limits (g.C.Clock.moment c.args.site.now.clock.now) in
    let old = c.args.worker.now in
    let new = c.answer.new.self in
    subst (Moves site (after_write stream given old.trail old.purse faults) (after_write stream given new.trail new.purse faults) (stages.Asked c.args.body c.args.closing))
    (sym c.stage_of.ensures)
    (moves_asked site stream given old.trail new.trail old.purse new.purse faults c.args.body c.args.closing c.in-Ok.answering c.in-Ok.ensures.answers)

pub returns-in-Err-clause-moves : goal.returns-in-Err-clause-moves
returns-in-Err-clause-moves g c stream given faults =
    moves_wanting _ stream given c.args.worker.now.trail c.answer.new.self.trail c.args.worker.now.purse c.answer.new.self.purse faults c.args.body c.args.closing
    c.in-Err.ensures.err c.in-Err.ensures.lost
