use Rattle.std.proofs.Common.{sym, subst}
use Rattle.serve_loop.specs.Connections.{Moves}
use Rattle.serve_loop.specs.declared.connection.Stage.TheVariants as stages
use Rattle.serve_loop.proofs.ConnectionLemmas.{after_write, moves_collected}
use Rattle.serve_loop.proofs.connection.collected.Goals as goal

pub returns-clause-moves : goal.returns-clause-moves
returns-clause-moves g c site looked stream given faults =
    let old = c.args.worker.now in
    let new = c.collect.new.self in
    subst (Moves site (after_write stream given old.trail old.purse faults) (after_write stream given new.trail new.purse faults) (stages.Waiting c.args.waiting c.args.closing looked))
    (sym c.stage_of.ensures)
    (moves_collected site stream given old.trail new.trail old.purse new.purse faults c.args.waiting c.args.closing looked c.collect.result
    (λ body before waits. c.collect.ensures.collects site body before waits))
