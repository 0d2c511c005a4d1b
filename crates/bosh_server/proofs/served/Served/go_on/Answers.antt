use Rattle.std.proofs.Common.{arith}
use Rattle.parked_gate.specs.Passes.{known}
use Rattle.serve_loop.proofs.DrawingLemmas.{draws_on, draws_still}
use Rattle.bosh_server.proofs.served.Served.go_on.Goals as goal

pub returns-then-eq-clause-moves : goal.returns-then-eq-clause-moves
returns-then-eq-clause-moves g c = λ start stands. c.step.ensures.moves start (c.loop.invariant.moves start stands)

pub returns-then-rests-clause-moves : goal.returns-then-rests-clause-moves
returns-then-rests-clause-moves g c = λ start stands. c.step.ensures.moves start (c.loop.invariant.moves start stands)

pub loop-preserved : goal.loop-preserved
loop-preserved g c = record {
  pass = c.step.ensures.pass;
  held = c.step.ensures.held;
  moves = λ start stands. c.step.ensures.moves start (c.loop.invariant.moves start stands);
  drawn = draws_on _ _ _ _ _ _ c.loop.invariant.drawn c.step.ensures.drawn;
  faults = omega (arith, c.loop.invariant.faults, c.step.ensures.faults);
}

pub loop-init : goal.loop-init
loop-init g c = record {
  pass = c.requires.pass;
  held = c.requires.held;
  moves = λ start stands. stands;
  drawn = draws_still (g.M.Names.drawn c.args.tools.now.names) (known c.args.self.now.worker.purse.directory);
  faults = omega arith;
}

pub returns-then-eq-clause-drawn : goal.returns-then-eq-clause-drawn
returns-then-eq-clause-drawn g c = draws_on _ _ _ _ _ _ c.loop.invariant.drawn c.step.ensures.drawn

pub returns-then-rests-clause-drawn : goal.returns-then-rests-clause-drawn
returns-then-rests-clause-drawn g c = draws_on _ _ _ _ _ _ c.loop.invariant.drawn c.step.ensures.drawn

pub returns-then-self-clause-drawn : goal.returns-then-self-clause-drawn
returns-then-self-clause-drawn g c = draws_still (g.M.Names.drawn c.args.tools.now.names) (known c.args.self.now.worker.purse.directory)
