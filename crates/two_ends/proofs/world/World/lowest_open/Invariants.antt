use Rattle.two_ends.proofs.AskLemmas.{Looked}
use Rattle.two_ends.proofs.world.World.lowest_open.Given as goal

abbrev pub invariant-loop-place : goal.invariant-loop-place
invariant-loop-place l = Looked l.self l.place
