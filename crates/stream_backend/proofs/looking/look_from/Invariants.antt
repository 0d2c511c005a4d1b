use Rattle.stream_backend.specs.Lines.{AreStill}
use Rattle.stream_backend.proofs.looking.look_from.Given as goal

abbrev pub invariant-loop-at : goal.invariant-loop-at
invariant-loop-at g l = AreStill l.fn.from l.at l.fn.lines.items l.lines.items
