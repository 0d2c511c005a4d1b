use Rattle.std.proofs.Common.{◌≡◌, ◌++◌, take}
use Rattle.body_cutter.specs.Ends.{last_bytes}
use Rattle.body_cutter.proofs.tail.Tail.grow.Given as goal

abbrev pub invariant-loop-b : goal.invariant-loop-b
invariant-loop-b l = l.self ≡ last_bytes (l.fn.self ++ take l.b-index l.piece)
