use Rattle.std.proofs.Common.{take}
use Rattle.std.specs.Prelude.{flat_map}
use Rattle.body_cutter.specs.Feeding.{StandsFor}
use Rattle.body_cutter.proofs.cutter.cut_pieces.Given as goal

-- the cutter stands for the pieces so far
abbrev pub invariant-loop-piece : goal.invariant-loop-piece
invariant-loop-piece l = StandsFor l.cutter (flat_map (λ piece. piece.items) (take l.piece-index l.pieces))
