use Rattle.std.proofs.Common.{◌≡◌, ◌≤◌, ◌+◌, ◌-◌, drop, length}
use Rattle.body_cutter.specs.Reading.{state_of}
use Rattle.body_cutter.specs.Refusal.{reading}
use Rattle.body_cutter.proofs.feeding.read_piece.Given as goal

-- what is left, read from here, is what the whole piece is
abbrev pub invariant-loop-at : goal.invariant-loop-at
invariant-loop-at l =
    record { within : l.at ≤ length l.piece; reads : reading l.start (state_of l.fn.reader) l.piece ≡ reading (l.start + l.at) (state_of l.reader) (drop l.at l.piece) }

abbrev pub decreases-loop-at : goal.decreases-loop-at
decreases-loop-at l = length l.initial.piece - l.at
