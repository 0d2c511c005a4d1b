use Rattle.stream_names.proofs.Numbers.{Cleared}
use Rattle.stream_names.proofs.set.StreamSet.remove_all.Given as goal

-- the places before this one were cleared
abbrev pub invariant-loop-place : goal.invariant-loop-place
invariant-loop-place l = Cleared l.fn.self l.others l.place l.self-inside.marks
