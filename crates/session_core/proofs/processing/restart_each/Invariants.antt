use Rattle.std.proofs.Common.{◌≡◌, ◌++◌, map, take}
use Rattle.bosh_types.specs.declared.inward.Inward.TheVariants.{Restart}
use Rattle.session_core.proofs.processing.restart_each.Given as goal

-- it went inward for so many of the streams
abbrev pub invariant-loop-place : goal.invariant-loop-place
invariant-loop-place l = l.inbox ≡ l.fn.inbox ++ map (Restart) (take l.place l.targets)
