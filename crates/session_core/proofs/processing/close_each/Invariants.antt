use Rattle.std.proofs.Common.{◌≡◌, ◌++◌, map, take}
use Rattle.bosh_types.specs.declared.inward.Inward.TheVariants.{Close}
use Rattle.session_core.proofs.processing.close_each.Given as goal

-- it went inward for so many of the streams
abbrev pub invariant-loop-place : goal.invariant-loop-place
invariant-loop-place l = l.inbox ≡ l.fn.inbox ++ map (Close) (take l.place l.targets)
