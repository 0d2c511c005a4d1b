use Rattle.std.proofs.Common.{◌≡◌, length}
use Rattle.bosh_http.specs.Target.{after_blank}
use Rattle.bosh_http.proofs.target.after_blank.Given as goal

abbrev pub invariant-loop-left : goal.invariant-loop-left
invariant-loop-left l = after_blank l.bytes ≡ after_blank l.left

abbrev pub decreases-loop-left : goal.decreases-loop-left
decreases-loop-left l = length l.left
