use Rattle.std.proofs.Common.{◌≡◌, length}
use Rattle.bosh_http.specs.Target.{after_token}
use Rattle.bosh_http.proofs.target.after_token.Given as goal

abbrev pub invariant-loop-left : goal.invariant-loop-left
invariant-loop-left l = after_token l.bytes ≡ after_token l.left

abbrev pub decreases-loop-left : goal.decreases-loop-left
decreases-loop-left l = length l.left
