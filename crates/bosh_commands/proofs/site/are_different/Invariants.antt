use Rattle.std.proofs.Common.{◌≡◌, length, map}
use Rattle.bosh_commands.specs.Site.{are_different}
use Rattle.bosh_commands.proofs.site.are_different.Given as goal

abbrev pub invariant-loop-left : goal.invariant-loop-left
invariant-loop-left l = are_different (map (λ v. v.now) l.names) ≡ are_different (map (λ v. v.now) l.left)

abbrev pub decreases-loop-left : goal.decreases-loop-left
decreases-loop-left l = length l.left
