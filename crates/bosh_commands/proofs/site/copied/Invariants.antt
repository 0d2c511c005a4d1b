use Rattle.std.proofs.Common.{◌≡◌, ◌++◌, length, map}
use Rattle.bosh_commands.proofs.site.copied.Given as goal

abbrev pub invariant-loop-left : goal.invariant-loop-left
invariant-loop-left l = l.copies.items ++ map (λ v. v.now) l.left ≡ map (λ v. v.now) l.names

abbrev pub decreases-loop-left : goal.decreases-loop-left
decreases-loop-left l = length l.left
