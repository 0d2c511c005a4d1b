use Rattle.std.proofs.Common.{◌≡◌, length, map}
use Rattle.bosh_commands.specs.Site.{is_among}
use Rattle.bosh_commands.proofs.site.is_among.Given as goal

abbrev pub invariant-loop-left : goal.invariant-loop-left
invariant-loop-left l = is_among l.name (map (λ v. v.now) l.names) ≡ is_among l.name (map (λ v. v.now) l.left)

abbrev pub decreases-loop-left : goal.decreases-loop-left
decreases-loop-left l = length l.left
