use Rattle.std.proofs.Common.{◌≡◌, length, map}
use Rattle.std.specs.List.{list_all}
use Rattle.bosh_commands.specs.Site.{is_domain}
use Rattle.bosh_commands.proofs.site.can_all_be_domains.Given as goal

abbrev pub invariant-loop-left : goal.invariant-loop-left
invariant-loop-left l = list_all is_domain (map (λ v. v.now) l.names) ≡ list_all is_domain (map (λ v. v.now) l.left)

abbrev pub decreases-loop-left : goal.decreases-loop-left
decreases-loop-left l = length l.left
