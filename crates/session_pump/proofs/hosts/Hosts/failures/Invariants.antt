use Rattle.std.proofs.Common.{◌≡◌, map, take}
use Rattle.session_pump.proofs.hosts.Hosts.failures.Given as goal

abbrev pub invariant-loop-stand : goal.invariant-loop-stand
invariant-loop-stand g l = l.counts.items ≡ map (λ stand. stand.failures) (take l.stand-index l.self.stands.items)
