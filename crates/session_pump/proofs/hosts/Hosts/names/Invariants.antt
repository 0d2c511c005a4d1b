use Rattle.std.proofs.Common.{◌≡◌, map, take}
use Rattle.session_pump.proofs.hosts.Hosts.names.Given as goal

abbrev pub invariant-loop-stand : goal.invariant-loop-stand
invariant-loop-stand g l = l.names.items ≡ map (λ stand. record { name = stand.host.name; greeting = stand.host.greeting }) (take l.stand-index l.self.stands.items)
