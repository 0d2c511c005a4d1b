use Rattle.std.proofs.Common.{◌≡◌, map}
use Rattle.session_pump.specs.Ends.{fresh}
use Rattle.session_pump.proofs.hosts.Hosts.new.Given as goal

abbrev pub invariant-loop-host : goal.invariant-loop-host
invariant-loop-host g l = l.stands.items ≡ map fresh l.yielded
