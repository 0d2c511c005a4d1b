use Rattle.std.proofs.Common.{◌≡◌, true, filter}
use Rattle.std.specs.List.{list_all}
use Rattle.session_attrs.specs.Serving.{can_serve}
use Rattle.bosh_server.proofs.crew.served_hosts.Given as goal

abbrev pub invariant-loop-host : goal.invariant-loop-host
invariant-loop-host l = record {
  hosts : l.served.items ≡ filter can_serve l.yielded;
  serve : list_all can_serve l.served.items ≡ true;
}
