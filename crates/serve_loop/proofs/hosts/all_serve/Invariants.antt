use Rattle.std.proofs.Common.{◌≡◌, drop}
use Rattle.std.specs.List.{list_all}
use Rattle.session_attrs.specs.Serving.{can_serve}
use Rattle.serve_loop.proofs.hosts.all_serve.Given as goal

-- at all a session can be opened exactly where one can at those that are left
abbrev pub invariant-loop-host : goal.invariant-loop-host
invariant-loop-host l = list_all can_serve l.hosts ≡ list_all can_serve (drop l.host-index l.hosts)
