-- The hosts of a script.
use Rattle.std.specs.Prelude.{ℕ, ◌&&◌, Bool, not, nat_lt, List, length}
use Rattle.std.specs.List.{list_any}
use Rattle.std.specs.Str.{bytes_eq}
use Rattle.bosh_types.specs.declared.hosts.HostName.{HostName}

-- one more of this name may come: it is new, and the sixteenth at most
abbrev pub takes_name : List HostName → List ℕ → Bool
takes_name hosts name = nat_lt (length hosts) 16 && not (list_any (λ host. bytes_eq host.name name) hosts)
