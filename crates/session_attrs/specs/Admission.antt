-- Which host a request is for, XEP-0124 section 7.1.
use Rattle.std.specs.Prelude.{ℕ, ◌==◌, List, Option, None, Some, length, if◌then◌else◌}
use Rattle.std.specs.List.{position}
use Rattle.std.specs.Str.{bytes_eq}
use Rattle.bosh_types.specs.declared.hosts.HostName.{HostName}
use Rattle.session_attrs.specs.declared.admission.Admitted.{Admitted}
use Rattle.session_attrs.specs.declared.admission.Admitted.TheVariants.{Host, Improper, Unknown}

-- the place of the first host with this name
abbrev pub place_of : List ℕ → List HostName → Option ℕ
place_of name hosts = position (λ host. bytes_eq host.name name) hosts

abbrev pub host_at : Option ℕ → Admitted
host_at None = Unknown
host_at (Some place) = Host place

-- a request that names no host, or the empty one, is improper
abbrev pub admitted_of : Option (List ℕ) → List HostName → Admitted
admitted_of None hosts = Improper
admitted_of (Some name) hosts = if length name == 0 then Improper else host_at (place_of name hosts)
