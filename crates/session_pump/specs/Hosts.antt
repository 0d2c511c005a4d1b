-- What is known of the hosts of a pump, and what changes of them.
use Rattle.std.specs.Prelude.{◌≡◌, ◌<◌, ℕ, List, length, Option, get_or, map, slice_set}
use Rattle.xmpp_backend.specs.Counts.{Counts}
use Rattle.xmpp_backend.specs.Told.{Told}
use Rattle.session_pump.specs.Ends.{Ends, ends_of}
use Rattle.session_pump.specs.declared.hosts.Hosts.{Hosts}
use Rattle.session_pump.specs.declared.hosts.Stand.{Stand}
use Rattle.session_pump.specs.declared.line.Owing.{Owing}

-- a host: what is kept of what its back end gave, and its back ends
pub record HostFacts : Type 0 where
  pub kept : Option Owing
  pub ends : Ends

-- by what its back ends tell and count
abbrev pub facts_of : {E : Type 0} → (E → Option Told) → (E → Counts) → Stand E → HostFacts
facts_of told counts stand = record { kept = stand.kept; ends = ends_of told counts stand }

abbrev pub hosts_of : {E : Type 0} → (E → Option Told) → (E → Counts) → Hosts E → List HostFacts
hosts_of told counts hosts = map (facts_of told counts) hosts.stands.items

-- the host at this place was this and is that, and the other hosts are as before
pub record HostTurns (place : ℕ) (old new : List HostFacts) (was is : HostFacts) : Type 0 where
  pub within : place < length old
  pub before : was ≡ get_or old place was
  pub after : new ≡ slice_set old place is
