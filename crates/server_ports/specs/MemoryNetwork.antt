-- A network in memory.
use Rattle.std.specs.Prelude.{ℕ, List, Option, map, Contains}
use Rattle.bosh_ports.specs.Memory.{counted_up}
use Rattle.server_ports.specs.declared.planned_link.Past.{Past}
use Rattle.server_ports.specs.declared.planned_link.Past.TheVariants as past
use Rattle.server_ports.specs.Counts.{Counts}
use Rattle.server_ports.specs.Events.{Event, Began, Retired}

-- the bytes of the links to come, the numbers of the calls that are to fail, how many calls were made, the counts, and what
-- became of its links
pub record Planned : Type 0 where
  pub plans : List (List ℕ)
  pub failing : List ℕ
  pub calls : ℕ
  pub counts : Counts
  pub events : Option (List Event)

-- the next call that can fail is one of those that are to
abbrev pub IsNextListed : Planned → Type 0
IsNextListed network = Contains network.failing (counted_up network.calls)

-- what is kept of a link tells what became of it
abbrev pub event_of : Past → Event
event_of (past.Began dialled stream) = Began dialled stream.items
event_of (past.Retired link) = Retired link.link.taking.bytes link.link.giving.bytes

abbrev pub events_of : List Past → List Event
events_of pasts = map event_of pasts
