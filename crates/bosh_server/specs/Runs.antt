-- How a server ends, by the counts of its network.
use Rattle.std.specs.Prelude.{◌≡◌, ℕ, ◌-◌, ◌^◌, ◌<◌, ◌⊎◌, ◌==◌, ◌&&◌, nat_lt, min, if◌then◌else◌}
use Rattle.bosh_ports.specs.Faults.{HasRisen}
use Rattle.server_ports.specs.Counts.{Counts}
use Rattle.bosh_server.specs.declared.plan.Ran.{Ran}
use Rattle.bosh_server.specs.declared.plan.Ran.TheVariants as ran
use Rattle.bosh_server.specs.declared.yard.Phase.{Phase}
use Rattle.bosh_server.specs.declared.yard.Phase.TheVariants as phases

-- so many links were accepted, as far as a number of 32 bits can say that; a count at its type's end stands still. Nothing
-- else was counted but stops
pub record Accepts (old new : Counts) (links : ℕ) : Type 0 where
  pub counted : new.accepted < 2 ^ 64 - 1 → links ≡ min (new.accepted - old.accepted) (2 ^ 32 - 1)
  pub faults : new.faults ≡ old.faults
  pub dialled : new.dialled ≡ old.dialled

-- the network stopped, or as many links as were planned came; 0 plans no end
abbrev pub IsEnough : ℕ → Counts → Counts → ℕ → Type 0
IsEnough planned old new links = HasRisen old.stops new.stops ⊎ ((0 < planned) × (links ≡ planned))

-- what a server's answer says of its network: where no job could be started nothing was accepted
abbrev pub RunsBy : ℕ → Counts → Counts → Ran → Type 0
RunsBy planned old new (ran.Done links) = Accepts old new links × IsEnough planned old new links
RunsBy planned old new ran.NetFault = HasRisen old.faults new.faults
RunsBy planned old new ran.SpawnFault = new ≡ old

-- what the pump does while the last links are served: where as many came as were planned, these are served as ever; where the
-- network stopped or failed, it tells each live session that the server ends
abbrev pub while_last_are_served : ℕ → Ran → Phase
while_last_are_served planned (ran.Done links) = if nat_lt 0 planned && (links == planned) then phases.Serving else phases.Closing
while_last_are_served planned ran.NetFault = phases.Closing
while_last_are_served planned ran.SpawnFault = phases.Closing
