use Rattle.std.proofs.Common.{ℕ, List, drop}
use Rattle.bosh_client.specs.declared.setup.ClientSetup.{ClientSetup}
use Rattle.world_laws.specs.Setup.{IsWorldSetup}
use Rattle.world_laws.specs.World.{new_world}
use Rattle.two_ends.specs.Worlds.{IsWorld}
use Rattle.two_ends.proofs.TimingLemmas.{IsSoFar}
use Rattle.two_ends.proofs.world.World.all_in_time.Given as goal

-- those that happened came in time, and whether all do is whether those that are left do
abbrev pub invariant-loop-event : goal.invariant-loop-event
invariant-loop-event l =
    (host : List ℕ) (greeting : List (List ℕ)) (setup : ClientSetup) → IsWorldSetup host greeting setup → IsWorld l.fn.self (new_world host greeting setup)
    → IsSoFar l.self (new_world host greeting setup) l.events (drop l.event-index l.events)
