-- What the code keeps of a world stands for the plain one.
use Rattle.std.specs.Prelude.{◌≡◌, ℕ, ⊤, List, Option, Some, None, map}
use Rattle.bosh_client.specs.PlainClient.{bytes_of}
use Rattle.bosh_client.specs.Promises.{Begins}
use Rattle.bosh_client.specs.StandsFor.{StandsFor}
use Rattle.two_ends.specs.declared.manager.Manager.{Manager}
use Rattle.two_ends.specs.declared.world.World.{World}
use Rattle.two_ends.specs.declared.world.Written.{Written}
use Rattle.two_ends.specs.Counting.{IsPassedOn}
use Rattle.two_ends.specs.Stands.{IsManager}
use Rattle.two_ends.specs.Summed.{IsCounted}
use Rattle.world_laws.specs.Manager.{PlainManager}
use Rattle.world_laws.specs.declared.seen.SeenItem.{SeenItem}
use Rattle.world_laws.specs.Promises.{content_on, lying_on, seen_handed, seen_inward, was_given, was_made}
use Rattle.world_laws.specs.Sound.{sent_of}
use Rattle.world_laws.specs.declared.event.WorldEvent.{WorldEvent}
use Rattle.world_laws.specs.Steps.{Step, after, report}
use Rattle.world_laws.specs.Sums.{sums_of}
use Rattle.world_laws.specs.World.{PlainWorld}

-- there is a manager in both, or in neither
abbrev pub IsEnd : Option Manager → Option PlainManager → Type 0
IsEnd None None = ⊤
IsEnd None (Some m) = ⊥
IsEnd (Some manager) None = ⊥
IsEnd (Some manager) (Some m) = IsManager manager m

-- an answer beside its id
abbrev pub pair_of : Written → ℕ × List ℕ
pair_of written = (written.rid, written.body)

-- all but the manager: the bodies of the requests are kept in the order of ids
pub record IsRest (world : World) (w : PlainWorld) : Type 0 where
  pub host_is : world.site.host ≡ w.host
  pub greeting_is : world.site.greeting ≡ w.greeting
  pub moment_is : world.moment ≡ w.moment
  pub first_is : world.first ≡ w.client.setup.first
  pub client : StandsFor world.client w.client
  pub sent_are : world.sent.items ≡ map bytes_of w.client.requests
  pub network_is : w.sent ≡ map sent_of w.client.requests
  pub written_are : map pair_of world.written.items ≡ w.written

-- the world stands for the plain one, but for its sums
pub record IsPlain (world : World) (w : PlainWorld) : Type 0 where
  pub rest : IsRest world w
  pub end : IsEnd world.manager w.manager

-- this was seen of a step, and this is the world after it
pub record IsPlainStep (seen : List SeenItem) (world : World) (step : Step) : Type 0 where
  pub seen_is : seen ≡ step.seen
  pub world_is : IsPlain world step.after

-- and its sums are those of the plain one
pub record IsWorld (world : World) (w : PlainWorld) : Type 0 where
  pub plain : IsPlain world w
  pub sums_are : IsCounted world.sums (sums_of w)
  pub is_passed_on : IsPassedOn w.manager

-- the same of the whole world
pub record IsStep (seen : List SeenItem) (world : World) (step : Step) : Type 0 where
  pub seen_is : seen ≡ step.seen
  pub world_is : IsWorld world step.after

-- this was seen of events, and this is the world after them
pub record IsRun (told : List (List SeenItem)) (world : World) (w : PlainWorld) (events : List WorldEvent) : Type 0 where
  pub report_is : told ≡ report w events
  pub world_is : IsWorld world (after w events)

-- on each stream, what was seen to be passed on is a beginning of what the client made for it, and what was seen to be handed out of what
-- the server gave
pub record ShowsBothPrefixes (w : PlainWorld) (items : List SeenItem) : Type 0 where
  pub inward_is : (stream : ℕ) → Begins (content_on stream (seen_inward items)) (was_made w stream)
  pub handed_is : (stream : ℕ) → Begins (lying_on stream (seen_handed items)) (was_given w stream)
