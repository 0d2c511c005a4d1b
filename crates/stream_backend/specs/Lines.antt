-- One wire, and what a look at it tells.
use Rattle.std.specs.Prelude.{◌≡◌, ◌≢◌, ◌⊎◌, ℕ, ◌<◌, ◌≤◌, Bool, true, false, List, length, slice_index_or}
use Rattle.bosh_ports.specs.Faults.{HasRisen}
use Rattle.bosh_types.specs.declared.ending.Closing.{Closing}
use Rattle.bosh_types.specs.declared.ending.Closing.TheVariants.{RemoteConnectionFailed}
use Rattle.xmpp_backend.specs.Told.{Told}
use Rattle.xmpp_stream.specs.Wire.{TakesAtLeast}
use Rattle.stream_backend.specs.declared.stage.Stage.{Stage}
use Rattle.stream_backend.specs.declared.stage.Stage.TheVariants as stages
use Rattle.stream_backend.specs.declared.stage.Found.{Found}
use Rattle.stream_backend.specs.declared.looking.Look.{Look}
use Rattle.stream_backend.specs.declared.looking.Look.TheVariants as looks
use Rattle.stream_backend.specs.Flow.{Ends, Fails, Flow, GivesOne, GoesOn, Stays}
use Rattle.stream_backend.specs.Stages.{Finds, Wants}

-- its wire and its stage, whether it is held, and whether something may have happened since there was nothing to be had; and what was
-- told when the wire was opened
pub record Line : Type 0 where
  pub wire : ℕ
  pub stage : Stage Flow
  pub held : Bool
  pub noisy : Bool
  pub before : Told

-- the wire is the same, held as before, and what was told at its opening is
pub record IsSameLine (old new : Line) : Type 0 where
  pub wire : new.wire ≡ old.wire
  pub held : new.held ≡ old.held
  pub before : new.before ≡ old.before

-- what was found at a line that stood so before
pub record FindsLine (what : Found) (old new : Line) : Type 0 where
  pub same : IsSameLine old new
  pub noisy : new.noisy ≡ old.noisy
  pub stage : Finds what old.held old.stage new.stage

pub record WantsLine (old new : Line) : Type 0 where
  pub same : IsSameLine old new
  pub stage : Wants old.stage new.stage

-- an open stream goes on, or failed while it was held, which is still to be told
abbrev pub Rests : Bool → Flow → Stage Flow → Type 0
Rests held flow new =
    ((after : Flow) × (new ≡ stages.Open after) × Stays flow after)
    ⊎ ((new ≡ stages.Failed) × (held ≡ true) × ((after : Flow) × HasRisen flow.faults after.faults))

-- what is told of an open stream
abbrev pub OpenTells : Look → Bool → Flow → Stage Flow → Type 0
OpenTells looks.Nothing held flow new = Rests held flow new
OpenTells (looks.Item text) held flow new = (held ≡ false) × ((after : Flow) × (new ≡ stages.Open after) × GivesOne text flow after)
OpenTells (looks.Closed closing) held flow new =
    (held ≡ false)
    × (((after : Flow) × (until : ℕ) × (new ≡ stages.Leaving after until) × Ends closing flow after)
    ⊎ ((closing ≡ RemoteConnectionFailed) × (new ≡ stages.Over) × ((after : Flow) × Fails flow after)))
OpenTells looks.NoMemory held flow new = (after : Flow) × (new ≡ stages.Open after) × Stays flow after

-- of one that leaves nothing is
abbrev pub LeavingTells : Look → Flow → ℕ → Stage Flow → Type 0
LeavingTells looks.Nothing flow until new = ((after : Flow) × (new ≡ stages.Leaving after until) × GoesOn flow after) ⊎ (new ≡ stages.Over)
LeavingTells (looks.Item text) flow until new = ⊥
LeavingTells (looks.Closed closing) flow until new = ⊥
LeavingTells looks.NoMemory flow until new = ⊥

-- of one that failed just that, once it isn't held
abbrev pub FailedTells : Look → Bool → Stage Flow → Type 0
FailedTells looks.Nothing held new = (held ≡ true) × (new ≡ stages.Failed)
FailedTells (looks.Item text) held new = ⊥
FailedTells (looks.Closed closing) held new = (held ≡ false) × (closing ≡ RemoteConnectionFailed) × (new ≡ stages.Over)
FailedTells looks.NoMemory held new = ⊥

abbrev pub StageTells : Look → Bool → Stage Flow → Stage Flow → Type 0
StageTells look held (stages.Open flow) new = OpenTells look held flow new
StageTells look held (stages.Leaving flow until) new = LeavingTells look flow until new
StageTells look held stages.Failed new = FailedTells look held new
StageTells look held stages.Over new = (look ≡ looks.Nothing) × (new ≡ stages.Over)

-- there is nothing more to be had: nothing may have happened since, or much was taken of an open stream in this call; of a stream that
-- was closed nothing is told, and one that failed is told of once it isn't held
pub data IsStill (old new : Line) : Type 0 where
  quiet : new.noisy ≡ false → (new.stage ≡ stages.Failed → new.held ≡ true) → IsStill old new
  busy : (flow after : Flow) → old.stage ≡ stages.Open flow → new.stage ≡ stages.Open after → TakesAtLeast 128 flow.left after.left → IsStill old new
  leaving : (flow : Flow) (until : ℕ) → new.stage ≡ stages.Leaving flow until → IsStill old new
  over : new.stage ≡ stages.Over → IsStill old new

-- what a look at a line tells
pub record Tells (look : Look) (old new : Line) : Type 0 where
  pub same : IsSameLine old new
  pub stage : StageTells look old.held old.stage new.stage
  pub still : look ≡ looks.Nothing → IsStill old new

-- the lines between two places were looked at and have nothing to tell, and the others are as before
pub record AreStill (from to : ℕ) (old new : List Line) : Type 0 where
  pub count : length new ≡ length old
  pub looked : (k : ℕ) (d : Line) → from ≤ k → k < to → k < length old → Tells looks.Nothing (slice_index_or old k d) (slice_index_or new k d)
  pub others : (k : ℕ) (d : Line) → (k < from) ⊎ (to ≤ k) → slice_index_or new k d ≡ slice_index_or old k d

-- so are those before this place, where the line has this to tell
pub record Sees (from at : ℕ) (look : Look) (wire : ℕ) (old new : List Line) : Type 0 where
  pub count : length new ≡ length old
  pub here : at < length old
  pub wire_is : (d : Line) → (slice_index_or old at d).wire ≡ wire
  pub tells : (d : Line) → Tells look (slice_index_or old at d) (slice_index_or new at d)
  pub looked : (k : ℕ) (d : Line) → from ≤ k → k < at → Tells looks.Nothing (slice_index_or old k d) (slice_index_or new k d)
  pub others : (k : ℕ) (d : Line) → (k < from) ⊎ (at < k) → slice_index_or new k d ≡ slice_index_or old k d
