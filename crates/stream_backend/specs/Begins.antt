-- How a wire begins.
use Rattle.std.specs.Prelude.{◌≡◌, ◌⊎◌, ℕ, Bool, true, false, List, [], Option}
use Rattle.server_ports.specs.Counts.{Counts, HasFailed, added}
use Rattle.xmpp_backend.specs.Told.{Told}
use Rattle.xmpp_stream.specs.Wire.{Incoming, IsRead, IsWritten, Outgoing}
use Rattle.stream_backend.specs.declared.stage.Stage.{Stage}
use Rattle.stream_backend.specs.declared.stage.Stage.TheVariants as stages
use Rattle.stream_backend.specs.Flow.{Flow}
use Rattle.stream_backend.specs.Lines.{Line}

-- both ends of a stream before it has a link: its header is owed
pub record AreEnds (outgoing : Outgoing) (incoming : Incoming) : Type 0 where
  pub owed : (start : Option (List ℕ)) → IsWritten start start outgoing []
  pub taken : (start : Option (List ℕ)) → IsRead start start incoming []
  pub open_ : outgoing.closed ≡ false

-- a stream to this host on which nothing was passed yet and nothing came
pub record IsFresh (to : List ℕ) (flow : Flow) : Type 0 where
  pub to_is : flow.outgoing.to ≡ to
  pub open_ : flow.outgoing.closed ≡ false
  pub passed : flow.passed ≡ []
  pub came : flow.came ≡ []

-- it is open, or its link can't be watched
abbrev pub IsWatched : List ℕ → Stage Flow → Type 0
IsWatched to (stages.Open flow) = IsFresh to flow
IsWatched to (stages.Leaving flow until) = ⊥
IsWatched to stages.Failed = Unit {0}
IsWatched to stages.Over = ⊥

-- the stream is open over a new link, or the line has failed since the dial did, or since its link can't be watched
pub record Begins (to : List ℕ) (old new : Counts) (stage : Stage Flow) : Type 0 where
  pub is : (IsWatched to stage × (new.dialled ≡ added old.dialled 1)) ⊎ ((stage ≡ stages.Failed) × HasFailed old new)

-- the line of a wire that was opened when this was told
pub record BeginsLine (wire : ℕ) (before : Told) (to : List ℕ) (old new : Counts) (line : Line) : Type 0 where
  pub is : line ≡ record { wire = wire; stage = line.stage; held = false; noisy = true; before = before }
  pub begins : Begins to old new line.stage
