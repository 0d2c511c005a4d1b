-- Where a wire's stream stands, and what calls do to it.
use Rattle.std.specs.Prelude.{◌≡◌, ◌⊎◌, ℕ, ◌+◌, ◌-◌, ◌^◌, ◌<◌, Bool, true, false, List, length, min}
use Rattle.bosh_ports.specs.Faults.{HasRisen}
use Rattle.bosh_types.specs.declared.inward.Inward.{Inward}
use Rattle.xmpp_stream.specs.Wire.{TakesAtLeast}
use Rattle.stream_backend.specs.declared.stage.Stage.{Stage}
use Rattle.stream_backend.specs.declared.stage.Stage.TheVariants as stages
use Rattle.stream_backend.specs.declared.stage.Found.{Found}
use Rattle.stream_backend.specs.declared.stage.Found.TheVariants as found
use Rattle.stream_backend.specs.Flow.{Ends, Fails, Flow, GivesOne, GoesOn, Stays, closed_with, passed_on}

-- a stream is open until it is closed from this end
abbrev pub IsStage : Stage Flow → Type 0
IsStage (stages.Open flow) = flow.outgoing.closed ≡ false
IsStage (stages.Leaving flow until) = flow.outgoing.closed ≡ true
IsStage stages.Failed = Unit {0}
IsStage stages.Over = Unit {0}

-- how many bytes a wire owes at most
abbrev pub most_owed : ℕ
most_owed = 4194304

-- a stream that is closed from this end at this moment is read on for two seconds
abbrev pub leaves_until : ℕ → ℕ
leaves_until now = min (now + 2000) (2 ^ 64 - 1)

-- an item is passed on an open stream, and let go of on another
abbrev pub StagePasses : Inward → Stage Flow → Stage Flow → Type 0
StagePasses item (stages.Open flow) new = (owed : List ℕ) × (new ≡ stages.Open (passed_on owed item flow))
StagePasses item (stages.Leaving flow until) new = new ≡ stages.Leaving flow until
StagePasses item stages.Failed new = new ≡ stages.Failed
StagePasses item stages.Over new = new ≡ stages.Over

-- too much is owed
abbrev pub OwesTooMuch : Stage Flow → Type 0
OwesTooMuch (stages.Open flow) = most_owed < length flow.outgoing.owed
OwesTooMuch (stages.Leaving flow until) = ⊥
OwesTooMuch stages.Failed = ⊥
OwesTooMuch stages.Over = ⊥

-- an open stream is closed, and of one that failed nothing is left
abbrev pub StageCloses : ℕ → Stage Flow → Stage Flow → Type 0
StageCloses now (stages.Open flow) new = (owed : List ℕ) × (new ≡ stages.Leaving (closed_with owed flow) (leaves_until now))
StageCloses now (stages.Leaving flow until) new = new ≡ stages.Leaving flow until
StageCloses now stages.Failed new = new ≡ stages.Over
StageCloses now stages.Over new = new ≡ stages.Over

-- an open stream leaves from now on
abbrev pub left_from : ℕ → Stage Flow → Stage Flow
left_from now (stages.Open flow) = stages.Leaving flow (leaves_until now)
left_from now (stages.Leaving flow until) = stages.Leaving flow until
left_from now stages.Failed = stages.Failed
left_from now stages.Over = stages.Over

-- what a look at an open stream finds; at one that is held it reads nothing
abbrev pub OpenFinds : Found → Bool → Flow → Flow → Type 0
OpenFinds found.Quiet held old new = Stays old new
OpenFinds found.Busy held old new = Stays old new × TakesAtLeast 128 old.left new.left
OpenFinds (found.Item text) held old new = GivesOne text old new × (held ≡ false)
OpenFinds (found.Ended closing) held old new = Ends closing old new × (held ≡ false)
OpenFinds found.Failed held old new = Stays old new × (HasRisen old.faults new.faults ⊎ ((held ≡ false) × Fails old new))
OpenFinds found.Gone held old new = ⊥

-- at one that leaves
abbrev pub LeavingFinds : Found → Flow → Flow → Type 0
LeavingFinds found.Quiet old new = GoesOn old new
LeavingFinds found.Busy old new = GoesOn old new
LeavingFinds (found.Item text) old new = ⊥
LeavingFinds (found.Ended closing) old new = ⊥
LeavingFinds found.Failed old new = ⊥
LeavingFinds found.Gone old new = GoesOn old new

-- at one that failed, which is told where it isn't held
abbrev pub FailedFinds : Found → Bool → Type 0
FailedFinds found.Quiet held = held ≡ true
FailedFinds found.Busy held = ⊥
FailedFinds (found.Item text) held = ⊥
FailedFinds (found.Ended closing) held = ⊥
FailedFinds found.Failed held = held ≡ false
FailedFinds found.Gone held = ⊥

abbrev pub Finds : Found → Bool → Stage Flow → Stage Flow → Type 0
Finds what held (stages.Open flow) new = (after : Flow) × (new ≡ stages.Open after) × OpenFinds what held flow after
Finds what held (stages.Leaving flow until) new = (after : Flow) × (new ≡ stages.Leaving after until) × LeavingFinds what flow after
Finds what held stages.Failed new = (new ≡ stages.Failed) × FailedFinds what held
Finds what held stages.Over new = (new ≡ stages.Over) × (what ≡ found.Quiet)

-- there was no memory to look at an open stream
abbrev pub Wants : Stage Flow → Stage Flow → Type 0
Wants (stages.Open flow) new = (after : Flow) × (new ≡ stages.Open after) × Stays flow after
Wants (stages.Leaving flow until) new = ⊥
Wants stages.Failed new = ⊥
Wants stages.Over new = ⊥
