-- A back end with a stream for each wire: its lines beside what it tells.
use Rattle.std.specs.Prelude.{◌≡◌, ◌≢◌, ◌⊎◌, ℕ, ◌<◌, ◌≤◌, ◌++◌, Bool, true, false, List, [], Option, All, Contains, length, map, slice_index_or}
use Rattle.bosh_types.specs.declared.inward.Inward.{Inward}
use Rattle.server_ports.specs.Counts as ports
use Rattle.server_ports.specs.Events.{Event}
use Rattle.xmpp_backend.specs.Counts.{Counts, counted_on}
use Rattle.xmpp_backend.specs.Told.{Told, closed_too, given_too, has_wire, held_too, on_wire, opened_too, passed_too, resumed_too, wires_of}
use Rattle.xmpp_backend.specs.declared.backend.Given.TheVariants as given
use Rattle.xmpp_backend.specs.declared.backend.Passed.{Passed}
use Rattle.xmpp_backend.specs.declared.backend.Passed.TheVariants as passed
use Rattle.xmpp_backend.specs.declared.backend.Polled.{Polled}
use Rattle.xmpp_backend.specs.declared.backend.Polled.TheVariants as polled
use Rattle.stream_backend.specs.declared.looking.Look.{Look}
use Rattle.stream_backend.specs.declared.looking.Look.TheVariants as looks
use Rattle.stream_backend.specs.declared.stage.Stage.{Stage}
use Rattle.stream_backend.specs.declared.stage.Stage.TheVariants as stages
use Rattle.stream_backend.specs.Flow.{Flow, IsFlow}
use Rattle.xmpp_stream.specs.Qualified.{qualified}
use Rattle.xmpp_stream.specs.Wire.{IsRead, IsWritten}
use Rattle.stream_backend.specs.Begins.{BeginsLine}
use Rattle.stream_backend.specs.Lines.{Line, Tells}
use Rattle.stream_backend.specs.Stages.{IsStage, OwesTooMuch, StageCloses, StagePasses}

-- what it tells and counts, its lines, and what its network counts and tells
pub record Serving : Type 0 where
  pub told : Told
  pub counts : Counts
  pub lines : List Line
  pub net : ports.Counts
  pub events : Option (List Event)

-- on the wire of an open stream was passed, since it was opened, what was passed on the stream, and what came on it was given
pub record IsTiedFlow (told before : Told) (wire : ℕ) (flow : Flow) : Type 0 where
  pub passed : on_wire wire told.passed ≡ on_wire wire before.passed ++ flow.passed
  pub given : on_wire wire told.given ≡ on_wire wire before.given ++ map (λ text. given.Stanza text) flow.came

abbrev pub IsTiedStage : Told → Told → ℕ → Stage Flow → Type 0
IsTiedStage told before wire (stages.Open flow) = IsTiedFlow told before wire flow
IsTiedStage told before wire (stages.Leaving flow until) = Unit {0}
IsTiedStage told before wire stages.Failed = Unit {0}
IsTiedStage told before wire stages.Over = Unit {0}

-- a line is of a wire that was opened, and is held where that is told
pub record IsTied (told : Told) (line : Line) : Type 0 where
  pub opened : Contains (wires_of told.opened) line.wire
  pub held : line.held ≡ has_wire line.wire told.held
  pub stage : IsStage line.stage
  pub stream : IsTiedStage told line.before line.wire line.stage

-- on a wire, what was told as passed is what its link was given followed by what is owed, and what was told as given are the elements of
-- what was taken, each as it stands alone
pub record IsSaid (told : Told) (wire : ℕ) (flow : Flow) : Type 0 where
  pub elements : List (List ℕ)
  pub written : IsWritten flow.start_given flow.given flow.outgoing (on_wire wire told.passed)
  pub read : IsRead flow.start_left flow.left flow.incoming elements
  pub given : on_wire wire told.given ≡ map (λ element. given.Stanza (qualified element)) elements

-- what is known of a stream
abbrev pub KnowsStage : (Flow → Type 0) → Stage Flow → Type 0
KnowsStage P (stages.Open flow) = P flow
KnowsStage P (stages.Leaving flow until) = P flow
KnowsStage P stages.Failed = Unit {0}
KnowsStage P stages.Over = Unit {0}

-- so it is on the wire of an open stream, where nothing was passed or given on it before it was opened
abbrev pub IsSaidOf : Told → Line → Type 0
IsSaidOf told line = (flow : Flow) → line.stage ≡ stages.Open flow → on_wire line.wire line.before.passed ≡ [] → on_wire line.wire line.before.given ≡ [] → IsSaid told line.wire flow

-- no two lines are of one wire
abbrev pub AreApart : List Line → Type 0
AreApart lines = (j k : ℕ) (d : Line) → j < length lines → k < length lines → (slice_index_or lines j d).wire ≡ (slice_index_or lines k d).wire → j ≡ k

pub record IsServing (told : Told) (lines : List Line) : Type 0 where
  pub tied : All (IsTied told) lines
  pub apart : AreApart lines

-- this was done to the line of a wire, where there is one, and the others are as before
pub record OnWire (wire : ℕ) (R : Line → Line → Type 0) (old new : List Line) : Type 0 where
  pub count : length new ≡ length old
  pub here : (k : ℕ) (d : Line) → k < length old → (slice_index_or old k d).wire ≡ wire → R (slice_index_or old k d) (slice_index_or new k d)
  pub others : (k : ℕ) (d : Line) → k < length old → (slice_index_or old k d).wire ≢ wire → slice_index_or new k d ≡ slice_index_or old k d

-- an item was passed: where too much is owed then, the line has failed, which is still to be told
pub record PassesLine (item : Inward) (old new : Line) : Type 0 where
  pub others : new ≡ record old { stage = new.stage; noisy = true }
  pub passed : (after : Stage Flow) × StagePasses item old.stage after × (((new.stage ≡ after) × (OwesTooMuch after → ⊥)) ⊎ ((new.stage ≡ stages.Failed) × OwesTooMuch after))

-- the line was closed from this end
pub record ClosesLine (now : ℕ) (old new : Line) : Type 0 where
  pub others : new ≡ record old { stage = new.stage; held = false; noisy = true }
  pub stage : StageCloses now old.stage new.stage

abbrev pub HoldsLine : Line → Line → Type 0
HoldsLine old new = new ≡ record old { held = true }

abbrev pub ResumesLine : Line → Line → Type 0
ResumesLine old new = new ≡ record old { held = false; noisy = true }

-- of some lines it was heard that something may have happened
pub record Hears (old new : List Line) : Type 0 where
  pub count : length new ≡ length old
  pub each : (k : ℕ) (d : Line) → k < length old → slice_index_or new k d ≡ record (slice_index_or old k d) { noisy = (slice_index_or new k d).noisy }

-- every line was looked at, and has nothing to tell
pub record AllStill (old new : List Line) : Type 0 where
  pub count : length new ≡ length old
  pub each : (k : ℕ) (d : Line) → k < length old → Tells looks.Nothing (slice_index_or old k d) (slice_index_or new k d)

-- a line is as before but for what was heard of it, or was looked at and has nothing to tell
abbrev pub IsCalm : Line → Line → Type 0
IsCalm old new = (new ≡ record old { noisy = new.noisy }) ⊎ Tells looks.Nothing old new

-- the line at this place has this to tell, and the others have nothing or weren't looked at
pub record SeesOne (at : ℕ) (look : Look) (wire : ℕ) (old new : List Line) : Type 0 where
  pub count : length new ≡ length old
  pub there : at < length old
  pub wire_is : (d : Line) → (slice_index_or old at d).wire ≡ wire
  pub tells : (d : Line) → Tells look (slice_index_or old at d) (slice_index_or new at d)
  pub others : (k : ℕ) (d : Line) → k < length old → k ≢ at → (slice_index_or new k d ≡ slice_index_or old k d) ⊎ Tells looks.Nothing (slice_index_or old k d) (slice_index_or new k d)

-- the line of a wire may begin here: no other line is of this wire, and the one here is, or nothing is left of it
pub record IsPlaceFor (wire at : ℕ) (lines : List Line) : Type 0 where
  pub there : at < length lines
  pub free : (d : Line) → ((slice_index_or lines at d).wire ≡ wire) ⊎ ((slice_index_or lines at d).stage ≡ stages.Over)
  pub apart : (k : ℕ) (d : Line) → k < length lines → k ≢ at → (slice_index_or lines k d).wire ≢ wire

-- how the line of a wire begins, after what was in its place was retired
pub record BeginsAt (wire : ℕ) (before : Told) (to : List ℕ) (net net' : ports.Counts) (line : Line) : Type 0 where
  pub mid : ports.Counts
  pub dialled : mid.dialled ≡ net.dialled
  pub begins : BeginsLine wire before to mid net' line

-- the line of a wire begins at one place, where none was or what was there is over or was this wire's, and the others are as before
pub record BeginsIn (wire : ℕ) (before : Told) (to : List ℕ) (net net' : ports.Counts) (old new : List Line) : Type 0 where
  pub at : ℕ
  pub there : at < length new
  pub line : Line
  pub line_is : (d : Line) → slice_index_or new at d ≡ line
  pub begins : BeginsAt wire before to net net' line
  pub longer : length old ≤ length new
  pub known : (k : ℕ) → k < length new → k ≢ at → k < length old
  pub others : (k : ℕ) (d : Line) → k < length new → k ≢ at → slice_index_or new k d ≡ slice_index_or old k d
  pub apart : (k : ℕ) (d : Line) → k < length old → k ≢ at → (slice_index_or old k d).wire ≢ wire
  pub gone : (d : Line) → at < length old → ((slice_index_or old at d).wire ≡ wire) ⊎ ((slice_index_or old at d).stage ≡ stages.Over)

-- what an answer says of a call that tells of a wire
abbrev pub DoneOrSame : Serving → Serving → Passed → Told → Type 0 → Type 0
DoneOrSame old new passed.Done told lines = (new.told ≡ told) × (new.counts ≡ old.counts) × lines
DoneOrSame old new passed.Failed told lines = ⊥
DoneOrSame old new passed.NoMemory told lines = (new.told ≡ old.told) × (new.counts ≡ old.counts) × (new.lines ≡ old.lines)

-- a wire is opened
abbrev pub OpensWire : ℕ → List ℕ → Serving → Serving → Passed → Type 0
OpensWire wire to old new result = DoneOrSame old new result (opened_too wire to old.told) (BeginsIn wire old.told to old.net new.net old.lines new.lines)

-- an item is passed on the stream of its wire, where that is open
abbrev pub PassesOn : ℕ → Inward → Serving → Serving → Passed → Type 0
PassesOn wire item old new result = DoneOrSame old new result (passed_too wire item old.told) (OnWire wire (PassesLine item) old.lines new.lines)

-- a wire is closed
abbrev pub ClosesWire : ℕ → Serving → Serving → Passed → Type 0
ClosesWire wire old new result = DoneOrSame old new result (closed_too wire old.told) ((now : ℕ) × OnWire wire (ClosesLine now) old.lines new.lines)

-- one is held, or no longer
pub record HoldsWire (wire : ℕ) (old new : Serving) : Type 0 where
  pub told : new.told ≡ held_too wire old.told
  pub counts : new.counts ≡ old.counts
  pub lines : OnWire wire HoldsLine old.lines new.lines

pub record ResumesWire (wire : ℕ) (old new : Serving) : Type 0 where
  pub told : new.told ≡ resumed_too wire old.told
  pub counts : new.counts ≡ old.counts
  pub lines : OnWire wire ResumesLine old.lines new.lines

-- the line of this wire has this to tell, and the others have nothing or weren't looked at
pub record TellsOn (wire : ℕ) (look : Look) (old new : List Line) : Type 0 where
  pub count : length new ≡ length old
  pub at : ℕ
  pub there : at < length old
  pub wire_is : (d : Line) → (slice_index_or old at d).wire ≡ wire
  pub tells : (d : Line) → Tells look (slice_index_or old at d) (slice_index_or new at d)
  pub others : (k : ℕ) (d : Line) → k < length old → k ≢ at → IsCalm (slice_index_or old k d) (slice_index_or new k d)

-- what was told in this way is the answer of a poll, and is in the lists
abbrev pub TellsPolled : Look → ℕ → Told → Told → Polled → Type 0
TellsPolled looks.Nothing wire old new result = ⊥
TellsPolled (looks.Item text) wire old new result = (result ≡ polled.Out wire text) × (new ≡ given_too wire (given.Stanza text) old)
TellsPolled (looks.Closed closing) wire old new result = (result ≡ polled.Closed wire closing) × (new ≡ given_too wire (given.Closed closing) old)
TellsPolled looks.NoMemory wire old new result = (result ≡ polled.NoMemory) × (new ≡ old)

-- a poll tells what a line has, once every line was looked at that nothing is had, and nothing where there was no memory
abbrev pub PollsLines : Serving → Serving → Polled → Type 0
PollsLines old new (polled.Out wire text) =
    (new.told ≡ given_too wire (given.Stanza text) old.told) × (new.counts ≡ record old.counts { answers = counted_on old.counts.answers }) × TellsOn wire (looks.Item text) old.lines new.lines
PollsLines old new (polled.Closed wire closing) =
    (new.told ≡ given_too wire (given.Closed closing) old.told) × (new.counts ≡ record old.counts { answers = counted_on old.counts.answers }) × TellsOn wire (looks.Closed closing) old.lines new.lines
PollsLines old new polled.Nothing = (new.told ≡ old.told) × (new.counts ≡ record old.counts { idle = counted_on old.counts.idle }) × AllStill old.lines new.lines
PollsLines old new polled.Failed = ⊥
PollsLines old new polled.NoMemory = (new.told ≡ old.told) × (new.counts ≡ old.counts) × ((wire : ℕ) × TellsOn wire looks.NoMemory old.lines new.lines)

-- how many answers there were, with this one
abbrev pub answers_after : Polled → ℕ → ℕ
answers_after (polled.Out wire text) answers = counted_on answers
answers_after (polled.Closed wire closing) answers = counted_on answers
answers_after polled.Nothing answers = answers
answers_after polled.Failed answers = answers
answers_after polled.NoMemory answers = answers

-- what a poll gives, it gives on a wire that was opened and isn't held
abbrev pub GivesOn : Told → Polled → Type 0
GivesOn told (polled.Out wire text) = Contains (wires_of told.opened) wire × (has_wire wire told.held ≡ false)
GivesOn told (polled.Closed wire closing) = Contains (wires_of told.opened) wire × (has_wire wire told.held ≡ false)
GivesOn told polled.Nothing = Unit {0}
GivesOn told polled.Failed = Unit {0}
GivesOn told polled.NoMemory = Unit {0}

-- what holds of every back end
pub record Holds (told : Told) (lines : List Line) : Type 0 where
  pub serving : IsServing told lines
  pub flows : All (λ line. KnowsStage IsFlow line.stage) lines
  pub said : All (IsSaidOf told) lines
