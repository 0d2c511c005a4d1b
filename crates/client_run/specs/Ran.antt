-- How a client ran, and why.
use Rattle.std.specs.Prelude.{◌≡◌, ◌≢◌, ◌⊎◌, ℕ, ◌<◌, Bool, true, false, List, Option, Some, None, IfSome, Result, Ok, Err}
use Rattle.std.specs.declared.alloc.AllocError.{AllocError}
use Rattle.bosh_client.specs.PlainClient.{PlainClient, end_of, next_id}
use Rattle.bosh_client.specs.Runs.{HandOut, ToHandOut, step}
use Rattle.bosh_client.specs.declared.replies.Queued.{Queued}
use Rattle.bosh_ports.specs.Faults.{HasRisen}
use Rattle.bosh_types.specs.Rid.{greatest_rid}
use Rattle.bosh_types.specs.declared.condition.Condition.{Condition}
use Rattle.line_reader.specs.Lines.{lines_of}
use Rattle.parked_gate.specs.Histories.{StartsWith}
use Rattle.parked_gate.specs.Passes.{Known}
use Rattle.server_ports.specs.Counts.{Counts}
use Rattle.client_run.specs.declared.call.Call.TheVariants as calls
use Rattle.client_run.specs.declared.entry.Entry.{Entry}
use Rattle.client_run.specs.declared.gathering.Gathered.{Gathered}
use Rattle.client_run.specs.declared.gathering.Gathered.TheVariants as gathered
use Rattle.client_run.specs.declared.running.ClientRan.{ClientRan}
use Rattle.client_run.specs.declared.running.ClientRan.TheVariants as ran
use Rattle.client_run.specs.declared.attending.Attended.{Attended}
use Rattle.client_run.specs.declared.attending.Attended.TheVariants as attended
use Rattle.client_run.specs.Adding.{Adds, AddsOnly, IsTalk, is_hand_out}
use Rattle.client_run.specs.History.{After}
use Rattle.client_run.specs.Input.{IsFirstBad, PutsAll, TakesNoMore, WasFull}
use Rattle.client_run.specs.Queueing.{AsksLast, AsksToEnd, GoesFurther, QueuesBy}
use Rattle.client_run.specs.Running.{BothFinished, TakesBoth, WasOver}
use Rattle.client_run.specs.Worked.{IsDone}

-- where a running client stands: what its pass knows, the counts of the network, and how often the spawner refused, the source failed,
-- and the sink
pub record Scene : Type 0 where
  pub known : Known Entry
  pub counts : Counts
  pub refusals : ℕ
  pub reads : ℕ
  pub writes : ℕ

abbrev pub scene_of : Known Entry → Counts → ℕ → ℕ → ℕ → Scene
scene_of known counts refusals reads writes = record { known = known; counts = counts; refusals = refusals; reads = reads; writes = writes }

-- at some time since no more came of the client, it had nothing left to be handed out
pub record WasEmptied (seen : List Entry) : Type 0 where
  pub log : List Entry
  pub begins : StartsWith seen log
  pub over : WasOver log
  pub empty : After log (λ c. (step c HandOut).1 ≡ ToHandOut None)

-- it ran to the end of its client: this holds of the client as it was seen last, and nothing was left to be handed out; a link was
-- dialled; the pass's own entries are those of talking over the input; and each of the two workers ended without a fault
pub record Ran (input : Option (List ℕ)) (s t : Scene) (P : PlainClient → Type 0) : Type 0 where
  pub after : After t.known.seen P
  pub emptied : WasEmptied t.known.seen
  pub dialled : HasRisen s.counts.dialled t.counts.dialled
  pub adds : Adds s.known t.known (IsTalk input)
  pub workers : BothFinished t.known.seen s.counts t.counts

abbrev pub EndsWith : Condition → PlainClient → Type 0
EndsWith condition c = end_of c ≡ Some (record { condition = Some condition })

-- it goes on, and no request id is left
abbrev pub IsSpent : PlainClient → Type 0
IsSpent c = (end_of c ≡ None) × (greatest_rid < next_id c)

-- each answer with its cause: a count that rose, a status that is not 200, a line of the input, a full queue, or the client's end
unfoldable pub RanBy : Option (List ℕ) → Scene → Scene → Result ClientRan AllocError → Type 0
RanBy input s t (Ok ran.SpawnFault) = HasRisen s.refusals t.refusals
RanBy input s t (Ok ran.NetFault) = HasRisen s.counts.faults t.counts.faults
RanBy input s t (Ok (ran.Refused status)) = (status ≢ 200) × HasRisen s.counts.dialled t.counts.dialled
RanBy input s t (Ok (ran.Bad n)) = IfSome input (λ bytes. IsFirstBad (lines_of bytes) n)
RanBy input s t (Ok ran.ReadFault) = HasRisen s.reads t.reads
RanBy input s t (Ok ran.WriteFault) = HasRisen s.writes t.writes
RanBy input s t (Ok ran.Stuck) = Ran input s t IsSpent × WasFull s.known.seen t.known.seen
RanBy input s t (Ok (ran.Ended condition)) = Ran input s t (EndsWith condition)
RanBy input s t (Ok ran.Done) = Ran input s t IsDone
RanBy input s t (Err error) = Unit {0}

-- talking ended well: what was put is the first lines of the input, and all of them, unless the client took no more, or its queue was full
pub record HasTalked (input : Option (List ℕ)) (old new : Known Entry) : Type 0 where
  pub mid : Known Entry
  pub adds : Adds old mid (IsTalk input)
  pub done : PutsAll input old mid ⊎ TakesNoMore mid ⊎ WasFull old.seen mid.seen
  pub later : GoesFurther mid new

-- the network gave no share: neither the source nor the sink failed, and the pass queued a terminate and did nothing else
pub record IsUnhired (s t : Scene) : Type 0 where
  pub reads : t.reads ≡ s.reads
  pub writes : t.writes ≡ s.writes
  pub result : Result Queued AllocError
  pub queues : QueuesBy calls.Terminate s.known t.known result

-- The causes in their order: where one is answered, none of those before it came. First a worker is refused; then talking ends by a bad
-- line or a fault; then a worker ended by a fault, and then by what it was refused; then the sink fails at what was handed out last; then
-- the client ended, or is stuck. Where a worker was not started, or talking did not end well, a terminate was queued
unfoldable pub InOrder : Option (List ℕ) → Scene → Scene → Result ClientRan AllocError → Type 0
InOrder input s t (Ok ran.SpawnFault) = (t.reads ≡ s.reads) × (t.writes ≡ s.writes) × AsksToEnd s.known t.known
InOrder input s t (Ok ran.NetFault) =
    (t.refusals ≡ s.refusals) × (IsUnhired s t ⊎ ((t.reads ≡ s.reads) × HasTalked input s.known t.known × TakesBoth t.known.seen s.counts t.counts gathered.NetFault))
InOrder input s t (Ok (ran.Refused status)) =
    (t.refusals ≡ s.refusals) × (t.reads ≡ s.reads) × HasTalked input s.known t.known × TakesBoth t.known.seen s.counts t.counts (gathered.Refused status)
InOrder input s t (Ok (ran.Bad n)) = (t.refusals ≡ s.refusals) × (t.reads ≡ s.reads) × AsksToEnd s.known t.known
InOrder input s t (Ok ran.ReadFault) = (t.refusals ≡ s.refusals) × AsksToEnd s.known t.known
InOrder input s t (Ok ran.WriteFault) =
    (t.refusals ≡ s.refusals) × (t.reads ≡ s.reads) × (AsksLast s.known t.known ⊎ (HasTalked input s.known t.known × BothFinished t.known.seen s.counts t.counts))
InOrder input s t (Ok ran.Stuck) = (t.refusals ≡ s.refusals) × (t.reads ≡ s.reads) × (t.writes ≡ s.writes) × HasTalked input s.known t.known
InOrder input s t (Ok (ran.Ended condition)) = (t.refusals ≡ s.refusals) × (t.reads ≡ s.reads) × (t.writes ≡ s.writes) × HasTalked input s.known t.known
InOrder input s t (Ok ran.Done) = (t.refusals ≡ s.refusals) × (t.reads ≡ s.reads) × (t.writes ≡ s.writes) × HasTalked input s.known t.known
InOrder input s t (Err error) = Unit {0}

-- what talking came to, by its causes; where it didn't end well a terminate was queued, and nothing done after that
unfoldable pub ConversesBy : Option (List ℕ) → Known Entry → Known Entry → ℕ → ℕ → ℕ → ℕ → Result Attended AllocError → Type 0
ConversesBy input old new reads later_reads writes later_writes (Ok attended.Done) =
    Adds old new (IsTalk input) × (PutsAll input old new ⊎ TakesNoMore new) × (later_reads ≡ reads) × (later_writes ≡ writes)
ConversesBy input old new reads later_reads writes later_writes (Ok attended.Stuck) =
    Adds old new (IsTalk input) × WasFull old.seen new.seen × (later_reads ≡ reads) × (later_writes ≡ writes)
ConversesBy input old new reads later_reads writes later_writes (Ok (attended.Bad n)) =
    IfSome input (λ bytes. IsFirstBad (lines_of bytes) n) × AsksLast old new × (later_reads ≡ reads)
ConversesBy input old new reads later_reads writes later_writes (Ok attended.ReadFault) = HasRisen reads later_reads × AsksLast old new
ConversesBy input old new reads later_reads writes later_writes (Ok attended.WriteFault) = HasRisen writes later_writes × AsksLast old new × (later_reads ≡ reads)
ConversesBy input old new reads later_reads writes later_writes (Err error) = AsksLast old new

-- how the end of the client is told
abbrev pub ran_by : Option Condition → ClientRan
ran_by None = ran.Done
ran_by (Some condition) = ran.Ended condition

-- and that no request id is left
abbrev pub ran_spent : Bool → ClientRan
ran_spent true = ran.Stuck
ran_spent false = ran.Done

-- the client that was over ended so
unfoldable pub Concludes : Bool → Known Entry → Known Entry → ClientRan → Type 0
Concludes stuck old new ran.SpawnFault = ⊥
Concludes stuck old new ran.NetFault = ⊥
Concludes stuck old new (ran.Refused status) = ⊥
Concludes stuck old new (ran.Bad n) = ⊥
Concludes stuck old new ran.ReadFault = ⊥
Concludes stuck old new ran.WriteFault = ⊥
Concludes stuck old new ran.Stuck = (stuck ≡ true) × (WasOver old.seen → After new.seen IsSpent)
Concludes stuck old new (ran.Ended condition) = After new.seen (EndsWith condition)
Concludes stuck old new ran.Done = WasOver old.seen → After new.seen IsDone

-- what is written last was handed out until nothing was left, and then it is seen how the client ended
pub record Closes (stuck : Bool) (old new : Known Entry) (ran : ClientRan) : Type 0 where
  pub last : Known Entry
  pub seen : StartsWith new.seen old.seen
  pub handed : AddsOnly is_hand_out old last
  pub mine : new.mine ≡ last.mine
  pub begins : WasOver old.seen → WasOver last.seen
  pub emptied : WasOver old.seen → WasEmptied new.seen
  pub concludes : Concludes stuck last new ran

-- how talking ended that was attended to, well or stuck
abbrev pub well : Bool → Attended
well true = attended.Stuck
well false = attended.Done

-- how it ran, by what talking and the workers came to
unfoldable pub FinishesBy : Result Attended AllocError → Gathered → Known Entry → Known Entry → ℕ → ℕ → Result ClientRan AllocError → Type 0
FinishesBy t g old new writes later (Ok ran.SpawnFault) = ⊥
FinishesBy t g old new writes later (Ok ran.NetFault) = (stuck : Bool) × (t ≡ Ok (well stuck)) × (g ≡ gathered.NetFault)
FinishesBy t g old new writes later (Ok (ran.Refused status)) = (stuck : Bool) × (t ≡ Ok (well stuck)) × (g ≡ gathered.Refused status)
FinishesBy t g old new writes later (Ok (ran.Bad n)) = t ≡ Ok (attended.Bad n)
FinishesBy t g old new writes later (Ok ran.ReadFault) = t ≡ Ok attended.ReadFault
FinishesBy t g old new writes later (Ok ran.WriteFault) = ((t ≡ Ok attended.WriteFault) × (new ≡ old)) ⊎ ((stuck : Bool) × (t ≡ Ok (well stuck)) × (g ≡ gathered.Over) × HasRisen writes later × StartsWith new.seen old.seen)
FinishesBy t g old new writes later (Ok ran.Stuck) = (stuck : Bool) × (t ≡ Ok (well stuck)) × (g ≡ gathered.Over) × Closes stuck old new ran.Stuck × (later ≡ writes)
FinishesBy t g old new writes later (Ok (ran.Ended condition)) = (stuck : Bool) × (t ≡ Ok (well stuck)) × (g ≡ gathered.Over) × Closes stuck old new (ran.Ended condition) × (later ≡ writes)
FinishesBy t g old new writes later (Ok ran.Done) = (stuck : Bool) × (t ≡ Ok (well stuck)) × (g ≡ gathered.Over) × Closes stuck old new ran.Done × (later ≡ writes)
FinishesBy t g old new writes later (Err error) = Unit {0}
