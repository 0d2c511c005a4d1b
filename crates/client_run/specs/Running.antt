-- How workers come back to who started them.
use Rattle.std.specs.Prelude.{◌≡◌, ◌≢◌, ◌⊎◌, ◌<◌, ◌≤◌, ◌&&◌, ◌||◌, ◌==◌, ℕ, nat_lt, not, Bool, true, false, IsTrue, List, Option, Some, None, Result, Ok, Err}
use Rattle.std.specs.List.{list_all, list_any}
use Rattle.std.specs.declared.alloc.AllocError.{AllocError}
use Rattle.bosh_client.specs.Machine as machine
use Rattle.bosh_client.specs.PlainClient.{PlainClient, has_ended, next_id}
use Rattle.bosh_ports.specs.Faults.{HasRisen}
use Rattle.bosh_types.specs.Rid.{greatest_rid}
use Rattle.parked_gate.specs.Histories.{StartsWith}
use Rattle.parked_gate.specs.Passes.{Known}
use Rattle.server_ports.specs.Counts.{Counts, added}
use Rattle.client_run.specs.declared.entry.Entry.{Entry}
use Rattle.client_run.specs.declared.gathering.Gathered.{Gathered}
use Rattle.client_run.specs.declared.gathering.Gathered.TheVariants as gathered
use Rattle.client_run.specs.declared.attending.Attended.{Attended}
use Rattle.client_run.specs.declared.attending.Attended.TheVariants as attended
use Rattle.client_run.specs.declared.worked.Worked.{Worked}
use Rattle.client_run.specs.declared.worked.Worked.TheVariants as worked
use Rattle.client_run.specs.Adding.{is_entry, is_of_worker, is_terminate}
use Rattle.client_run.specs.Alarms.{has_heard, is_raised}
use Rattle.client_run.specs.History.{After, client_in}

-- no more comes of a client: it ended, or no request id is left
abbrev pub IsOver : PlainClient → Type 0
IsOver c = (has_ended c ≡ true) ⊎ (greatest_rid < next_id c)

-- the same as a test, and of the client after these entries
abbrev pub is_over : PlainClient → Bool
is_over c = has_ended c || nat_lt greatest_rid (next_id c)

abbrev pub is_over_by : Option PlainClient → Bool
is_over_by None = false
is_over_by (Some c) = is_over c

-- a worker ended with its client: it dialled, and of its own entries are requests and answers alone
abbrev pub finishes : Known Entry → Counts → Bool
finishes known counts = is_over_by (client_in known.seen) && (nat_lt 0 counts.dialled && list_all (is_entry is_of_worker) known.mine)

-- a terminate was queued: it is among the pass's own entries, or the client took no more
abbrev pub takes_no_more : Option PlainClient → Bool
takes_no_more None = false
takes_no_more (Some c) = machine.is_over c

abbrev pub has_closed : Known Entry → Bool
has_closed known = list_any (is_entry is_terminate) known.mine || takes_no_more (client_in known.seen)

-- a response with another status than 200 was read on a link that was dialled
abbrev pub is_refusal : ℕ → Counts → Bool
is_refusal status counts = not (status == 200) && nat_lt 0 counts.dialled

-- What a worker tells of its pass, its share and its place at the alarm where it leaves its work: this, or that the share failed. It
-- leaves silent only where it has heard the alarm, which it did not raise
unfoldable pub is_toil_of : Result Worked AllocError → Known Entry → Counts → Known ℕ → Bool
is_toil_of (Ok worked.Done) known counts alarm = finishes known counts
is_toil_of (Ok (worked.Ended condition)) known counts alarm = finishes known counts
is_toil_of (Ok worked.DialFault) known counts alarm = nat_lt 0 counts.faults
is_toil_of (Ok worked.ReadFault) known counts alarm = nat_lt 0 counts.faults
is_toil_of (Ok worked.WriteFault) known counts alarm = nat_lt 0 counts.faults
is_toil_of (Ok (worked.Refused status)) known counts alarm = is_refusal status counts
is_toil_of (Ok worked.Silent) known counts alarm = has_heard alarm
is_toil_of (Err error) known counts alarm = true

abbrev pub IsToilOf : Result Worked AllocError → Known Entry → Counts → Known ℕ → Type 0
IsToilOf worked known counts alarm = IsTrue (is_toil_of worked known counts alarm)

-- what its end tells: the same; and where it failed the alarm was raised, and where the share did a terminate was queued
unfoldable pub is_end_of : Result Worked AllocError → Known Entry → Counts → Known ℕ → Bool
is_end_of (Ok worked.Done) known counts alarm = finishes known counts
is_end_of (Ok (worked.Ended condition)) known counts alarm = finishes known counts
is_end_of (Ok worked.DialFault) known counts alarm = nat_lt 0 counts.faults && (has_closed known && is_raised alarm.seen)
is_end_of (Ok worked.ReadFault) known counts alarm = nat_lt 0 counts.faults && (has_closed known && is_raised alarm.seen)
is_end_of (Ok worked.WriteFault) known counts alarm = nat_lt 0 counts.faults && (has_closed known && is_raised alarm.seen)
is_end_of (Ok (worked.Refused status)) known counts alarm = is_refusal status counts && (has_closed known && is_raised alarm.seen)
is_end_of (Ok worked.Silent) known counts alarm = has_heard alarm
is_end_of (Err error) known counts alarm = is_raised alarm.seen

abbrev pub IsEndOf : Result Worked AllocError → Known Entry → Counts → Known ℕ → Type 0
IsEndOf worked known counts alarm = IsTrue (is_end_of worked known counts alarm)

abbrev pub is_done : Attended → Bool
is_done attended.Done = true
is_done (attended.Bad n) = false
is_done attended.ReadFault = false
is_done attended.WriteFault = false
is_done attended.Stuck = true

abbrev pub is_silent : Worked → Bool
is_silent worked.Done = false
is_silent (worked.Ended condition) = false
is_silent worked.DialFault = false
is_silent worked.ReadFault = false
is_silent worked.WriteFault = false
is_silent (worked.Refused status) = false
is_silent worked.Silent = true

abbrev pub is_failed : Result Worked AllocError → Bool
is_failed (Ok worked.Done) = false
is_failed (Ok (worked.Ended condition)) = false
is_failed (Ok worked.DialFault) = true
is_failed (Ok worked.ReadFault) = true
is_failed (Ok worked.WriteFault) = true
is_failed (Ok (worked.Refused status)) = true
is_failed (Ok worked.Silent) = false
is_failed (Err error) = true

-- at some time the client was over
pub record WasOver (seen : List Entry) : Type 0 where
  pub log : List Entry
  pub begins : StartsWith seen log
  pub over : After log IsOver

-- a worker that left since it had heard the alarm tells nothing of its own, as one that had no memory
abbrev pub gathered_of : Result Worked AllocError → Gathered
gathered_of (Ok worked.Done) = gathered.Over
gathered_of (Ok (worked.Ended condition)) = gathered.Over
gathered_of (Ok worked.DialFault) = gathered.NetFault
gathered_of (Ok worked.ReadFault) = gathered.NetFault
gathered_of (Ok worked.WriteFault) = gathered.NetFault
gathered_of (Ok (worked.Refused status)) = gathered.Refused status
gathered_of (Ok worked.Silent) = gathered.NoMemory
gathered_of (Err error) = gathered.NoMemory

-- a fault goes first, then refusals, then want of memory
abbrev pub worse_of : Gathered → Gathered → Gathered
worse_of gathered.NetFault second = gathered.NetFault
worse_of (gathered.Refused status) gathered.NetFault = gathered.NetFault
worse_of (gathered.Refused status) (gathered.Refused other) = gathered.Refused status
worse_of (gathered.Refused status) gathered.Over = gathered.Refused status
worse_of (gathered.Refused status) gathered.NoMemory = gathered.Refused status
worse_of gathered.Over second = second
worse_of gathered.NoMemory gathered.NetFault = gathered.NetFault
worse_of gathered.NoMemory (gathered.Refused status) = gathered.Refused status
worse_of gathered.NoMemory gathered.Over = gathered.NoMemory
worse_of gathered.NoMemory gathered.NoMemory = gathered.NoMemory

-- the end of a worker that was taken: what it came to tells this of its pass, its share and its place at the alarm, and what its pass
-- saw is seen
pub record EndTold (seen : List Entry) (result : Gathered) : Type 0 where
  pub worked : Result Worked AllocError
  pub known : Known Entry
  pub share : Counts
  pub alarm : Known ℕ
  pub begins : StartsWith seen known.seen
  pub tells : IsEndOf worked known share alarm
  pub is : result ≡ gathered_of worked

-- one end was taken, and what its share dialled is counted
pub record TakesOne (seen : List Entry) (old new : Counts) (result : Gathered) : Type 0 where
  pub end : EndTold seen result
  pub dialled : new.dialled ≡ added old.dialled end.share.dialled

-- two ends were taken, and each of them counts
pub record TakesBoth (seen : List Entry) (old new : Counts) (result : Gathered) : Type 0 where
  pub one : Gathered
  pub other : Gathered
  pub first : EndTold seen one
  pub second : EndTold seen other
  pub dialled : new.dialled ≡ added (added old.dialled first.share.dialled) second.share.dialled
  pub is : result ≡ worse_of one other

-- A worker that ended with its client, with what its pass knew then and what its share counted: the client was over, a link was
-- dialled, and of its own entries are requests and answers alone
pub record Finished (seen : List Entry) : Type 0 where
  pub known : Known Entry
  pub share : Counts
  pub begins : StartsWith seen known.seen
  pub over : After known.seen IsOver
  pub dialled : 0 < share.dialled
  pub only : list_all (is_entry is_of_worker) known.mine ≡ true

-- both workers did, and what they dialled is counted
pub record BothFinished (seen : List Entry) (old new : Counts) : Type 0 where
  pub first : Finished seen
  pub second : Finished seen
  pub dialled : new.dialled ≡ added (added old.dialled first.share.dialled) second.share.dialled

-- what the ends that were taken tell: the client was over and was dialled for, or the network failed
abbrev pub GatheredTells : List Entry → Counts → Counts → Gathered → Type 0
GatheredTells seen old new gathered.Over = WasOver seen × HasRisen old.dialled new.dialled
GatheredTells seen old new gathered.NetFault = HasRisen old.faults new.faults
GatheredTells seen old new (gathered.Refused status) = (status ≢ 200) × HasRisen old.dialled new.dialled
GatheredTells seen old new gathered.NoMemory = Unit {0}

-- ends were taken: the pass has seen more, no entry is its own besides, and no count falls
pub record Gathers (old new : Known Entry) (counts later : Counts) (result : Gathered) : Type 0 where
  pub begins : StartsWith new.seen old.seen
  pub mine : new.mine ≡ old.mine
  pub faults : counts.faults ≤ later.faults
  pub dialled : counts.dialled ≤ later.dialled
  pub tells : GatheredTells new.seen counts later result
