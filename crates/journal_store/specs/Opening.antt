-- How far the records of a file are read.
use Rattle.std.specs.Prelude.{◌≡◌, ℕ, ◌+◌, ◌-◌, ◌<◌, ◌≤◌, ◌^◌, List, [], ◌∷◌, ◌++◌, true, Result, Ok, Err, length, drop}
use Rattle.std.specs.List.{AllByRecursion}
use Rattle.bosh_ports.specs.Faults.{HasRisen}
use Rattle.journal_store.specs.Disk.{Only}
use Rattle.journal_store.specs.Records.{HasLength, number4, records_of, BeginsNoRecord}
use Rattle.journal_store.specs.declared.opening.Opening.{Opening}
use Rattle.journal_store.specs.declared.opening.Begun.{Begun}
use Rattle.journal_store.specs.declared.opening.Begun.TheVariants as begun
use Rattle.journal_store.specs.declared.opening.Finished.{Finished}
use Rattle.journal_store.specs.declared.opening.Finished.TheVariants as finished
use Rattle.journal_store.specs.declared.opening.Head.{Head}
use Rattle.journal_store.specs.declared.opening.Head.TheVariants as heads
use Rattle.journal_store.specs.declared.opening.Next.{Next}
use Rattle.journal_store.specs.declared.opening.Next.TheVariants as next
use Rattle.journal_store.specs.declared.opening.RowError.{RowError}
use Rattle.journal_store.specs.declared.opening.RowError.TheVariants as rows
use Rattle.journal_store.specs.declared.record_file.RecordFile.{RecordFile}

-- The records of these contents were read, the first ones of the file; and where it says that they are all, no further one stands there.
pub record HasRead {D : Type 0} (seen : D → List ℕ) (time : D → ℕ) (left : D → ℕ → List ℕ → Type 0) (opening : Opening D) (contents : List (List ℕ)) : Type 0 where
  pub front : seen opening.disk ≡ records_of contents ++ drop opening.at (seen opening.disk)
  pub lengths : AllByRecursion HasLength contents
  pub at : opening.at ≡ length (records_of contents)
  pub length : opening.length ≡ length (seen opening.disk)
  pub durable : Only (seen opening.disk) (left opening.disk (time opening.disk))
  pub ended : opening.has_ended ≡ true → BeginsNoRecord (drop opening.at (seen opening.disk))

-- one content more was read, or none
abbrev pub ReadsNext : {D : Type 0} → (D → List ℕ) → (D → ℕ) → (D → ℕ → List ℕ → Type 0) → Opening D → List (List ℕ) → Next → Type 0
ReadsNext seen time left opening contents (next.Content content) = HasRead seen time left opening (contents ++ content ∷ [])
ReadsNext seen time left opening contents next.End = HasRead seen time left opening contents × (opening.has_ended ≡ true)
ReadsNext seen time left opening contents _ = HasRead seen time left opening contents

-- how many bytes are left to be read
abbrev pub left_to_read : {D : Type 0} → Opening D → ℕ
left_to_read opening = opening.length - opening.at

-- with each record that is read fewer bytes are left
abbrev pub IsNearer : {D : Type 0} → Opening D → Opening D → Next → Type 0
IsNearer old new (next.Content content) = left_to_read new < left_to_read old
IsNearer old new _ = Unit {0}

-- what the five bytes before so many others say
abbrev pub SaysHead : List ℕ → ℕ → Head → Type 0
SaysHead bytes behind (heads.Record count) = (bytes ≡ 1 ∷ number4 count) × (count ≤ behind) × (count < 2 ^ 32)
SaysHead bytes behind heads.NoRecord = (count : ℕ) → count < 2 ^ 32 → count ≤ behind → bytes ≡ 1 ∷ number4 count → ⊥
SaysHead bytes behind heads.Failed = ⊥

-- what stands at a place of a file: a record with so many bytes of content, or none
abbrev pub IsHead : List ℕ → ℕ → Head → Type 0
IsHead file at (heads.Record count) = (rest : List ℕ) × (drop at file ≡ 1 ∷ number4 count ++ rest) × (count ≤ length rest) × (count < 2 ^ 32)
IsHead file at heads.NoRecord = BeginsNoRecord (drop at file)
IsHead file at heads.Failed = Unit {0}

-- a record that begins at a place ends at this length at most
abbrev pub IsRecordWithin : ℕ → ℕ → Head → Type 0
IsRecordWithin at length (heads.Record count) = at + 5 + count ≤ length
IsRecordWithin at length _ = Unit {0}

-- the count of faults rises with a fault, and with nothing else
abbrev pub CountsHead : ℕ → ℕ → Head → Type 0
CountsHead old new heads.Failed = (old ≤ new) × HasRisen old new
CountsHead old new _ = new ≡ old

abbrev pub CountsNext : ℕ → ℕ → Next → Type 0
CountsNext old new next.Failed = (old ≤ new) × HasRisen old new
CountsNext old new _ = new ≡ old

-- what came of a disk: it was handed on, or the disk back after a fault
abbrev pub CountsBegun : {D : Type 0} → (D → ℕ) → ℕ → Begun D → Type 0
CountsBegun faults old (begun.Opened opening) = faults opening.disk ≡ old
CountsBegun faults old (begun.Failed disk) = (old ≤ faults disk) × HasRisen old (faults disk)

-- the disk that was handed in, within the opening or by itself
abbrev pub disk_begun : {D : Type 0} → Begun D → D
disk_begun (begun.Opened opening) = opening.disk
disk_begun (begun.Failed disk) = disk

abbrev pub IfOpened : {D : Type 0} → Begun D → (Opening D → Type 0) → Type 0
IfOpened (begun.Opened opening) P = P opening
IfOpened (begun.Failed disk) P = Unit {0}

abbrev pub CountsFinished : {D : Type 0} → (D → ℕ) → ℕ → Finished D → Type 0
CountsFinished faults old (finished.Opened file) = faults file.disk ≡ old
CountsFinished faults old (finished.Failed disk) = (old ≤ faults disk) × HasRisen old (faults disk)

abbrev pub IfFinished : {D : Type 0} → Finished D → (RecordFile D → Type 0) → Type 0
IfFinished (finished.Opened file) P = P file
IfFinished (finished.Failed disk) P = Unit {0}

-- the disk that came back, within the file or by itself
abbrev pub disk_of : {D : Type 0} → Finished D → D
disk_of (finished.Opened file) = file.disk
disk_of (finished.Failed disk) = disk

-- all records of the file were read, or it says why not
abbrev pub HasReadRow : {D : Type 0} → (D → List ℕ) → (D → ℕ) → (D → ℕ → List ℕ → Type 0) → Opening D → List (List ℕ) → Type 0
HasReadRow seen time left opening contents = HasRead seen time left opening contents × (opening.has_ended ≡ true)

abbrev pub CountsRow : {T : Type 0} → ℕ → ℕ → Result T RowError → Type 0
CountsRow old new (Ok contents) = new ≡ old
CountsRow old new (Err rows.NoMemory) = new ≡ old
CountsRow old new (Err rows.Failed) = (old ≤ new) × HasRisen old new
