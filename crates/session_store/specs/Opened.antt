-- What opening a file of journals gives.
use Rattle.std.specs.Prelude.{◌≡◌, ⊤, ℕ, ◌≤◌, List, [], ◌++◌, Some, length}
use Rattle.std.specs.List.{AllByRecursion}
use Rattle.bosh_ports.specs.Faults.{HasRisen}
use Rattle.session_journal.specs.declared.entry.Entry.{Entry}
use Rattle.journal_store.specs.Entries.{AreEntriesOf, FitsContent, contents_of}
use Rattle.journal_store.specs.Opening.{HasRead}
use Rattle.journal_store.specs.Reading.{entry_at}
use Rattle.journal_store.specs.Records.{HasLength, record_of, records_of}
use Rattle.journal_store.specs.declared.opening.Opening.{Opening}
use Rattle.journal_store.specs.declared.reading.SessionEntry.{SessionEntry}
use Rattle.session_store.specs.Journals.{AreJournals, AreLogs, MayCome}
use Rattle.session_store.specs.Store.{Stores}
use Rattle.session_store.specs.declared.opening.Opened.{Opened}
use Rattle.session_store.specs.declared.opening.Opened.TheVariants as results
use Rattle.session_store.specs.declared.opening.Read.{Read}
use Rattle.session_store.specs.declared.store.Store.{Store}
use Rattle.session_store.specs.declared.opening.Read.TheVariants as read

-- the content isn't that of an entry that may come after these
abbrev pub MayNotCome : List SessionEntry → List ℕ → Type 0
MayNotCome entries content = (e : SessionEntry) → entry_at content ≡ Some e → MayCome entries e → ⊥

-- The file is whole up to a place: behind the records of entries that are journals stands one of no entry that may come there.
pub record IsDamagedAt (file : List ℕ) (at : ℕ) : Type 0 where
  pub entries : List SessionEntry
  pub written : AllByRecursion FitsContent entries
  pub lengths : AllByRecursion HasLength (contents_of entries)
  pub journals : AreJournals entries
  pub content : List ℕ
  pub rest : List ℕ
  pub split : file ≡ records_of (contents_of entries) ++ (record_of content ++ rest)
  pub place : at ≡ length (records_of (contents_of entries))
  pub fits : HasLength content
  pub foreign : MayNotCome entries content

-- These sessions stand for the records that were read so far.
pub record HasEntered {D : Type 0} (seen : D → List ℕ) (time : D → ℕ) (left : D → ℕ → List ℕ → Type 0) (opening : Opening D) (entries : List SessionEntry) (logs : List (List Entry)) : Type 0 where
  pub row : HasRead seen time left opening (contents_of entries)
  pub written : AllByRecursion FitsContent entries
  pub journals : AreJournals entries
  pub are_logs : AreLogs logs entries

-- all records of the file were entered; or the one that stands there is none that may come
abbrev pub ReadsAll : {D : Type 0} → (D → List ℕ) → (D → ℕ) → (D → ℕ → List ℕ → Type 0) → Opening D → List (List Entry) → Read → Type 0
ReadsAll seen time left opening logs read.All = (entries : List SessionEntry) × HasEntered seen time left opening entries logs
ReadsAll seen time left opening logs (read.Damaged at) = IsDamagedAt (seen opening.disk) at
ReadsAll seen time left opening logs read.Failed = ⊤
ReadsAll seen time left opening logs read.NoMemory = ⊤

abbrev pub CountsRead : ℕ → ℕ → Read → Type 0
CountsRead old new read.Failed = (old ≤ new) × HasRisen old new
CountsRead old new _ = new ≡ old

-- the disk that was handed in, within the store or by itself
abbrev pub disk_of : {D : Type 0} → Opened D → D
disk_of (results.Store store sessions) = store.journals.file.disk
disk_of (results.Damaged at disk) = disk
disk_of (results.Failed disk) = disk
disk_of (results.NoMemory disk) = disk

-- the file has these journals, all of them on the disk, and the sessions have them too
abbrev pub Brings : {D : Type 0} → (D → List ℕ) → (D → ℕ) → (D → ℕ → List ℕ → Type 0) → List ℕ → Opened D → Type 0
Brings seen time left file (results.Store store sessions) =
    (entries : List SessionEntry) × AreEntriesOf file entries × AllByRecursion FitsContent entries × AreJournals entries × Stores seen time left store entries [] × AreLogs sessions.items entries
Brings seen time left file (results.Damaged at disk) = IsDamagedAt file at
Brings seen time left file (results.Failed disk) = ⊤
Brings seen time left file (results.NoMemory disk) = ⊤

abbrev pub IfStore : {D : Type 0} → Opened D → (Store D → Type 0) → Type 0
IfStore (results.Store store sessions) P = P store
IfStore (results.Damaged at disk) P = ⊤
IfStore (results.Failed disk) P = ⊤
IfStore (results.NoMemory disk) P = ⊤

-- the count of faults rises with a fault, and with nothing else
abbrev pub CountsOpened : {D : Type 0} → (D → ℕ) → ℕ → Opened D → Type 0
CountsOpened faults old (results.Store store sessions) = faults store.journals.file.disk ≡ old
CountsOpened faults old (results.Damaged at disk) = faults disk ≡ old
CountsOpened faults old (results.Failed disk) = (old ≤ faults disk) × HasRisen old (faults disk)
CountsOpened faults old (results.NoMemory disk) = faults disk ≡ old
