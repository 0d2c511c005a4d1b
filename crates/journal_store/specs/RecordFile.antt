-- Where a file of records stands.
use Rattle.std.specs.Prelude.{◌≡◌, ℕ, ◌≤◌, List, false, length}
use Rattle.std.specs.List.{AllByRecursion}
use Rattle.bosh_ports.specs.Faults.{HasRisen}
use Rattle.journal_store.specs.Disk.{Only}
use Rattle.journal_store.specs.Records.{HasLength, records_of, file_of}
use Rattle.journal_store.specs.declared.record_file.RecordFile.{RecordFile}
use Rattle.journal_store.specs.declared.record_file.Stored.{Stored}
use Rattle.journal_store.specs.declared.record_file.Stored.TheVariants as stored

-- It has the records of these contents, all of them on the disk, and no call of it failed.
pub record IsAtRest {D : Type 0} (seen : D → List ℕ) (time : D → ℕ) (left : D → ℕ → List ℕ → Type 0) (file : RecordFile D) (contents : List (List ℕ)) : Type 0 where
  pub content : seen file.disk ≡ file_of contents
  pub lengths : AllByRecursion HasLength contents
  pub end : file.end ≡ length (records_of contents)
  pub durable : Only (seen file.disk) (left file.disk (time file.disk))
  pub unspent : file.is_spent ≡ false

-- it is at rest with some contents, unless an earlier call of it failed
abbrev pub IsReady : {D : Type 0} → (D → List ℕ) → (D → ℕ) → (D → ℕ → List ℕ → Type 0) → RecordFile D → Type 0
IsReady seen time left file = file.is_spent ≡ false → (contents : List (List ℕ)) × IsAtRest seen time left file contents

-- the count of faults rises with a fault, and with nothing else
abbrev pub CountsStored : ℕ → ℕ → Stored → Type 0
CountsStored old new stored.Failed = (old ≤ new) × HasRisen old new
CountsStored old new _ = new ≡ old
