-- Bytes that are records.
use Rattle.std.specs.Prelude.{◌≡◌, ℕ, List}
use Rattle.std.specs.List.{AllByRecursion}
use Rattle.journal_store.specs.Records.{HasLength, records_of}

-- they are the records of some contents
pub record AreRecords (bytes : List ℕ) : Type 0 where
  pub contents : List (List ℕ)
  pub split : bytes ≡ records_of contents
  pub lengths : AllByRecursion HasLength contents
