-- The journals of a file: the entries of its row, in order.
use Rattle.std.specs.Prelude.{◌≡◌, ◌⊎◌, ℕ, ◌==◌, List, [], ◌++◌, map, filter}
use Rattle.std.specs.List.{AllByRecursion}
use Rattle.session_journal.specs.declared.entry.Entry.{Entry}
use Rattle.journal_store.specs.Contents.{content_of, HasContent}
use Rattle.journal_store.specs.RecordFile.{IsAtRest}
use Rattle.journal_store.specs.Records.{HasLength, records_of, IsRowOf}
use Rattle.journal_store.specs.declared.journal_file.JournalFile.{JournalFile}
use Rattle.journal_store.specs.declared.reading.SessionEntry.{SessionEntry}

-- the content of each entry
abbrev pub contents_of : List SessionEntry → List (List ℕ)
contents_of entries = map (λ e. content_of e.session e.entry) entries

-- it has a content
abbrev pub FitsContent : SessionEntry → Type 0
FitsContent e = HasContent e.session e.entry

-- an image has these entries and no others
abbrev pub AreEntriesOf : List ℕ → List SessionEntry → Type 0
AreEntriesOf image entries = IsRowOf image (contents_of entries)

-- the journal of a session: its entries, in order
abbrev pub journal_in : ℕ → List SessionEntry → List Entry
journal_in session entries = map (λ e. e.entry) (filter (λ e. e.session == session) entries)

-- the entries are those from before, or those and all that were added
abbrev pub AreBeforeOrAfter : List SessionEntry → List SessionEntry → List ℕ → Type 0
AreBeforeOrAfter entries added image = AreEntriesOf image entries ⊎ AreEntriesOf image (entries ++ added)

-- the entries are those from before, or none
abbrev pub AreBeforeOrNone : List SessionEntry → List ℕ → Type 0
AreBeforeOrNone entries image = AreEntriesOf image entries ⊎ AreEntriesOf image []

-- These entries are stored, each of them on the disk, and those wait.
pub record Keeps {D : Type 0} (seen : D → List ℕ) (time : D → ℕ) (left : D → ℕ → List ℕ → Type 0) (journals : JournalFile D) (stored waiting : List SessionEntry) : Type 0 where
  pub file : IsAtRest seen time left journals.file (contents_of stored)
  pub group : journals.waiting ≡ records_of (contents_of waiting)
  pub lengths : AllByRecursion HasLength (contents_of waiting)
