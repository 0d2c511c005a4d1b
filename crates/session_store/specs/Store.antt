-- What a store of journals has.
use Rattle.std.specs.Prelude.{◌≡◌, ℕ, zero, suc, ◌<◌, ◌^◌, List, ◌++◌, get_or, length}
use Rattle.std.specs.List.{AllByRecursion}
use Rattle.session_journal.specs.declared.entry.Entry.{Entry}
use Rattle.journal_store.specs.Contents.{HasRanges}
use Rattle.journal_store.specs.Entries.{FitsContent, Keeps, journal_in}
use Rattle.journal_store.specs.declared.reading.SessionEntry.{SessionEntry}
use Rattle.session_store.specs.Journals.{opened_in}
use Rattle.session_store.specs.declared.store.Store.{Store}

-- an entry of a session
abbrev pub of_session : ℕ → Entry → SessionEntry
of_session session e = record { session = session; entry = e }

-- each of its numbers fits the bytes that a content has for it
abbrev pub FitsNumbers : SessionEntry → Type 0
FitsNumbers e = (e.session < 2 ^ 32) × (e.entry.caller < 2 ^ 32) × HasRanges e.entry.call

-- how many entries of a session were counted, by its number from 1 on
abbrev pub counted : List ℕ → ℕ → ℕ
counted counts zero = 0
counted counts (suc place) = get_or counts place 0

-- the file has these entries on the disk, those wait, each of them has a content, and all of them and the sessions that they opened are counted
pub record Stores {D : Type 0} (seen : D → List ℕ) (time : D → ℕ) (left : D → ℕ → List ℕ → Type 0) (store : Store D) (stored waiting : List SessionEntry) : Type 0 where
  pub file : Keeps seen time left store.journals stored waiting
  pub written : AllByRecursion FitsContent (stored ++ waiting)
  pub counts : (session : ℕ) → counted store.counts.items session ≡ length (journal_in session (stored ++ waiting))
  pub sessions : length store.counts.items ≡ opened_in (stored ++ waiting)
