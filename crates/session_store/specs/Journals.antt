-- The entries of a file that are journals of sessions, whose numbers go from 1 on in the order of their openings.
use Rattle.std.specs.Prelude.{◌≡◌, ⊤, ℕ, zero, suc, ◌+◌, ◌≤◌, max, List, [], ◌∷◌, ◌++◌, get_or, length}
use Rattle.session_journal.specs.declared.entry.Entry.{Entry}
use Rattle.session_journal.specs.Stored.{IsLegal}
use Rattle.journal_store.specs.Entries.{journal_in}
use Rattle.journal_store.specs.declared.reading.SessionEntry.{SessionEntry}

-- the greatest number that a session of these entries has: how many they opened
abbrev pub opened_in : List SessionEntry → ℕ
opened_in [] = 0
opened_in (e ∷ entries) = max e.session (opened_in entries)

-- an entry may come after these: it is of a session that they opened, or of the next one, and behind the entries of that session
-- it makes a journal
pub record MayCome (entries : List SessionEntry) (e : SessionEntry) : Type 0 where
  pub numbered : 1 ≤ e.session
  pub next : e.session ≤ opened_in entries + 1
  pub journal : IsLegal (journal_in e.session entries ++ e.entry ∷ [])

-- each of these may come after the first ones and those of them before it
abbrev pub MayAllCome : List SessionEntry → List SessionEntry → Type 0
MayAllCome before [] = ⊤
MayAllCome before (e ∷ entries) = MayCome before e × MayAllCome (before ++ e ∷ []) entries

-- entries that are journals
abbrev pub AreJournals : List SessionEntry → Type 0
AreJournals entries = MayAllCome [] entries

-- the journal of the session with a number, of journals in the order of their numbers from 1 on
abbrev pub log_at : List (List Entry) → ℕ → List Entry
log_at logs zero = []
log_at logs (suc place) = get_or logs place []

-- these are the journals that the entries have
pub record AreLogs (logs : List (List Entry)) (entries : List SessionEntry) : Type 0 where
  pub count : length logs ≡ opened_in entries
  pub each : (session : ℕ) → log_at logs session ≡ journal_in session entries
