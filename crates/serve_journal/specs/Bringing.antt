-- What a file of journals brings back.
use Rattle.std.specs.Prelude.{◌≡◌, ◌⊎◌, ◌==◌, ◌&&◌, if◌then◌else◌, ⊤, ℕ, Bool, List, [], ◌∷◌, Option, None, Some, true, false, max}
use Rattle.std.specs.List.{fold, list_all}
use Rattle.session_core.specs.Journal.{Journal, state_of}
use Rattle.session_core.specs.State.{is_over}
use Rattle.session_journal.specs.declared.entry.Entry.{Entry}
use Rattle.session_journal.specs.Entries.{journal_in}
use Rattle.journal_store.specs.Contents.{moment_of}
use Rattle.journal_store.specs.Entries.{AreEntriesOf}
use Rattle.journal_store.specs.declared.reading.SessionEntry.{SessionEntry}
use Rattle.session_store.specs.Journals.{AreJournals, AreLogs}
use Rattle.session_store.specs.Opened.{IsDamagedAt}
use Rattle.session_store.specs.Store.{Stores}
use Rattle.session_store.specs.declared.store.Store.{Store}
use Rattle.serve_journal.specs.declared.bringing.Brought.{Brought}
use Rattle.serve_journal.specs.declared.bringing.Brought.TheVariants as brought

-- the greatest moment of these entries, and of these journals
abbrev pub latest_in : List Entry → ℕ
latest_in entries = fold (λ latest e. max latest (moment_of e.call)) 0 entries

abbrev pub latest_of : List (List Entry) → ℕ
latest_of logs = fold (λ latest log. max latest (latest_in log)) 0 logs

-- this holds of the store, where there is one
abbrev pub IfSessions : {D : Type 0} → Brought D → (Store D → Type 0) → Type 0
IfSessions (brought.Sessions restored store latest) P = P store
IfSessions (brought.Damaged at) P = ⊤
IfSessions brought.Failed P = ⊤
IfSessions brought.NoMemory P = ⊤

-- the session of this journal has ended
abbrev pub has_ended : Option Journal → Bool
has_ended None = false
has_ended (Some journal) = is_over (state_of journal)

-- a server's session has these entries, and has ended with them
abbrev pub is_finished : List Entry → Bool
is_finished log = has_ended (journal_in log) && list_all (λ (e : Entry). e.caller == 0) log

-- there are sessions, and each has ended
abbrev pub are_finished : List (List Entry) → Bool
are_finished [] = false
are_finished (log ∷ logs) = is_finished log && list_all is_finished logs

-- the store has the entries of these journals, all of them on the disk; where each session of them has ended, it has none
abbrev pub KeepsLive : {D : Type 0} → (D → List ℕ) → (D → ℕ) → (D → ℕ → List ℕ → Type 0) → Store D → List SessionEntry → List (List Entry) → Type 0
KeepsLive seen time left store entries logs = Stores seen time left store (if are_finished logs then [] else entries) []

-- the image has the entries of these journals; or each session of them has ended, and it has none
abbrev pub LeavesLive : List SessionEntry → List ℕ → Type 0
LeavesLive entries image = AreEntriesOf image entries ⊎ (AreEntriesOf image [] × (logs : List (List Entry)) × AreLogs logs entries × (are_finished logs ≡ true))

-- The file has journals, and the store has them, or none where all have ended; or the file is damaged at that place, or at 0 where a
-- session of it isn't a server's.
abbrev pub Brings : {D : Type 0} → (D → List ℕ) → (D → ℕ) → (D → ℕ → List ℕ → Type 0) → List ℕ → Brought D → Type 0
Brings seen time left file (brought.Sessions restored store latest) =
    (entries : List SessionEntry) × AreEntriesOf file entries × AreJournals entries
    × (logs : List (List Entry)) × AreLogs logs entries × KeepsLive seen time left store entries logs
Brings seen time left file (brought.Damaged at) = (at ≡ 0) ⊎ IsDamagedAt file at
Brings seen time left file brought.Failed = ⊤
Brings seen time left file brought.NoMemory = ⊤
