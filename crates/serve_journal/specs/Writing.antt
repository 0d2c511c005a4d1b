-- Entries that are put behind those of a file, each at its place.
use Rattle.std.specs.Prelude.{◌≡◌, ◌⊎◌, ⊤, ℕ, ◌+◌, ◌<◌, ◌≤◌, List, [], ◌∷◌, ◌++◌, Some, length, min, slice_get}
use Rattle.std.specs.List.{fold}
use Rattle.entry_queue.specs.declared.queue.Noted.{Noted}
use Rattle.journal_store.specs.Entries.{journal_in}
use Rattle.journal_store.specs.declared.reading.SessionEntry.{SessionEntry}
use Rattle.session_store.specs.Journals.{opened_in}
use Rattle.session_store.specs.Store.{Stores}
use Rattle.serve_journal.specs.declared.writer.Early.{Early}
use Rattle.serve_journal.specs.declared.writer.Writer.{Writer}

-- the journal of its session has the entry where it was made: behind as many as it was noted with
abbrev pub StandsIn : List SessionEntry → Noted → Type 0
StandsIn entries n = slice_get (journal_in n.session entries) n.index ≡ Some n.entry

-- an entry may go behind these: it is of a session that they opened, or of the next one, and all that stand before it are there
pub record IsNext (entries : List SessionEntry) (n : Noted) : Type 0 where
  pub some : 1 ≤ n.session
  pub opened : n.session ≤ opened_in entries + 1
  pub place : n.index ≡ length (journal_in n.session entries)

-- each goes behind these and those before it: a session is there or is the next one
abbrev pub AllGo : List SessionEntry → List SessionEntry → Type 0
AllGo before [] = ⊤
AllGo before (e ∷ entries) = (1 ≤ e.session) × (e.session ≤ opened_in before + 1) × AllGo (before ++ e ∷ []) entries

-- one that isn't put yet was taken there
abbrev pub IsEarly : List Early → ℕ → Type 0
IsEarly early place = (k : ℕ) × (e : Early) × (slice_get early k ≡ Some e) × (e.place ≡ place)

-- the store has those, and each entry that was taken stands among them or isn't put yet
pub record Writes {D : Type 0} (seen : D → List ℕ) (time : D → ℕ) (left : D → ℕ → List ℕ → Type 0) (writer : Writer D) (stored waiting : List SessionEntry) : Type 0 where
  pub store : Stores seen time left writer.store stored waiting
  pub taken : (k : ℕ) (e : Early) → slice_get writer.early.items k ≡ Some e → slice_get writer.taken e.place ≡ Some e.noted
  pub each : (place : ℕ) (n : Noted) → slice_get writer.taken place ≡ Some n → StandsIn (stored ++ waiting) n ⊎ IsEarly writer.early.items place

-- some more wait, in order
pub record Puts {D : Type 0} (seen : D → List ℕ) (time : D → ℕ) (left : D → ℕ → List ℕ → Type 0) (writer : Writer D) (stored waiting : List SessionEntry) : Type 0 where
  pub more : List SessionEntry
  pub go : AllGo (stored ++ waiting) more
  pub writes : Writes seen time left writer stored (waiting ++ more)

-- how many of so many that were taken, from the first on, come before those that aren't put yet
abbrev pub far_in : ℕ → List Early → ℕ
far_in taken early = fold (λ far e. min far e.place) taken early

-- so many of those that were taken, from the first on, are all put
pub record IsFar (taken : List Noted) (early : List Early) (count : ℕ) : Type 0 where
  pub within : count ≤ length taken
  pub before : (k : ℕ) (e : Early) → slice_get early k ≡ Some e → count ≤ e.place

-- so many of these, from the first on, stand among the entries
abbrev pub FirstStand : List SessionEntry → List Noted → ℕ → Type 0
FirstStand entries taken count = (place : ℕ) (n : Noted) → place < count → slice_get taken place ≡ Some n → StandsIn entries n

-- some more are stored, in order, and with them so many of those that were taken, from the first on
pub record Written {D : Type 0} (seen : D → List ℕ) (time : D → ℕ) (left : D → ℕ → List ℕ → Type 0) (writer : Writer D) (stored : List SessionEntry) (count : ℕ) : Type 0 where
  pub more : List SessionEntry
  pub go : AllGo stored more
  pub writes : Writes seen time left writer (stored ++ more) []
  pub within : count ≤ length writer.taken
  pub first : FirstStand (stored ++ more) writer.taken count
