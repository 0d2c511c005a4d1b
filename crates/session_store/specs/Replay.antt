-- A record of a file that is entered once more.
use Rattle.std.specs.Prelude.{◌≡◌, ℕ, ◌+◌, ◌≤◌, ◌==◌, ◌&&◌, Bool, false, nat_le, List, [], ◌∷◌, ◌++◌, Option, Some, None, chars, length, max, if◌then◌else◌}
use Rattle.std.specs.List.{list_all}
use Rattle.std.specs.Str.{is_utf8}
use Rattle.body_cutter.specs.Utf8.{is_tabled}
use Rattle.session_attrs.specs.Serving.{may_greet}
use Rattle.session_core.specs.Journal.{IsOpening}
use Rattle.session_core.specs.declared.opening.Opening.{Opening}
use Rattle.session_journal.specs.declared.entry.Entered.{Entered}
use Rattle.session_journal.specs.declared.entry.Entry.{Entry}
use Rattle.session_journal.specs.Entries.{opening_in}
use Rattle.session_journal.specs.Stored.{IsLegal}
use Rattle.journal_store.specs.Contents.{content_of, HasContent}
use Rattle.journal_store.specs.Reading.{entry_at}
use Rattle.journal_store.specs.declared.reading.SessionEntry.{SessionEntry}
use Rattle.session_store.specs.Journals.{log_at}
use Rattle.session_store.specs.declared.replay.Replayed.{Replayed}
use Rattle.session_store.specs.declared.replay.Replayed.TheVariants as replayed

-- UTF-8 of characters that may stand in an answer
abbrev pub is_text : List ℕ → Bool
is_text bytes = if is_utf8 bytes then list_all is_tabled (chars bytes) else false

-- a text of so many bytes at least and at most
unfoldable pub is_text_within : ℕ → ℕ → List ℕ → Bool
is_text_within least most bytes = (nat_le least (length bytes) && nat_le (length bytes) most) && is_text bytes

-- a copy beyond a gap may wait so many times `wait`
abbrev pub may_wait : ℕ → Bool
may_wait gap_waits = nat_le 1 gap_waits && nat_le gap_waits 10

-- a session may have this name, be for this host, and greet so
abbrev pub may_stand : List ℕ → List ℕ → List (List ℕ) → Bool
may_stand sid host greeting = is_text_within 1 64 sid && (is_text_within 1 1023 host && may_greet greeting)

-- the opening that an entry tells, where a session may be opened so
abbrev pub IsOpeningOf : Entered → Option Opening → Type 0
IsOpeningOf call (Some o) = (opening_in call ≡ Some o) × IsOpening o
IsOpeningOf call None = (o : Opening) → opening_in call ≡ Some o → IsOpening o → ⊥

-- the session that an entry opens, where it may open one
abbrev pub OpensAs : Entry → Option (List Entry) → Type 0
OpensAs e (Some log) = (log ≡ e ∷ []) × IsLegal (e ∷ [])
OpensAs e None = IsLegal (e ∷ []) → ⊥

-- one entry goes behind the journal of its session, which is one that there is or the next one; and no other changes
pub record GoesBehind (logs : List (List Entry)) (session : ℕ) (e : Entry) (logs' : List (List Entry)) : Type 0 where
  pub numbered : 1 ≤ session
  pub next : session ≤ length logs + 1
  pub legal : IsLegal (log_at logs session ++ e ∷ [])
  pub count : length logs' ≡ max session (length logs)
  pub mine : log_at logs' session ≡ log_at logs session ++ e ∷ []
  pub others : (other : ℕ) → (other == session) ≡ false → log_at logs' other ≡ log_at logs other

-- an entry of a session is entered, or it may not come there and nothing changes
abbrev pub Enters : List (List Entry) → ℕ → Entry → Replayed → List (List Entry) → Type 0
Enters logs session e replayed.Entered logs' = GoesBehind logs session e logs'
Enters logs session e replayed.Damaged logs' = (logs' ≡ logs) × (1 ≤ session → session ≤ length logs + 1 → IsLegal (log_at logs session ++ e ∷ []) → ⊥)

-- the content is that of an entry, which is entered; or it is of none that may come there, and nothing changes
abbrev pub Replays : List (List Entry) → List ℕ → Replayed → List (List Entry) → Type 0
Replays logs content replayed.Entered logs' =
    (e : SessionEntry) × (content ≡ content_of e.session e.entry) × HasContent e.session e.entry × GoesBehind logs e.session e.entry logs'
Replays logs content replayed.Damaged logs' =
    (logs' ≡ logs) × ((e : SessionEntry) → entry_at content ≡ Some e → 1 ≤ e.session → e.session ≤ length logs + 1 → IsLegal (log_at logs e.session ++ e.entry ∷ []) → ⊥)
