-- The command `keep`: what it gives, and what a crash leaves of its file.
use Rattle.std.specs.Prelude.{◌≡◌, ◌⊎◌, ℕ, List, [], ◌∷◌, ◌++◌, Option, Some, None, Result, Ok, Err, IfSome, String, string_bytes, codes, if◌then◌else◌}
use Rattle.std.specs.Fmt.{decimal}
use Rattle.std.specs.Global.{Global}
use Rattle.std.specs.Io.KnownBytes.{Appends}
use Rattle.std.specs.Str.{bytes_eq}
use Rattle.journal_store.specs.Crash.{EachCrash}
use Rattle.journal_store.specs.Entries.{AreEntriesOf}
use Rattle.journal_store.specs.declared.reading.SessionEntry.{SessionEntry}
use Rattle.session_journal.specs.declared.entry.Entry.{Entry}
use Rattle.session_store.specs.Journals.{AreJournals, AreLogs}
use Rattle.session_store.specs.Opened.{IsDamagedAt}
use Rattle.script_text.specs.declared.driven.Driven.{Driven}
use Rattle.script_text.specs.declared.driven.Driven.TheVariants as driven
use Rattle.script_text.specs.declared.kept.KeptError.{KeptError}
use Rattle.script_text.specs.declared.kept.KeptError.TheVariants as errors
use Rattle.script_text.specs.Kept.{HasJournalsOf, KeepsUp, drive_from}
use Rattle.script_text.specs.Live.{PlainLive}
use Rattle.script_text.specs.Report.{report_text}
use Rattle.script_text.specs.Resumed.{AreSessions, over_of, resumed_manager}
use Rattle.script_text.specs.Script.{Drive}
use Rattle.bosh_commands.specs.declared.keep_command.Kept.{Kept}
use Rattle.bosh_commands.specs.declared.keep_command.Kept.TheVariants as results

-- the status of a run, and the disk as it is then
abbrev pub status_of : {D : Type 0} → Kept D → ℕ
status_of (results.Ran status store) = status
status_of (results.Stopped status disk) = status

abbrev pub disk_of : {D : Type 0} → Kept D → D
disk_of (results.Ran status store) = store.journals.file.disk
disk_of (results.Stopped status disk) = disk

-- `keep` and the name of a file
unfoldable pub keep_command : List ℕ → List ℕ → Option (List ℕ)
keep_command word name = if bytes_eq word (codes "keep") then Some name else None

abbrev pub file_in : List (String Global) → Option (List ℕ)
file_in [] = None
file_in (word ∷ []) = None
file_in (word ∷ name ∷ []) = keep_command (string_bytes word) (string_bytes name)
file_in (word ∷ name ∷ other ∷ others) = None

-- the status of a script that was run to its end
abbrev pub driven_status : Driven → ℕ
driven_status driven.Done = 0
driven_status (driven.Bad line kind) = 3

-- and of one over a file, however it ended
abbrev pub kept_status : Result Driven KeptError → ℕ
kept_status (Ok outcome) = driven_status outcome
kept_status (Err errors.ReadFault) = 4
kept_status (Err errors.WriteFault) = 5
kept_status (Err errors.StoreFault) = 11
kept_status (Err errors.NoMemory) = 6

abbrev pub IsWhole : Drive → ℕ → Option (List ℕ) → Option (List ℕ) → Type 0
IsWhole drive status old new = (status ≡ driven_status drive.outcome) × Appends old new (report_text drive.report)

-- this status is that of the script over sessions with these journals, and the sink was given its report and nothing else
abbrev pub GivesResumed : List (List Entry) → List ℕ → ℕ → Option (List ℕ) → Option (List ℕ) → Type 0
GivesResumed logs script status old new = (all : List PlainLive) × AreSessions 0 logs all × IsWhole (drive_from (resumed_manager logs all) script) status old new

-- The file has the journals of sessions, and the status and the report are those of the script over these sessions.
pub record GivesKept (file : List ℕ) (left : Option (List ℕ)) (status : ℕ) (old new : Option (List ℕ)) : Type 0 where
  pub entries : List SessionEntry
  pub are : AreEntriesOf file entries
  pub journals : AreJournals entries
  pub logs : List (List Entry)
  pub are_logs : AreLogs logs entries
  pub gives : IfSome left (λ script. GivesResumed logs script status old new)

-- the sink was given `damaged` and the place where the file is none of journals
unfoldable pub damaged_text : ℕ → List ℕ
damaged_text at = codes "damaged " ++ decimal at ++ 10 ∷ []

abbrev pub SaysDamaged : List ℕ → Option (List ℕ) → Option (List ℕ) → Type 0
SaysDamaged file old new = (at : ℕ) × IsDamagedAt file at × Appends old new (damaged_text at)

-- A crash since some moment leaves the journal of each session as it is after the lines of whose report anything was given, or after one
-- line more; and a crash at any moment leaves them as they are after some lines.
pub record KeepsSessions {D : Type 0} (time : D → ℕ) (left : D → ℕ → List ℕ → Type 0) (entries : List SessionEntry) (script : List ℕ) (old new : D) (given given_then : Option (List ℕ)) : Type 0 where
  pub logs : List (List Entry)
  pub all : List PlainLive
  pub are_logs : AreLogs logs entries
  pub sessions : AreSessions 0 logs all
  pub up : KeepsUp time left (resumed_manager logs all) (over_of all) script new given given_then
  pub any_moment : EachCrash time left old new (HasJournalsOf (resumed_manager logs all) (over_of all) script)

-- a crash at any moment since a disk was the old one leaves a file that is damaged nowhere
abbrev pub LeavesUndamaged : {D : Type 0} → (D → ℕ) → (D → ℕ → List ℕ → Type 0) → D → D → Type 0
LeavesUndamaged time left old new = (image : List ℕ) (at : ℕ) → left new (time old) image → IsDamagedAt image at → ⊥

-- nothing was given, and a crash at any moment leaves the entries that the file has
abbrev pub LeavesFile : {D : Type 0} → (D → ℕ) → (D → ℕ → List ℕ → Type 0) → List SessionEntry → D → D → Option (List ℕ) → Option (List ℕ) → Type 0
LeavesFile time left entries old new given given_then = (given_then ≡ given) × EachCrash time left old new (λ image. AreEntriesOf image entries)

abbrev pub KeepsFile : {D : Type 0} → (D → ℕ) → (D → ℕ → List ℕ → Type 0) → List SessionEntry → List ℕ → D → D → Option (List ℕ) → Option (List ℕ) → Type 0
KeepsFile time left entries script old new given given_then =
    LeavesFile time left entries old new given given_then ⊎ KeepsSessions time left entries script old new given given_then
