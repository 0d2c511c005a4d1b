-- A script that goes on with the sessions of a file: what the file has of them after its lines.
use Rattle.std.specs.Prelude.{◌≡◌, ◌⊎◌, ⊤, ℕ, zero, suc, ◌+◌, ◌≤◌, false, List, [], ◌∷◌, ◌++◌, All, count_by, nat_le, nat_lt, Option, Some, None, slice_get, if◌then◌else◌}
use Rattle.std.specs.List.{AllByRecursion}
use Rattle.bosh_ports.specs.Sink.{AppendsFront}
use Rattle.session_core.specs.Journal.{Journal}
use Rattle.session_journal.specs.Stored.{IsJournalOf}
use Rattle.bosh_types.specs.Limits.{most_lines}
use Rattle.journal_store.specs.Entries.{AreEntriesOf, FitsContent, journal_in}
use Rattle.journal_store.specs.declared.reading.SessionEntry.{SessionEntry}
use Rattle.session_store.specs.Journals.{AreJournals, opened_in}
use Rattle.session_store.specs.Store.{Stores}
use Rattle.session_store.specs.declared.store.Store.{Store}
use Rattle.line_reader.specs.Lines.{lines_of}
use Rattle.script_text.specs.declared.kept.KeptError.{KeptError}
use Rattle.script_text.specs.declared.kept.KeptError.TheVariants as kept
use Rattle.script_text.specs.declared.line.BadKind.TheVariants.{Count, End}
use Rattle.script_text.specs.declared.line.LineRead.{LineRead}
use Rattle.script_text.specs.declared.line.LineRead.TheVariants.{BadLine}
use Rattle.script_text.specs.declared.report.ReportLine.{ReportLine}
use Rattle.script_text.specs.Entered.{Grew}
use Rattle.script_text.specs.Headline.{is_numbered, is_opened, manager_of}
use Rattle.script_text.specs.Live.{PlainLive}
use Rattle.script_text.specs.Manager.{PlainManager}
use Rattle.script_text.specs.Report.{report_text}
use Rattle.script_text.specs.Script.{PlainRun, Bodies, Goes, Ends, PlainNext, Step, Drive, drive_on, run_after, said, step_by}

-- what a script gives over sessions that go on
abbrev pub drive_from : PlainManager → List ℕ → Drive
drive_from m script = drive_on (Bodies m) 1 (lines_of script)

-- what the first lines of a script come to: what it is run over then, the sessions that ended, and the report of those lines
pub record Reached : Type 0 where
  pub run : PlainRun
  pub over : List PlainLive
  pub report : List ReportLine

-- what a line of a script says, where it has so many
abbrev pub read_at : List (List ℕ) → ℕ → LineRead
read_at lines place = elim (slice_get lines place) [ None ↦ BadLine (if nat_lt most_lines (place + 1) then Count else End) | Some line ↦ said (place + 1) line ]

-- one line more
abbrev pub onward : Reached → Step → Reached
onward r step = record { run = run_after r.run step.next; over = r.over ++ step.over; report = r.report ++ step.lines }

unfoldable pub reached : PlainManager → List (List ℕ) → ℕ → Reached
reached m lines zero = record { run = Bodies m; over = []; report = [] }
reached m lines (suc count) = onward (reached m lines count) (step_by (reached m lines count).run (count + 1) (read_at lines count))

-- the sessions that a script has after so many lines, beside those that ended before it: those that ended since, and those that are live
abbrev pub sessions_at : List PlainLive → Reached → List PlainLive
sessions_at ended r = ended ++ (r.over ++ (manager_of r.run).live)

-- the entries tell the journal of a session
abbrev pub HasJournal : List SessionEntry → PlainLive → Type 0
HasJournal entries s = IsJournalOf (journal_in s.number entries) s.journal

-- the entries tell a beginning of the journal of a session, or nothing of it
abbrev pub IsBehind : List SessionEntry → PlainLive → Type 0
IsBehind entries s = (journal_in s.number entries ≡ []) ⊎ ((before : Journal) × IsJournalOf (journal_in s.number entries) before × Grew before s.journal)

-- it is one of the sessions that these entries opened, or the next one
abbrev pub IsNextAtMost : List SessionEntry → PlainLive → Type 0
IsNextAtMost entries s = s.number ≤ opened_in entries + 1

-- Beside what is stored the store has what these sessions entered since, so that all of it is journals; of those that are left it has a
-- beginning, and of others what is stored.
pub record KeepsSome {D : Type 0} (seen : D → List ℕ) (time : D → ℕ) (left : D → ℕ → List ℕ → Type 0) (store : Store D) (stored : List SessionEntry) (added rest : List PlainLive) : Type 0 where
  pub waiting : List SessionEntry
  pub stores : Stores seen time left store stored waiting
  pub each : All (HasJournal (stored ++ waiting)) added
  pub journals : AreJournals (stored ++ waiting)
  pub behind : All (IsBehind (stored ++ waiting)) rest
  pub next : All (IsNextAtMost stored) rest
  pub numbers : (number : ℕ) → count_by (is_numbered number) added + count_by (is_numbered number) rest ≤ (if nat_le 1 number then 1 else 0)
  pub others : (number : ℕ) → count_by (is_numbered number) added ≡ 0 → journal_in number (stored ++ waiting) ≡ journal_in number stored

-- The entries are the journals of these sessions, of which each number up to this one has one, and of no others. Each entry has a content, and
-- in their order a file may have them.
pub record HaveJournals (entries : List SessionEntry) (sessions : List PlainLive) (opened : ℕ) : Type 0 where
  pub numbers : (number : ℕ) → count_by (is_numbered number) sessions ≡ (if is_opened opened number then 1 else 0)
  pub each : All (HasJournal entries) sessions
  pub others : (number : ℕ) → is_opened opened number ≡ false → journal_in number entries ≡ []
  pub written : AllByRecursion FitsContent entries
  pub journals : AreJournals entries

-- the entries are the journals of the sessions that a script has there, beside those that ended before it
abbrev pub HaveReached : List SessionEntry → List PlainLive → Reached → Type 0
HaveReached entries ended r = HaveJournals entries (sessions_at ended r) (manager_of r.run).opened

-- an image has these
pub record HasReached (ended : List PlainLive) (r : Reached) (image : List ℕ) : Type 0 where
  pub entries : List SessionEntry
  pub are : AreEntriesOf image entries
  pub have : HaveReached entries ended r

-- and so has a store, all of them on the disk
abbrev pub HasKept : {D : Type 0} → (D → List ℕ) → (D → ℕ) → (D → ℕ → List ℕ → Type 0) → Store D → List PlainLive → Reached → Type 0
HasKept seen time left store ended r = (entries : List SessionEntry) × Stores seen time left store entries [] × HaveReached entries ended r

abbrev pub HasEither : List PlainLive → Reached → Reached → List ℕ → Type 0
HasEither ended r then_r image = HasReached ended r image ⊎ HasReached ended then_r image

-- what these sessions entered since is stored, of no other anything was added, and a file may have all of it
pub record AddsJournals (stored entries : List SessionEntry) (sessions : List PlainLive) : Type 0 where
  pub each : All (HasJournal entries) sessions
  pub others : (number : ℕ) → count_by (is_numbered number) sessions ≡ 0 → journal_in number entries ≡ journal_in number stored
  pub written : AllByRecursion FitsContent entries
  pub journals : AreJournals entries

abbrev pub HasStored : {D : Type 0} → (D → List ℕ) → (D → ℕ) → (D → ℕ → List ℕ → Type 0) → Store D → List SessionEntry → List PlainLive → Type 0
HasStored seen time left store stored sessions = (entries : List SessionEntry) × Stores seen time left store entries [] × AddsJournals stored entries sessions

-- an image has what was stored, or all that was added too
abbrev pub HasNoneOrAll : List SessionEntry → List PlainLive → List ℕ → Type 0
HasNoneOrAll stored sessions image = AreEntriesOf image stored ⊎ ((entries : List SessionEntry) × AreEntriesOf image entries × AddsJournals stored entries sessions)

-- a script that tells of bodies
abbrev pub IsBodies : PlainRun → Type 0
IsBodies run = (m : PlainManager) × (run ≡ Bodies m)

-- the disk failed, or memory was wanting
abbrev pub IsOfStore : KeptError → Type 0
IsOfStore kept.ReadFault = ⊥
IsOfStore kept.WriteFault = ⊥
IsOfStore kept.StoreFault = ⊤
IsOfStore kept.NoMemory = ⊤

-- an image has the journals of all sessions as they are after so many lines of a script; and after some
abbrev pub HasJournalsAt : PlainManager → List PlainLive → List ℕ → ℕ → List ℕ → Type 0
HasJournalsAt m ended script count image = HasReached ended (reached m (lines_of script) count) image

abbrev pub HasJournalsOf : PlainManager → List PlainLive → List ℕ → List ℕ → Type 0
HasJournalsOf m ended script image = (count : ℕ) × HasJournalsAt m ended script count image

-- So many lines are stored, of whose report a front was given and nothing else; a crash since some moment leaves the journals as they
-- are after those lines, or after one line more.
pub record KeepsUp {D : Type 0} (time : D → ℕ) (left : D → ℕ → List ℕ → Type 0) (m : PlainManager) (ended : List PlainLive) (script : List ℕ) (disk : D) (old new : Option (List ℕ)) : Type 0 where
  pub count : ℕ
  pub given : AppendsFront old new (report_text (reached m (lines_of script) count).report)
  pub since : ℕ
  pub later : since ≤ time disk
  pub crash : (image : List ℕ) → left disk since image → HasJournalsAt m ended script count image ⊎ HasJournalsAt m ended script (count + 1) image
