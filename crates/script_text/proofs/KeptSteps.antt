-- One line of a script over a file.
use Rattle.std.proofs.Common.{◌≡◌, inl, inr, ⊎_elim, ℕ, ◌+◌, ◌≤◌, List, [], ◌∷◌, ◌++◌, All, Option, Some, None, Result, Ok, Err, OnOk, refl, sym, subst, ◌∙◌, ap, arith}
use Rattle.std.proofs.lemmas.List.{append-nil}
use Rattle.std.specs.Prelude.{◌⊎◌, nat_lt}
use Rattle.journal_store.specs.Crash.{EachCrash}
use Rattle.journal_store.specs.Entries.{AreBeforeOrAfter, AreEntriesOf, contents_of}
use Rattle.journal_store.specs.RecordFile.{IsAtRest}
use Rattle.journal_store.specs.Records.{IsRowOf}
use Rattle.journal_store.specs.declared.reading.SessionEntry.{SessionEntry}
use Rattle.journal_store.specs.declared.record_file.RecordFile.{RecordFile}
use Rattle.journal_store.proofs.Moments.{weaker}
use Rattle.journal_store.proofs.RecordLemmas.{row_of_file}
use Rattle.session_laws.proofs.Tests.{split}
use Rattle.session_store.specs.Opened.{IsDamagedAt}
use Rattle.session_store.specs.Store.{Stores}
use Rattle.session_store.specs.declared.store.Store.{Store}
use Rattle.session_store.proofs.WholeLemmas.{not_damaged}
use Rattle.script_text.specs.declared.driven.Driven.{Driven}
use Rattle.script_text.specs.declared.event.Event.{Event}
use Rattle.script_text.specs.declared.event.Event.TheVariants.{Gives, Shuts}
use Rattle.script_text.specs.declared.line.LineRead.{LineRead}
use Rattle.script_text.specs.declared.line.LineRead.TheVariants.{Line, BadLine}
use Rattle.script_text.specs.declared.line.ScriptLine.{ScriptLine}
use Rattle.script_text.specs.declared.line.ScriptLine.TheVariants.{Open, Short, Host, At, Post, Close, Back, Shut, End as LastLine}
use Rattle.script_text.specs.declared.live.Live.{Live}
use Rattle.script_text.specs.declared.report.Refusal.{Refusal}
use Rattle.script_text.specs.declared.report.Refusal.TheVariants.{BackOver, ShutOver}
use Rattle.script_text.specs.declared.run.Next.TheVariants as nexts
use Rattle.script_text.specs.declared.run.Run.{Run}
use Rattle.script_text.specs.Headline.{manager_of}
use Rattle.script_text.specs.Kept.{AddsJournals, HasEither, HasJournal, HasJournalsOf, HasKept, HasNoneOrAll, HasReached, HasStored, HaveReached, IsBodies, KeepsSome, Reached, onward}
use Rattle.script_text.specs.Live.{PlainLive}
use Rattle.script_text.specs.Manager.{PlainManager, is_waiting, number_of}
use Rattle.script_text.specs.Script.{PlainRun, Beginning, Arrivals, Bodies, PlainNext, Goes, Ends, Step, body_step, run_after, server_step, step_by, takes_host, was_given}
use Rattle.script_text.specs.Stands.{AreLive, IsNext, IsRun}
use Rattle.script_text.proofs.GrowLemmas.{Continues, step_continues}
use Rattle.script_text.proofs.KeptLemmas.{line_begins, line_ends}
use Rattle.script_text.proofs.SessionsLemmas.{all_back}

-- the line at which a script ends ends no session

abbrev EndsNone : Step → Type 0
EndsNone step = (outcome : Driven) → step.next ≡ Ends outcome → step.over ≡ []

server_none : (m : PlainManager) (n : ℕ) (event : Event) (refusal : Refusal) (number : Option ℕ) → EndsNone (server_step m n event refusal number)
server_none m n event refusal None = λ outcome is. refl
server_none m n event refusal (Some number) = λ outcome is. absurd (cc)

body_none : (m : PlainManager) (n : ℕ) (line : ScriptLine) → EndsNone (body_step m n line)
body_none m n (Open rid) = λ outcome is. refl
body_none m n (Short rid stanza) = λ outcome is. refl
body_none m n (Host name greeting) = split EndsNone (takes_host m name) _ _ (λ is outcome ends. absurd (cc)) (λ is outcome ends. refl)
body_none m n (At moment) = split EndsNone (nat_lt moment m.moment) _ _ (λ is outcome ends. refl) (λ is outcome ends. absurd (cc))
body_none m n (Post conn body) = split EndsNone (is_waiting m conn) _ _ (λ is outcome ends. refl) (λ is outcome ends. absurd (cc))
body_none m n (Close conn) = split EndsNone (is_waiting m conn) _ _ (λ is outcome ends. absurd (cc)) (λ is outcome ends. refl)
body_none m n (Back sid stream stanza) = server_none m n (Gives stream stanza) BackOver (was_given m.opened (number_of sid))
body_none m n (Shut sid stream closing) = server_none m n (Shuts stream closing) ShutOver (was_given m.opened (number_of sid))
body_none m n LastLine = λ outcome is. refl

read_none : (run : PlainRun) → IsBodies run → (n : ℕ) (read : LineRead) → EndsNone (step_by run n read)
read_none Beginning (m, is) n read = absurd (cc)
read_none (Arrivals other) (m, is) n read = absurd (cc)
read_none (Bodies m) bodies n (Line line) = body_none m n line
read_none (Bodies m) bodies n (BadLine kind) = λ outcome is. refl

-- what is at rest has its entries in each crash image
pub rest_crash : {D : Type 0} (seen : D → List ℕ) (time : D → ℕ) (left : D → ℕ → List ℕ → Type 0) (file : RecordFile D) (stored : List SessionEntry) → IsAtRest seen time left file (contents_of stored)
    → EachCrash time left file.disk file.disk (λ image. AreEntriesOf image stored)
rest_crash seen time left file stored rest = record {
  later = omega arith;
  each = λ image is. subst (λ (l : List ℕ). IsRowOf l (contents_of stored)) (sym (rest.durable image is ∙ rest.content)) (row_of_file (contents_of stored) rest.lengths);
  before = λ since image le is. inl is;
}

module _ {D : Type 0} (seen : D → List ℕ) (time : D → ℕ) (left : D → ℕ → List ℕ → Type 0) (ended : List PlainLive) (r : Reached) (bodies : IsBodies r.run) (n : ℕ) (read : LineRead) where
  abbrev step : Step
  step = step_by r.run n read

  abbrev after : PlainManager
  after = manager_of (run_after r.run step.next)

  continues : (stored : List SessionEntry) → HaveReached stored ended r → Continues stored (manager_of r.run).live (manager_of r.run).opened step.over after
  continues stored have =
      step_continues stored r.run bodies (all_back (HasJournal stored) r.over (manager_of r.run).live (all_back (HasJournal stored) ended (r.over ++ (manager_of r.run).live) have.each)) have.others n read

  -- before it what it entered is wanting
  pub line_first : (store : Store D) (stored : List SessionEntry) → HaveReached stored ended r → Stores seen time left store stored [] → KeepsSome seen time left store stored [] (step.over ++ after.live)
  line_first store stored have stores =
      line_begins seen time left stored ended r.over (manager_of r.run).live step.over (manager_of r.run).opened after have (continues stored have) store stores

  reached_with : (stored entries : List SessionEntry) → HaveReached stored ended r → AddsJournals stored entries (step.over ++ after.live) → HaveReached entries ended (onward r step)
  reached_with stored entries have adds =
      line_ends seen time left stored ended r.over (manager_of r.run).live step.over (manager_of r.run).opened after have (continues stored have) entries adds

  -- once it is stored the file has all
  pub line_stored : (store : Store D) (stored : List SessionEntry) → HaveReached stored ended r → HasStored seen time left store stored (step.over ++ after.live) → HasKept seen time left store ended (onward r step)
  line_stored store stored have (entries, stores, adds) = (entries, stores, reached_with stored entries have adds)

  pub line_crash : (old new : D) (stored : List SessionEntry) → HaveReached stored ended r → EachCrash time left old new (HasNoneOrAll stored (step.over ++ after.live))
      → EachCrash time left old new (HasEither ended r (onward r step))
  line_crash old new stored have crash = weaker time left old new (HasNoneOrAll stored (step.over ++ after.live)) (HasEither ended r (onward r step)) crash by
    where
      by : (image : List ℕ) → HasNoneOrAll stored (step.over ++ after.live) image → HasEither ended r (onward r step) image
      by image (inl are) = inl (record { entries = stored; are = are; have = have })
      by image (inr (entries, are, adds)) = inr (record { entries = entries; are = are; have = reached_with stored entries have adds })

  -- the last line enters nothing
  pub last_kept : (outcome : Driven) → step.next ≡ Ends outcome → (store : Store D) → HasKept seen time left store ended r → HasKept seen time left store ended (onward r step)
  last_kept outcome is store (entries, stores, have) = (entries, stores, subst (λ (f : Reached). HaveReached entries ended f) same have)
    where
      same_run : run_after r.run step.next ≡ r.run
      same_run = ap (run_after r.run) is

      same_over : r.over ≡ r.over ++ step.over
      same_over = sym (ap (λ (l : List PlainLive). r.over ++ l) (read_none r.run bodies n read outcome is) ∙ append-nil r.over)

      same : record { run = r.run; over = r.over; report = r.report ++ step.lines } ≡ onward r step
      same = ap (λ (l : List PlainLive). let f : Reached = record { run = r.run; over = l; report = r.report ++ step.lines } in f) same_over
          ∙ ap (λ (u : PlainRun). let f : Reached = record { run = u; over = r.over ++ step.over; report = r.report ++ step.lines } in f) (sym same_run)

  pub last_crash : (store : Store D) → HasKept seen time left store ended r → EachCrash time left store.journals.file.disk store.journals.file.disk (HasEither ended r (onward r step))
  last_crash store (entries, stores, have) =
      weaker time left store.journals.file.disk store.journals.file.disk (λ image. AreEntriesOf image entries) (HasEither ended r (onward r step))
      (rest_crash seen time left store.journals.file entries (stores.file).file)
      (λ image are. inl (record { entries = entries; are = are; have = have }))

-- what was added to the store is what these sessions entered
pub adds_of : {D : Type 0} (seen : D → List ℕ) (time : D → ℕ) (left : D → ℕ → List ℕ → Type 0) (store : Store D) (stored : List SessionEntry) (sessions : List PlainLive)
    → (some : KeepsSome seen time left store stored sessions []) → AddsJournals stored (stored ++ some.waiting) sessions
adds_of seen time left store stored sessions some = record { each = some.each; others = some.others; written = (some.stores).written; journals = some.journals }

pub none_or_all : {D : Type 0} (seen : D → List ℕ) (time : D → ℕ) (left : D → ℕ → List ℕ → Type 0) (store : Store D) (stored : List SessionEntry) (sessions : List PlainLive) (old new : D)
    → (some : KeepsSome seen time left store stored sessions []) → EachCrash time left old new (AreBeforeOrAfter stored some.waiting) → EachCrash time left old new (HasNoneOrAll stored sessions)
none_or_all seen time left store stored sessions old new some crash = weaker time left old new (AreBeforeOrAfter stored some.waiting) (HasNoneOrAll stored sessions) crash by
  where
    by : (image : List ℕ) → AreBeforeOrAfter stored some.waiting image → HasNoneOrAll stored sessions image
    by image (inl are) = inl are
    by image (inr are) = inr (stored ++ some.waiting, are, adds_of seen time left store stored sessions some)

-- nothing was asked of the disk
pub unasked : {D : Type 0} (seen : D → List ℕ) (time : D → ℕ) (left : D → ℕ → List ℕ → Type 0) (old new : Store D) (stored : List SessionEntry) (sessions : List PlainLive)
    → KeepsSome seen time left old stored [] sessions → new.journals.file ≡ old.journals.file → EachCrash time left old.journals.file.disk new.journals.file.disk (HasNoneOrAll stored sessions)
unasked seen time left old new stored sessions some same =
    subst (λ (f : RecordFile _). EachCrash time left old.journals.file.disk f.disk (HasNoneOrAll stored sessions)) (sym same)
    (weaker time left old.journals.file.disk old.journals.file.disk (λ image. AreEntriesOf image stored) (HasNoneOrAll stored sessions)
    (rest_crash seen time left old.journals.file stored ((some.stores).file).file) (λ image are. inl are))

-- the disk was asked for what waits
pub asked : {D : Type 0} (seen : D → List ℕ) (time : D → ℕ) (left : D → ℕ → List ℕ → Type 0) (old mid new : Store D) (stored : List SessionEntry) (sessions : List PlainLive)
    → mid.journals.file ≡ old.journals.file → (some : KeepsSome seen time left mid stored sessions []) → EachCrash time left mid.journals.file.disk new.journals.file.disk (AreBeforeOrAfter stored some.waiting)
    → EachCrash time left old.journals.file.disk new.journals.file.disk (HasNoneOrAll stored sessions)
asked seen time left old mid new stored sessions same some crash =
    subst (λ (f : RecordFile _). EachCrash time left f.disk new.journals.file.disk (HasNoneOrAll stored sessions)) same
    (none_or_all seen time left mid stored sessions mid.journals.file.disk new.journals.file.disk some crash)

-- the sessions that are live then
pub live_then : (run : Run) (before : PlainRun) (next : PlainNext) (live : List Live) → IsNext (nexts.Goes run) next → ((plain : PlainRun) → IsRun run plain → AreLive live (manager_of plain).live)
    → AreLive live (manager_of (run_after before next)).live
live_then run before (Goes plain) live is lives = lives plain is
live_then run before (Ends outcome) live is lives = absurd is

pub ends_next : (outcome : Driven) (next : PlainNext) → IsNext (nexts.Ends outcome) next → next ≡ Ends outcome
ends_next outcome (Goes plain) is = absurd is
ends_next outcome (Ends other) is = ap Ends (sym is)

pub on_ok : {T E : Type 0} (r : Result T E) (P Q : Type 0) → (P → Q) → OnOk r P → OnOk r Q
on_ok (Ok x) P Q so p = so p
on_ok (Err e) P Q so p = tt

-- an image that has journals of a script is damaged nowhere
pub undamaged : (m : PlainManager) (ended : List PlainLive) (script image : List ℕ) (at : ℕ) → HasJournalsOf m ended script image → IsDamagedAt image at → ⊥
undamaged m ended script image at (count, has) damaged = not_damaged image has.entries at has.are (has.have).written (has.have).journals damaged
