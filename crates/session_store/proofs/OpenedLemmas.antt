-- Records of a file that were entered.
use Rattle.std.proofs.Common.{◌≡◌, ℕ, zero, suc, ◌+◌, ◌≤◌, true, List, [], ◌∷◌, ◌++◌, Some, length, get_or, drop, map, refl, sym, ◌∙◌, ap, subst, arith, append_assoc, length-append}
use Rattle.std.specs.List.{AllByRecursion}
use Rattle.std.proofs.lemmas.List.{append-nil, length-map}
use Rattle.session_journal.specs.declared.entry.Entry.{Entry}
use Rattle.session_journal.specs.Stored.{IsLegal}
use Rattle.journal_store.specs.Contents.{HasContent, content_of}
use Rattle.journal_store.specs.Crash.{EachCrash}
use Rattle.journal_store.specs.Disk.{Untouched}
use Rattle.journal_store.specs.Entries.{AreEntriesOf, FitsContent, Keeps, contents_of, journal_in}
use Rattle.journal_store.specs.Opening.{HasRead}
use Rattle.journal_store.specs.Reading.{entry_at}
use Rattle.journal_store.specs.RecordFile.{IsAtRest}
use Rattle.journal_store.specs.Records.{HasLength, IsRowOf, record_of, records_of}
use Rattle.journal_store.specs.declared.opening.Opening.{Opening}
use Rattle.journal_store.specs.declared.reading.SessionEntry.{SessionEntry}
use Rattle.journal_store.specs.declared.record_file.RecordFile.{RecordFile}
use Rattle.journal_store.proofs.EntryLemmas.{contents-append}
use Rattle.journal_store.proofs.Moments.{then_crash, weaker}
use Rattle.journal_store.proofs.RecordLemmas.{all-append, length-record, one_row, records-append}
use Rattle.session_store.specs.Journals.{AreLogs, log_at, opened_in}
use Rattle.session_store.specs.Opened.{HasEntered, IsDamagedAt}
use Rattle.session_store.specs.Replay.{GoesBehind}
use Rattle.session_store.specs.Store.{Stores, counted}
use Rattle.session_store.specs.declared.store.Store.{Store}
use Rattle.session_store.proofs.JournalLemmas.{journals_more, logs_more, no_logs}

first_fit : (contents : List (List ℕ)) (content : List ℕ) → AllByRecursion HasLength (contents ++ content ∷ []) → AllByRecursion HasLength contents
first_fit [] content all = tt
first_fit (c ∷ contents) content all = (all.0, first_fit contents content all.1)

last_fits : (contents : List (List ℕ)) (content : List ℕ) → AllByRecursion HasLength (contents ++ content ∷ []) → HasLength content
last_fits [] content all = all.0
last_fits (c ∷ contents) content all = last_fits contents content all.1

-- what was counted of each session
pub counts_are : (logs : List (List Entry)) (session : ℕ) → counted (map (λ (log : List Entry). length log) logs) session ≡ length (log_at logs session)
counts_are logs zero = refl
counts_are logs (suc place) = by logs place
  where
    by : (xs : List (List Entry)) (n : ℕ) → get_or (map (λ (log : List Entry). length log) xs) n 0 ≡ length (get_or xs n [])
    by [] zero = refl
    by [] (suc n) = refl
    by (x ∷ xs) zero = refl
    by (x ∷ xs) (suc n) = by xs n

module _ {D : Type 0} (seen : D → List ℕ) (time : D → ℕ) (left : D → ℕ → List ℕ → Type 0) where
  -- nothing was read yet
  pub none_entered : (opening : Opening D) → HasRead seen time left opening [] → HasEntered seen time left opening [] []
  none_entered opening read = record { row = read; written = tt; journals = tt; are_logs = no_logs }

  module _ (opening new : Opening D) (entries : List SessionEntry) (logs : List (List Entry)) (content : List ℕ) (has : HasEntered seen time left opening entries logs)
      (read : HasRead seen time left new (contents_of entries ++ content ∷ [])) where
    -- one record more was entered
    pub one_entered : (logs' : List (List Entry)) (e : SessionEntry) → content ≡ content_of e.session e.entry → HasContent e.session e.entry → GoesBehind logs e.session e.entry logs'
        → HasEntered seen time left new (entries ++ e ∷ []) logs'
    one_entered logs' e is fits goes = record {
      row = subst (λ (l : List (List ℕ)). HasRead seen time left new l) (ap (λ (c : List ℕ). contents_of entries ++ c ∷ []) is ∙ sym (contents-append entries (e ∷ []))) read;
      written = all-append FitsContent entries (e ∷ []) has.written (fits, tt);
      journals = journals_more logs logs' entries e.session e.entry has.are_logs goes has.journals;
      are_logs = logs_more logs logs' entries e.session e.entry has.are_logs goes;
    }

    -- or it is none that may come there
    pub none_comes : (at : ℕ) → at ≡ length (records_of (contents_of entries))
        → ((e : SessionEntry) → entry_at content ≡ Some e → 1 ≤ e.session → e.session ≤ length logs + 1 → IsLegal (log_at logs e.session ++ e.entry ∷ []) → ⊥)
        → IsDamagedAt (seen new.disk) at
    none_comes at place never = record {
      entries = entries;
      written = has.written;
      lengths = first_fit (contents_of entries) content read.lengths;
      journals = has.journals;
      content = content;
      rest = drop new.at (seen new.disk);
      split =
          read.front
          ∙ ap (λ (l : List ℕ). l ++ drop new.at (seen new.disk)) (records-append (contents_of entries) (content ∷ []) ∙ ap (λ (l : List ℕ). records_of (contents_of entries) ++ l) (append-nil (record_of content)))
          ∙ append_assoc (records_of (contents_of entries)) (record_of content) (drop new.at (seen new.disk));
      place = place;
      fits = last_fits (contents_of entries) content read.lengths;
      foreign = λ e at_content may.
          never e at_content may.numbered (omega (arith, may.next, has.are_logs.count))
          (subst (λ (l : List Entry). IsLegal (l ++ e.entry ∷ [])) (sym (has.are_logs.each e.session)) may.journal);
    }

  -- the whole row was entered
  pub row_entered : (opening : Opening D) (entries : List SessionEntry) (logs : List (List Entry)) → HasEntered seen time left opening entries logs → opening.has_ended ≡ true
      → AreEntriesOf (seen opening.disk) entries
  row_entered opening entries logs has ended = record {
    end = drop opening.at (seen opening.disk);
    split = has.row.front;
    lengths = has.row.lengths;
    ended = has.row.ended ended;
  }

  -- and what the sessions have is counted
  pub all_counted : (store : Store D) (entries : List SessionEntry) (logs : List (List Entry)) → AllByRecursion FitsContent entries → AreLogs logs entries → store.counts.items ≡ map (λ (log : List Entry). length log) logs
      → Keeps seen time left store.journals entries [] → Stores seen time left store entries []
  all_counted store entries logs fits are counts keeps = record {
    file = keeps;
    written = subst (λ (l : List SessionEntry). AllByRecursion FitsContent l) (sym (append-nil entries)) fits;
    counts = λ session.
        ap (λ (c : List ℕ). counted c session) counts ∙ counts_are logs session ∙ ap length (are.each session)
        ∙ ap (λ (l : List SessionEntry). length (journal_in session l)) (sym (append-nil entries));
    sessions = ap length counts ∙ length-map logs (λ (log : List Entry). length log) ∙ are.count ∙ ap opened_in (sym (append-nil entries));
  }

-- an image that is as the file was has its entries
pub untouched_entries : {D : Type 0} (time : D → ℕ) (left : D → ℕ → List ℕ → Type 0) (old new : D) (file : List ℕ) (entries : List SessionEntry) → AreEntriesOf file entries
    → EachCrash time left old new (Untouched file) → EachCrash time left old new (λ image. AreEntriesOf image entries)
untouched_entries time left old new file entries are crash =
    weaker time left old new (Untouched file) (λ image. AreEntriesOf image entries) crash (λ image same. subst (λ (l : List ℕ). AreEntriesOf l entries) (sym same) are)

-- a file has one row
pub same_entries : {D : Type 0} (time : D → ℕ) (left : D → ℕ → List ℕ → Type 0) (old new : D) (file : List ℕ) (entries others : List SessionEntry) → AreEntriesOf file entries → AreEntriesOf file others
    → EachCrash time left old new (λ image. AreEntriesOf image others) → EachCrash time left old new (λ image. AreEntriesOf image entries)
same_entries time left old new file entries others are are_too crash =
    let same : contents_of others ≡ contents_of entries = one_row file (contents_of others) (contents_of entries) are_too are in
    weaker time left old new (λ image. AreEntriesOf image others) (λ image. AreEntriesOf image entries) crash (λ image row. subst (λ (l : List (List ℕ)). IsRowOf image l) same row)

-- the place behind the records of these entries and one more
pub place_behind : (entries : List SessionEntry) (e : SessionEntry) (content : List ℕ) → content ≡ content_of e.session e.entry → (at : ℕ) → at ≡ length (records_of (contents_of entries))
    → at + 5 + length content ≡ length (records_of (contents_of (entries ++ e ∷ [])))
place_behind entries e content is at place =
    let whole : records_of (contents_of (entries ++ e ∷ [])) ≡ records_of (contents_of entries) ++ record_of content =
    ap records_of (contents-append entries (e ∷ [])) ∙ records-append (contents_of entries) (contents_of (e ∷ []))
    ∙ ap (λ (l : List ℕ). records_of (contents_of entries) ++ l) (append-nil (record_of (content_of e.session e.entry)))
    ∙ ap (λ (c : List ℕ). records_of (contents_of entries) ++ record_of c) (sym is) in
    omega (arith, place, ap length whole, length-append (records_of (contents_of entries)) (record_of content), length-record content)

-- nothing changed in two calls
pub untouched_twice : {D : Type 0} (time : D → ℕ) (left : D → ℕ → List ℕ → Type 0) (old mid new : D) (file then_file : List ℕ) → then_file ≡ file
    → EachCrash time left old mid (Untouched file) → EachCrash time left mid new (Untouched then_file) → EachCrash time left old new (Untouched file)
untouched_twice time left old mid new file then_file same first second =
    then_crash time left old mid new (Untouched file) first (subst (λ (l : List ℕ). EachCrash time left mid new (Untouched l)) same second)

-- the same file is at rest
pub still : {D : Type 0} (seen : D → List ℕ) (time : D → ℕ) (left : D → ℕ → List ℕ → Type 0) (old new : RecordFile D) (contents : List (List ℕ)) → new ≡ old
    → IsAtRest seen time left old contents → IsAtRest seen time left new contents
still seen time left old new contents same rest = subst (λ (f : RecordFile _). IsAtRest seen time left f contents) (sym same) rest
