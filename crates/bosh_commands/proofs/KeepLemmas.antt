-- Of a script over the sessions of a file.
use Rattle.std.proofs.Common.{◌≡◌, ◌≢◌, inl, inr, ℕ, zero, suc, ◌≤◌, true, false, List, [], ◌∷◌, ◌++◌, Option, Some, None, Result, Ok, Err, IsErrOf, Contains, refl, sym, ap, subst, arith, lit<}
use Rattle.std.specs.Prelude.{◌↔◌, IfOk, IfSome, is_some}
use Rattle.std.specs.List.{AllByRecursion}
use Rattle.session_journal.specs.declared.entry.Entry.{Entry}
use Rattle.journal_store.specs.Crash.{EachCrash}
use Rattle.journal_store.specs.Disk.{Only}
use Rattle.journal_store.specs.Entries.{AreEntriesOf, FitsContent}
use Rattle.journal_store.specs.declared.reading.SessionEntry.{SessionEntry}
use Rattle.journal_store.proofs.EntryLemmas.{one_list}
use Rattle.journal_store.proofs.Moments.{then_crash, weaker}
use Rattle.session_store.specs.Journals.{AreJournals, AreLogs}
use Rattle.session_store.specs.Opened.{IsDamagedAt}
use Rattle.session_store.specs.Store.{Stores}
use Rattle.session_store.specs.declared.store.Store.{Store}
use Rattle.session_store.proofs.WholeLemmas.{not_damaged}
use Rattle.script_text.specs.declared.driven.Driven.{Driven}
use Rattle.script_text.specs.declared.driven.Driven.TheVariants as driven
use Rattle.script_text.specs.declared.kept.KeptError.{KeptError}
use Rattle.script_text.specs.declared.kept.KeptError.TheVariants as errors
use Rattle.script_text.specs.declared.manager.Manager.{Manager}
use Rattle.script_text.specs.Kept.{HasJournalsOf, HaveJournals, KeepsUp, drive_from, reached}
use Rattle.script_text.specs.Live.{PlainLive}
use Rattle.script_text.specs.Manager.{PlainManager}
use Rattle.script_text.specs.Resumed.{AreSessions, over_of, resumed_manager}
use Rattle.script_text.specs.Script.{Reports}
use Rattle.script_text.specs.Stands.{IsManager}
use Rattle.script_text.proofs.KeptSteps.{rest_crash, undamaged}
use Rattle.script_text.proofs.ResumedLemmas.{resumed_have}
use Rattle.bosh_commands.specs.Keep.{GivesResumed, KeepsFile, LeavesUndamaged, driven_status, kept_status}

-- ---- statuses

pub of_script : (x : ℕ) → Contains (0 ∷ 3 ∷ 4 ∷ 5 ∷ 6 ∷ 11 ∷ []) x → Contains (0 ∷ 2 ∷ 3 ∷ 4 ∷ 5 ∷ 6 ∷ 11 ∷ 12 ∷ []) x
of_script x (zero, lt, e) = (0, lit< tt, e)
of_script x (suc zero, lt, e) = (2, lit< tt, e)
of_script x (suc (suc zero), lt, e) = (3, lit< tt, e)
of_script x (suc (suc (suc zero)), lt, e) = (4, lit< tt, e)
of_script x (suc (suc (suc (suc zero))), lt, e) = (5, lit< tt, e)
of_script x (suc (suc (suc (suc (suc zero)))), lt, e) = (6, lit< tt, e)
of_script x (suc (suc (suc (suc (suc (suc k))))), lt, e) = absurd (omega (arith, lt))

pub of_damage : (x : ℕ) → Contains (5 ∷ 6 ∷ 12 ∷ []) x → Contains (0 ∷ 2 ∷ 3 ∷ 4 ∷ 5 ∷ 6 ∷ 11 ∷ 12 ∷ []) x
of_damage x (zero, lt, e) = (4, lit< tt, e)
of_damage x (suc zero, lt, e) = (5, lit< tt, e)
of_damage x (suc (suc zero), lt, e) = (7, lit< tt, e)
of_damage x (suc (suc (suc k)), lt, e) = absurd (omega (arith, lt))

pub script_apart : (x : ℕ) → Contains (0 ∷ 3 ∷ 4 ∷ 5 ∷ 6 ∷ 11 ∷ []) x → (x ≢ 2) × (x ≢ 12)
script_apart x (zero, lt, e) = (λ is. omega (arith, is, e), λ is. omega (arith, is, e))
script_apart x (suc zero, lt, e) = (λ is. omega (arith, is, e), λ is. omega (arith, is, e))
script_apart x (suc (suc zero), lt, e) = (λ is. omega (arith, is, e), λ is. omega (arith, is, e))
script_apart x (suc (suc (suc zero)), lt, e) = (λ is. omega (arith, is, e), λ is. omega (arith, is, e))
script_apart x (suc (suc (suc (suc zero))), lt, e) = (λ is. omega (arith, is, e), λ is. omega (arith, is, e))
script_apart x (suc (suc (suc (suc (suc zero)))), lt, e) = (λ is. omega (arith, is, e), λ is. omega (arith, is, e))
script_apart x (suc (suc (suc (suc (suc (suc k))))), lt, e) = absurd (omega (arith, lt))

-- a damaged file has one of three
pub record Damages (x : ℕ) : Type 0 where
  pub done : x ≢ 0
  pub wrong : x ≢ 2
  pub bad : x ≢ 3
  pub read : x ≢ 4
  pub store : x ≢ 11

damages_at : (x y : ℕ) → y ≡ x → (y ≢ 0) → (y ≢ 2) → (y ≢ 3) → (y ≢ 4) → (y ≢ 11) → Damages x
damages_at x y e done wrong bad read store = record {
  done = λ is. done (omega (arith, e, is));
  wrong = λ is. wrong (omega (arith, e, is));
  bad = λ is. bad (omega (arith, e, is));
  read = λ is. read (omega (arith, e, is));
  store = λ is. store (omega (arith, e, is));
}

pub damages : (x : ℕ) → Contains (5 ∷ 6 ∷ 12 ∷ []) x → Damages x
damages x (zero, lt, e) = damages_at x 5 e (λ is. omega (arith, is)) (λ is. omega (arith, is)) (λ is. omega (arith, is)) (λ is. omega (arith, is)) (λ is. omega (arith, is))
damages x (suc zero, lt, e) = damages_at x 6 e (λ is. omega (arith, is)) (λ is. omega (arith, is)) (λ is. omega (arith, is)) (λ is. omega (arith, is)) (λ is. omega (arith, is))
damages x (suc (suc zero), lt, e) = damages_at x 12 e (λ is. omega (arith, is)) (λ is. omega (arith, is)) (λ is. omega (arith, is)) (λ is. omega (arith, is)) (λ is. omega (arith, is))
damages x (suc (suc (suc k)), lt, e) = absurd (omega (arith, lt))

pub kept_among : (r : Result Driven KeptError) → Contains (0 ∷ 3 ∷ 4 ∷ 5 ∷ 6 ∷ 11 ∷ []) (kept_status r)
kept_among (Ok driven.Done) = (0, lit< tt, refl)
kept_among (Ok (driven.Bad line kind)) = (1, lit< tt, refl)
kept_among (Err errors.ReadFault) = (2, lit< tt, refl)
kept_among (Err errors.WriteFault) = (3, lit< tt, refl)
kept_among (Err errors.StoreFault) = (5, lit< tt, refl)
kept_among (Err errors.NoMemory) = (4, lit< tt, refl)

-- the error that a status names
pub is_error : (r : Result Driven KeptError) (e : KeptError) → (4 ≤ kept_status (Err e)) → kept_status r ≡ kept_status (Err e) → IsErrOf r e
is_error (Ok driven.Done) e some is = absurd (omega (arith, some, is))
is_error (Ok (driven.Bad line kind)) e some is = absurd (omega (arith, some, is))
is_error (Err errors.ReadFault) errors.ReadFault some is = refl
is_error (Err errors.ReadFault) errors.WriteFault some is = absurd (omega (arith, is))
is_error (Err errors.ReadFault) errors.StoreFault some is = absurd (omega (arith, is))
is_error (Err errors.ReadFault) errors.NoMemory some is = absurd (omega (arith, is))
is_error (Err errors.WriteFault) errors.ReadFault some is = absurd (omega (arith, is))
is_error (Err errors.WriteFault) errors.WriteFault some is = refl
is_error (Err errors.WriteFault) errors.StoreFault some is = absurd (omega (arith, is))
is_error (Err errors.WriteFault) errors.NoMemory some is = absurd (omega (arith, is))
is_error (Err errors.StoreFault) errors.ReadFault some is = absurd (omega (arith, is))
is_error (Err errors.StoreFault) errors.WriteFault some is = absurd (omega (arith, is))
is_error (Err errors.StoreFault) errors.StoreFault some is = refl
is_error (Err errors.StoreFault) errors.NoMemory some is = absurd (omega (arith, is))
is_error (Err errors.NoMemory) errors.ReadFault some is = absurd (omega (arith, is))
is_error (Err errors.NoMemory) errors.WriteFault some is = absurd (omega (arith, is))
is_error (Err errors.NoMemory) errors.StoreFault some is = absurd (omega (arith, is))
is_error (Err errors.NoMemory) errors.NoMemory some is = refl

-- and with another status it isn't that
pub not_error : (r : Result Driven KeptError) (e : KeptError) → kept_status r ≢ kept_status (Err e) → IsErrOf r e → ⊥
not_error r e apart is = apart (ap kept_status is)

-- ---- words

pub no_file : (o : Option (List ℕ)) → is_some o ≡ false → o ≡ None
no_file None is = refl
no_file (Some name) is = absurd (cc)

pub other_words : (o : Option (List ℕ)) (status : ℕ) → is_some o ≡ false → status ≡ 2 → (status ≡ 2) ↔ (o ≡ None)
other_words o status is two = (λ same. no_file o is, λ none. two)

pub these_words : (o : Option (List ℕ)) (status : ℕ) → is_some o ≡ true → (status ≢ 2) → (status ≡ 2) ↔ (o ≡ None)
these_words None status is apart = absurd (cc)
these_words (Some name) status is apart = (λ two. absurd (apart two), λ none. absurd (cc))

-- ---- a script that was run to its end

module _ (logs : List (List Entry)) (all : List PlainLive) (sessions : AreSessions 0 logs all) (manager : Manager) (stands : IsManager manager (resumed_manager logs all))
    (src old new : Option (List ℕ)) where
  ran : (outcome : Driven) (src : Option (List ℕ)) → IfSome src (λ script. (m : PlainManager) → IsManager manager m → Reports (drive_from m script) outcome old new)
      → IfSome src (λ script. GivesResumed logs script (driven_status outcome) old new)
  ran outcome None reports = tt
  ran outcome (Some script) reports =
      let says = reports (resumed_manager logs all) stands in
      (all, sessions, (ap driven_status says.0, says.1))

  pub gives : (r : Result Driven KeptError) (n : ℕ) → IfOk r (λ outcome. IfSome src (λ script. (m : PlainManager) → IsManager manager m → Reports (drive_from m script) outcome old new))
      → kept_status r ≡ n → n ≤ 3 → IfSome src (λ script. GivesResumed logs script n old new)
  gives (Ok outcome) n reports is few = subst (λ k. IfSome src (λ script. GivesResumed logs script k old new)) is (ran outcome src reports)
  gives (Err errors.ReadFault) n reports is few = absurd (omega (arith, is, few))
  gives (Err errors.WriteFault) n reports is few = absurd (omega (arith, is, few))
  gives (Err errors.StoreFault) n reports is few = absurd (omega (arith, is, few))
  gives (Err errors.NoMemory) n reports is few = absurd (omega (arith, is, few))

-- ---- what a crash leaves

module _ {D : Type 0} (seen : D → List ℕ) (time : D → ℕ) (left : D → ℕ → List ℕ → Type 0) where
  module _ (logs : List (List Entry)) (all : List PlainLive) (sessions : AreSessions 0 logs all) (manager : Manager) (stands : IsManager manager (resumed_manager logs all))
      (store : Store D) (disk : D) (old new : Option (List ℕ)) where
    -- of a script that was run
    pub keeps : (src : Option (List ℕ))
        → IfSome src (λ script. (m : PlainManager) (ended : List PlainLive) (entries : List SessionEntry) → IsManager manager m → Stores seen time left store entries []
        → HaveJournals entries (ended ++ m.live) m.opened → KeepsUp time left m ended script disk old new)
        → IfSome src (λ script. (m : PlainManager) (ended : List PlainLive) (entries : List SessionEntry) → IsManager manager m → Stores seen time left store entries []
        → HaveJournals entries (ended ++ m.live) m.opened → EachCrash time left store.journals.file.disk disk (HasJournalsOf m ended script))
        → IfSome src (λ script. (entries : List SessionEntry) → AllByRecursion FitsContent entries → AreJournals entries → Stores seen time left store entries [] → AreLogs logs entries
        → KeepsFile time left entries script store.journals.file.disk disk old new)
    keeps None up crash = tt
    keeps (Some script) up crash = λ entries written journals stores are.
        let have = resumed_have entries logs all written journals are sessions in
        inr (record {
          logs = logs;
          all = all;
          are_logs = are;
          sessions = sessions;
          up = up (resumed_manager logs all) (over_of all) entries stands stores have;
          any_moment = crash (resumed_manager logs all) (over_of all) entries stands stores have;
        })

  -- of one that was not
  pub keeps_none : (logs : List (List Entry)) (store : Store D) (given : Option (List ℕ)) (src : Option (List ℕ))
      → IfSome src (λ script. (entries : List SessionEntry) → AllByRecursion FitsContent entries → AreJournals entries → Stores seen time left store entries [] → AreLogs logs entries
      → KeepsFile time left entries script store.journals.file.disk store.journals.file.disk given given)
  keeps_none logs store given None = tt
  keeps_none logs store given (Some script) = λ entries written journals stores are. inl (refl, rest_crash seen time left store.journals.file entries (stores.file).file)

  module _ (file : List ℕ) (disk : D) (new : D) (given given_then : Option (List ℕ)) where
    abbrev pub Left : List ℕ → Type 0
    Left script = (entries : List SessionEntry) → AreEntriesOf file entries → AllByRecursion FitsContent entries → AreJournals entries
        → KeepsFile time left entries script disk new given given_then

    -- the entries of an image that have reached no line
    has_none : (logs : List (List Entry)) (all : List PlainLive) → AreSessions 0 logs all → (entries : List SessionEntry) → AllByRecursion FitsContent entries → AreJournals entries
        → AreLogs logs entries → (script image : List ℕ) → AreEntriesOf image entries → HasJournalsOf (resumed_manager logs all) (over_of all) script image
    unfolding reached
    has_none logs all sessions entries written journals are script image is = (0, record { entries = entries; are = is; have = resumed_have entries logs all written journals are sessions })

    -- what holds since the file was opened holds since before
    from_before : (mid : D) (script : List ℕ) (entries : List SessionEntry) → AllByRecursion FitsContent entries → AreJournals entries → EachCrash time left disk mid (λ image. AreEntriesOf image entries)
        → KeepsFile time left entries script mid new given given_then → KeepsFile time left entries script disk new given given_then
    from_before mid script entries written journals first (inl (same, crash)) = inl (same, then_crash time left disk mid new (λ image. AreEntriesOf image entries) first crash)
    from_before mid script entries written journals first (inr keeps) = inr (record {
      logs = keeps.logs;
      all = keeps.all;
      are_logs = keeps.are_logs;
      sessions = keeps.sessions;
      up = keeps.up;
      any_moment =
          let P = HasJournalsOf (resumed_manager keeps.logs keeps.all) (over_of keeps.all) script in
          then_crash time left disk mid new P
          (weaker time left disk mid (λ image. AreEntriesOf image entries) P first (has_none keeps.logs keeps.all keeps.sessions entries written journals keeps.are_logs script))
          keeps.any_moment;
    })

    pub left_by_script : (mid : D) (logs : List (List Entry)) (store : Store D) (entries : List SessionEntry) → AreEntriesOf file entries → AllByRecursion FitsContent entries → AreJournals entries
        → Stores seen time left store entries [] → AreLogs logs entries
        → ((others : List SessionEntry) → AreEntriesOf file others → EachCrash time left disk mid (λ image. AreEntriesOf image others)) → (src : Option (List ℕ))
        → IfSome src (λ script. (entries : List SessionEntry) → AllByRecursion FitsContent entries → AreJournals entries → Stores seen time left store entries [] → AreLogs logs entries
        → KeepsFile time left entries script mid new given given_then)
        → IfSome src Left
    left_by_script mid logs store entries are written journals stores are_logs first None keeps = tt
    left_by_script mid logs store entries are written journals stores are_logs first (Some script) keeps = λ others are' written' journals'.
        let same = one_list file entries others written written' are are' in
        subst (λ (l : List SessionEntry). KeepsFile time left l script disk new given given_then) same
        (from_before mid script entries written journals (first entries are) (keeps entries written journals stores are_logs))

    -- the file was not opened
    pub left_closed : given_then ≡ given → ((entries : List SessionEntry) → AreEntriesOf file entries → EachCrash time left disk new (λ image. AreEntriesOf image entries)) → (src : Option (List ℕ)) → IfSome src Left
    left_closed same crash None = tt
    left_closed same crash (Some script) = λ entries are written journals. inl (same, crash entries are)

    -- or it is damaged
    pub left_damaged : (at : ℕ) → IsDamagedAt file at → (src : Option (List ℕ)) → IfSome src Left
    left_damaged at damaged None = tt
    left_damaged at damaged (Some script) = λ entries are written journals. absurd (not_damaged file entries at are written journals damaged)

    -- no crash leaves a damaged one
    pub none_damaged : (src : Option (List ℕ)) → IfSome src Left
        → IfSome src (λ script. (entries : List SessionEntry) → AreEntriesOf file entries → AllByRecursion FitsContent entries → AreJournals entries → LeavesUndamaged time left disk new)
    none_damaged None left_so = tt
    none_damaged (Some script) left_so = λ entries are written journals image at is damaged. by entries written journals image at is damaged (left_so entries are written journals)
      where
        by : (entries : List SessionEntry) → AllByRecursion FitsContent entries → AreJournals entries → (image : List ℕ) (at : ℕ) → left new (time disk) image → IsDamagedAt image at
            → KeepsFile time left entries script disk new given given_then → ⊥
        by entries written journals image at is damaged (inl (same, crash)) = not_damaged image entries at (crash.each image is) written journals damaged
        by entries written journals image at is damaged (inr keeps) =
            undamaged (resumed_manager keeps.logs keeps.all) (over_of keeps.all) script image at ((keeps.any_moment).each image is) damaged

  -- nothing was done
  pub unasked : (disk : D) → Only (seen disk) (left disk (time disk)) → (entries : List SessionEntry) → AreEntriesOf (seen disk) entries
      → EachCrash time left disk disk (λ image. AreEntriesOf image entries)
  unasked disk only entries are = record {
    later = omega arith;
    each = λ image is. subst (λ (l : List ℕ). AreEntriesOf l entries) (sym (only image is)) are;
    before = λ since image le is. inl is;
  }
