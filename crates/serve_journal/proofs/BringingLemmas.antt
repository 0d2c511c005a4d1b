-- Sessions that come back.
use Rattle.std.proofs.Common.{◌≡◌, inl, inr, ⊎_elim, ◌==◌, ℕ, List, [], ◌∷◌, Option, true, false, length, refl, sym, subst, arith}
use Rattle.std.specs.Prelude.{All, is_some}
use Rattle.std.specs.List.{list_all}
use Rattle.std.proofs.lemmas.Bool.{eqb-true}
use Rattle.std.proofs.lemmas.List.Sums.{AllPass-from_list_all}
use Rattle.session_core.specs.Journal.{Journal}
use Rattle.bosh_types.specs.declared.ending.Ending.{Ending}
use Rattle.session_journal.specs.declared.entry.Entry.{Entry}
use Rattle.session_journal.specs.Entries.{journal_in}
use Rattle.session_journal.specs.Stored.{After}
use Rattle.journal_store.specs.Crash.{EachCrash}
use Rattle.journal_store.specs.Disk.{Only}
use Rattle.journal_store.specs.Entries.{AreBeforeOrNone, AreEntriesOf}
use Rattle.journal_store.specs.declared.reading.SessionEntry.{SessionEntry}
use Rattle.journal_store.proofs.Moments.{weaker}
use Rattle.session_store.specs.Journals.{AreLogs}
use Rattle.serve_journal.specs.Bringing.{LeavesLive, are_finished, has_ended, is_finished}

-- where each passes the test
pub all_alone : (entries : List Entry) → list_all (λ (e : Entry). e.caller == 0) entries ≡ true → All (λ (e : Entry). e.caller ≡ 0) entries
all_alone entries pass = λ k d within. eqb-true _ 0 (AllPass-from_list_all (λ (e : Entry). e.caller == 0) entries pass k d within)

-- where its ending is some
pub ended_after : (log : List Entry) (ending : Option Ending) → After log (λ plain. ending ≡ plain.ending) → is_some ending ≡ has_ended (journal_in log)
ended_after log ending after = subst (λ (j : Option Journal). is_some ending ≡ has_ended j) (sym after.is.told) (subst (λ (e : Option Ending). is_some ending ≡ is_some e) after.holds refl)

-- of some journals all have ended where each has
pub some_finished : (logs : List (List Entry)) → (length logs == 0) ≡ false → list_all is_finished logs ≡ are_finished logs
some_finished [] some = absurd (cc)
some_finished (log ∷ logs) some = refl

module _ {D : Type 0} (time : D → ℕ) (left : D → ℕ → List ℕ → Type 0) (entries : List SessionEntry) where
  -- nothing was done
  pub still_leaves : (d : D) (file : List ℕ) → Only file (left d (time d)) → AreEntriesOf file entries → EachCrash time left d d (LeavesLive entries)
  still_leaves d file only are = record {
    later = omega arith;
    each = λ image is. inl (subst (λ (l : List ℕ). AreEntriesOf l entries) (sym (only image is)) are);
    before = λ since image le is. inl is;
  }

  -- or all journals went, of which each had ended
  pub leaves_none : (old new : D) (logs : List (List Entry)) → AreLogs logs entries → are_finished logs ≡ true → EachCrash time left old new (AreBeforeOrNone entries)
      → EachCrash time left old new (LeavesLive entries)
  leaves_none old new logs are all crash =
      weaker time left old new (AreBeforeOrNone entries) (LeavesLive entries) crash (λ image was. ⊎_elim (λ same. inl same) (λ none. inr (none, logs, are, all)) was)

  -- or nothing but what leaves them
  pub leaves_all : (old new : D) → EachCrash time left old new (λ image. AreEntriesOf image entries) → EachCrash time left old new (LeavesLive entries)
  leaves_all old new crash = weaker time left old new (λ image. AreEntriesOf image entries) (LeavesLive entries) crash (λ image same. inl same)
