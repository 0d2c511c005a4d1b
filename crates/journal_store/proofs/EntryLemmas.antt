-- Entries that wait.
use Rattle.std.proofs.Common.{◌≡◌, ◌==◌, Bool, true, false, cond, Some, ◌↔◌, ⊎_elim, ℕ, ◌≤◌, ◌^◌, List, [], ◌∷◌, ◌++◌, length, Result, Ok, Err, OnOk, IsErrOf, refl, sym, ◌∙◌, ap, subst}
use Rattle.std.proofs.lemmas.Bool.{cases_lt}
use Rattle.std.proofs.lemmas.List.{append-nil}
use Rattle.std.specs.List.{AllByRecursion}
use Rattle.std.specs.Prelude.{map, filter}
use Rattle.session_journal.specs.declared.entry.Entry.{Entry}
use Rattle.journal_store.specs.Contents.{content_of}
use Rattle.journal_store.specs.Entries.{Keeps, FitsContent, AreEntriesOf, contents_of, journal_in}
use Rattle.journal_store.specs.Reading.{entry_at}
use Rattle.journal_store.specs.RecordFile.{IsAtRest}
use Rattle.journal_store.specs.Records.{HasLength, record_of, records_of}
use Rattle.journal_store.specs.declared.group.AddError.{AddError}
use Rattle.journal_store.specs.declared.group.AddError.TheVariants.{TooLong}
use Rattle.journal_store.specs.declared.journal_file.JournalFile.{JournalFile}
use Rattle.journal_store.specs.declared.reading.SessionEntry.{SessionEntry}
use Rattle.journal_store.proofs.FormatLemmas.{entry_again}
use Rattle.journal_store.proofs.RecordLemmas.{one_row, records-append, all-append}

pub contents-append : (entries more : List SessionEntry) → contents_of (entries ++ more) ≡ contents_of entries ++ contents_of more
contents-append [] more = refl
contents-append (e ∷ entries) more = ap (λ (l : List (List ℕ)). content_of e.session e.entry ∷ l) (contents-append entries more)

not_err : {T E : Type 0} (x : T) (e : E) → Ok x ≡ Err e → ⊥
not_err x e clash = cc

-- what was added has a length of four bytes
pub added_fits : (result : Result (Unit {0}) AddError) (content : List ℕ) (P Q : Type 0) → OnOk result P → (IsErrOf result TooLong ↔ (2 ^ 32 ≤ length content)) → (HasLength content → P → Q) → OnOk result Q
added_fits (Ok x) content P Q added too_long so = so (⊎_elim (λ fits. fits) (λ long. absurd (not_err x TooLong (too_long.1 long))) (cases_lt (length content) (2 ^ 32))) added
added_fits (Err e) content P Q added too_long so = tt

pub waits_more : {D : Type 0} (seen : D → List ℕ) (time : D → ℕ) (left : D → ℕ → List ℕ → Type 0) (old new : JournalFile D) (stored waiting : List SessionEntry) (e : SessionEntry) (content : List ℕ)
    → Keeps seen time left old stored waiting → new.file ≡ old.file → content ≡ content_of e.session e.entry → HasLength content → new.waiting ≡ old.waiting ++ record_of content
    → Keeps seen time left new stored (waiting ++ e ∷ [])
waits_more seen time left old new stored waiting e content keeps same is fits added = record {
  file = subst (λ f. IsAtRest seen time left f (contents_of stored)) (sym same) keeps.file;
  group =
      added ∙ ap (λ (l : List ℕ). l ++ record_of content) keeps.group ∙ ap (λ (l : List ℕ). records_of (contents_of waiting) ++ record_of l) is
      ∙ ap (λ (l : List ℕ). records_of (contents_of waiting) ++ l) (sym (append-nil (record_of (content_of e.session e.entry))))
      ∙ sym (ap records_of (contents-append waiting (e ∷ [])) ∙ records-append (contents_of waiting) (contents_of (e ∷ [])));
  lengths =
      subst (λ (l : List (List ℕ)). AllByRecursion HasLength l) (sym (contents-append waiting (e ∷ [])))
      (all-append HasLength (contents_of waiting) (contents_of (e ∷ [])) keeps.lengths (subst HasLength is fits, tt));
}

same_content : (e f : SessionEntry) → FitsContent e → FitsContent f → content_of e.session e.entry ≡ content_of f.session f.entry → e ≡ f
same_content e f fits fits' same =
    let found : Some e ≡ Some f = sym (entry_again e.session e.entry fits) ∙ ap entry_at same ∙ entry_again f.session f.entry fits' in
    cc

same_contents : (entries others : List SessionEntry) → AllByRecursion FitsContent entries → AllByRecursion FitsContent others → contents_of entries ≡ contents_of others → entries ≡ others
same_contents [] [] fits fits' same = refl
same_contents [] (f ∷ others) fits fits' same = cc
same_contents (e ∷ entries) [] fits fits' same = cc
same_contents (e ∷ entries) (f ∷ others) fits fits' same =
    let head : content_of e.session e.entry ≡ content_of f.session f.entry = cc in
    let tail : contents_of entries ≡ contents_of others = cc in
    let first = same_content e f fits.0 fits'.0 head in
    let behind = same_contents entries others fits.1 fits'.1 tail in
    λ i. first i ∷ behind i

-- an image has the entries of one list
pub one_list : (image : List ℕ) (entries others : List SessionEntry) → AllByRecursion FitsContent entries → AllByRecursion FitsContent others → AreEntriesOf image entries → AreEntriesOf image others → entries ≡ others
one_list image entries others fits fits' are are' = same_contents entries others fits fits' (one_row image (contents_of entries) (contents_of others) are are')

onto_journal : (session : ℕ) (e : SessionEntry) (entries added : List SessionEntry) → journal_in session (entries ++ added) ≡ journal_in session entries ++ journal_in session added
    → (mine : Bool) → map (λ (x : SessionEntry). x.entry) (cond mine (e ∷ filter (λ (x : SessionEntry). x.session == session) (entries ++ added)) (filter (λ (x : SessionEntry). x.session == session) (entries ++ added)))
    ≡ map (λ (x : SessionEntry). x.entry) (cond mine (e ∷ filter (λ (x : SessionEntry). x.session == session) entries) (filter (λ (x : SessionEntry). x.session == session) entries)) ++ journal_in session added
onto_journal session e entries added behind true = ap (λ (l : List Entry). e.entry ∷ l) behind
onto_journal session e entries added behind false = behind

-- what is added goes behind the journal of each session
pub journal-append : (session : ℕ) (entries added : List SessionEntry) → journal_in session (entries ++ added) ≡ journal_in session entries ++ journal_in session added
journal-append session [] added = refl
journal-append session (e ∷ entries) added = onto_journal session e entries added (journal-append session entries added) (e.session == session)
