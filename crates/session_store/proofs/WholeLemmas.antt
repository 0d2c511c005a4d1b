-- A file whose entries are journals is damaged nowhere.
use Rattle.std.proofs.Common.{◌≡◌, ℕ, List, [], ◌∷◌, ◌++◌, Some, refl, sym, ◌∙◌, ap, subst, append_assoc}
use Rattle.std.proofs.lemmas.List.{append-nil}
use Rattle.std.specs.List.{AllByRecursion}
use Rattle.journal_store.specs.Contents.{content_of}
use Rattle.journal_store.specs.Entries.{AreEntriesOf, FitsContent, contents_of}
use Rattle.journal_store.specs.Reading.{entry_at}
use Rattle.journal_store.specs.Records.{BeginsNoRecord, HasLength, record_of, records_of}
use Rattle.journal_store.specs.declared.reading.SessionEntry.{SessionEntry}
use Rattle.journal_store.proofs.FormatLemmas.{entry_again}
use Rattle.journal_store.proofs.RecordLemmas.{same_record}
use Rattle.session_store.specs.Journals.{AreJournals, MayAllCome, MayCome}
use Rattle.session_store.specs.Opened.{IsDamagedAt}

abbrev content : SessionEntry → List ℕ
content e = content_of e.session e.entry

one_content : (e f : SessionEntry) → FitsContent e → FitsContent f → content e ≡ content f → e ≡ f
one_content e f fits fits' same =
    let found : Some e ≡ Some f = sym (entry_again e.session e.entry fits) ∙ ap entry_at same ∙ entry_again f.session f.entry fits' in
    cc

-- the record that stands behind the first entries is that of the next one
begins : (entries others : List SessionEntry) (behind end rest : List ℕ) → AllByRecursion FitsContent entries → AllByRecursion HasLength (contents_of entries)
    → AllByRecursion FitsContent others → AllByRecursion HasLength (contents_of others) → HasLength behind → BeginsNoRecord end
    → records_of (contents_of entries) ++ end ≡ records_of (contents_of others) ++ (record_of behind ++ rest)
    → (e : SessionEntry) × (more : List SessionEntry) × (entries ≡ others ++ e ∷ more) × (behind ≡ content e) × FitsContent e
begins [] [] behind end rest fits lengths fits' lengths' fit ended same = absurd (ended behind rest fit same)
begins [] (f ∷ others) behind end rest fits lengths fits' lengths' fit ended same =
    absurd (ended (content f) (records_of (contents_of others) ++ (record_of behind ++ rest)) lengths'.0
    (same ∙ append_assoc (record_of (content f)) (records_of (contents_of others)) (record_of behind ++ rest)))
begins (e ∷ entries) [] behind end rest fits lengths fits' lengths' fit ended same =
    let both = same_record (content e) behind (records_of (contents_of entries) ++ end) rest lengths.0 fit
    (sym (append_assoc (record_of (content e)) (records_of (contents_of entries)) end) ∙ same) in
    (e, entries, refl, sym both.0, fits.0)
begins (e ∷ entries) (f ∷ others) behind end rest fits lengths fits' lengths' fit ended same =
    let both = same_record (content e) (content f) (records_of (contents_of entries) ++ end) (records_of (contents_of others) ++ (record_of behind ++ rest)) lengths.0 lengths'.0
    (sym (append_assoc (record_of (content e)) (records_of (contents_of entries)) end) ∙ same ∙ append_assoc (record_of (content f)) (records_of (contents_of others)) (record_of behind ++ rest)) in
    let is : e ≡ f = one_content e f fits.0 fits'.0 both.0 in
    let more = begins entries others behind end rest fits.1 lengths.1 fits'.1 lengths'.1 fit ended both.1 in (
      more.0,
      more.1,
      ap (λ (x : SessionEntry). x ∷ entries) is ∙ ap (λ (l : List SessionEntry). f ∷ l) more.2,
      more.3,
      more.4,
    )

-- of entries that may all come, the one behind the first ones may
comes_there : (before others : List SessionEntry) (e : SessionEntry) (more : List SessionEntry) → MayAllCome before (others ++ e ∷ more) → MayCome (before ++ others) e
comes_there before [] e more all = subst (λ (l : List SessionEntry). MayCome l e) (sym (append-nil before)) all.0
comes_there before (f ∷ others) e more all =
    subst (λ (l : List SessionEntry). MayCome l e) (append_assoc before (f ∷ []) others) (comes_there (before ++ f ∷ []) others e more all.1)

pub not_damaged : (file : List ℕ) (entries : List SessionEntry) (at : ℕ) → AreEntriesOf file entries → AllByRecursion FitsContent entries → AreJournals entries → IsDamagedAt file at → ⊥
not_damaged file entries at row fits journals damaged =
    let next = begins entries damaged.entries damaged.content row.end damaged.rest fits row.lengths damaged.written damaged.lengths damaged.fits row.ended (sym row.split ∙ damaged.split) in
    damaged.foreign next.0 (ap entry_at next.3 ∙ entry_again (next.0).session (next.0).entry next.4)
    (comes_there [] damaged.entries next.0 next.1 (subst AreJournals next.2 journals))
