-- What is counted, and entries that wait.
use Rattle.std.proofs.Common.{◌≡◌, ◌≢◌, ℕ, zero, suc, ◌+◌, ◌-◌, ◌<◌, ◌≤◌, ◌==◌, Bool, true, false, List, [], ◌∷◌, ◌++◌, length, get_or, drop, take, map, max, add-one, refl, sym, ◌∙◌, ap, subst, arith, append_assoc, length-append, length-drop, if◌then◌else◌}
use Rattle.std.proofs.lemmas.Bool.{eqb-true, eqb-false, eq-eqb, ne_eqb}
use Rattle.std.proofs.lemmas.List.{append-nil}
use Rattle.session_journal.specs.declared.entry.Entry.{Entry}
use Rattle.std.specs.List.{AllByRecursion}
use Rattle.journal_store.specs.Entries.{FitsContent, Keeps, journal_in}
use Rattle.journal_store.specs.declared.reading.SessionEntry.{SessionEntry}
use Rattle.journal_store.proofs.RecordLemmas.{all-append}
use Rattle.session_store.specs.Journals.{opened_in}
use Rattle.session_store.specs.Store.{Stores, counted, of_session}
use Rattle.session_store.specs.declared.store.Store.{Store}
use Rattle.session_store.proofs.JournalLemmas.{opened-more, with_own, with_other}

module _ {D : Type 0} (seen : D → List ℕ) (time : D → ℕ) (left : D → ℕ → List ℕ → Type 0) (old new : Store D) (session place : ℕ) (is_at : session ≡ suc place)
    (stored waiting : List SessionEntry) (stores : Stores seen time left old stored waiting) where
  abbrev so_far : List Entry
  so_far = journal_in session (stored ++ waiting)

  pub counted_at : get_or old.counts.items place 0 ≡ length so_far
  counted_at = subst (λ n. counted old.counts.items n ≡ length so_far) is_at (stores.counts session)

  -- so many more of a session are counted, one at least
  module _ (fresh : List Entry) (some : 1 ≤ length fresh) (total : ℕ) (sizes : length so_far + length fresh ≡ total)
      (sets : (other : ℕ) → get_or new.counts.items other 0 ≡ (if other == place then total else get_or old.counts.items other 0))
      (long : length new.counts.items ≡ max (place + 1) (length old.counts.items)) where
    all_is : (n : ℕ) → journal_in n (stored ++ (waiting ++ map (of_session session) fresh)) ≡ journal_in n ((stored ++ waiting) ++ map (of_session session) fresh)
    all_is n = ap (journal_in n) (sym (append_assoc stored waiting (map (of_session session) fresh)))

    count_by_number : (n : ℕ) (b : Bool) → (session == n) ≡ b → counted new.counts.items n ≡ length (journal_in n (stored ++ (waiting ++ map (of_session session) fresh)))
    count_by_number zero true same = absurd (omega (arith, eqb-true session zero same, is_at))
    count_by_number (suc other) true same =
        let is = eqb-true session (suc other) same in
        let here : other ≡ place = omega (arith, is, is_at) in
        sets other
        ∙ ap (λ b. if b then total else get_or old.counts.items other 0) (eq-eqb other place here)
        ∙ sym sizes
        ∙ sym (length-append so_far fresh)
        ∙ sym (ap length (with_own session (stored ++ waiting) fresh))
        ∙ ap (λ n. length (journal_in n ((stored ++ waiting) ++ map (of_session session) fresh))) is
        ∙ sym (ap length (all_is (suc other)))
    count_by_number zero false apart = stores.counts zero ∙ sym (ap length (all_is zero ∙ with_other session zero apart (stored ++ waiting) fresh))
    count_by_number (suc other) false apart =
        let away : other ≢ place = λ here. eqb-false session (suc other) apart (is_at ∙ sym (ap suc here)) in
        sets other
        ∙ ap (λ b. if b then total else get_or old.counts.items other 0) (ne_eqb other place away)
        ∙ stores.counts (suc other)
        ∙ sym (ap length (all_is (suc other) ∙ with_other session (suc other) apart (stored ++ waiting) fresh))

    -- what is fresh waits too
    pub grown_stores : Keeps seen time left new.journals stored (waiting ++ map (of_session session) fresh) → AllByRecursion FitsContent (map (of_session session) fresh)
        → Stores seen time left new stored (waiting ++ map (of_session session) fresh)
    grown_stores keeps fits = record {
      file = keeps;
      written = subst (λ (l : List SessionEntry). AllByRecursion FitsContent l) (append_assoc stored waiting (map (of_session session) fresh))
          (all-append FitsContent (stored ++ waiting) (map (of_session session) fresh) stores.written fits);
      counts = λ n. count_by_number n (session == n) refl;
      sessions =
          let opens = opened-more session (stored ++ waiting) fresh some ∙ ap (λ n. max n (opened_in (stored ++ waiting))) is_at in
          let same = ap opened_in (append_assoc stored waiting (map (of_session session) fresh)) in
          let before = stores.sessions in
          omega (arith, opens, same, before, long);
    }

  module _ (journal : List Entry) where
    -- nothing is left to be added
    pub nothing_fresh : (fresh : List Entry) → fresh ≡ drop (get_or old.counts.items place 0) journal → length fresh ≡ 0 → Stores seen time left old stored (waiting ++ map (of_session session) (drop (length so_far) journal))
    nothing_fresh [] is none =
        subst (λ (l : List Entry). Stores seen time left old stored (waiting ++ map (of_session session) l)) (is ∙ ap (λ n. drop n journal) counted_at)
        (subst (λ (l : List SessionEntry). Stores seen time left old stored l) (sym (append-nil waiting)) stores)
    nothing_fresh (e ∷ fresh) is none = absurd (omega (arith, none))

    -- what is fresh of a journal waits too
    pub more_stores : (fresh : List Entry) → fresh ≡ drop (get_or old.counts.items place 0) journal → 1 ≤ length fresh
        → ((other : ℕ) → get_or new.counts.items other 0 ≡ (if other == place then length journal else get_or old.counts.items other 0))
        → length new.counts.items ≡ max (place + 1) (length old.counts.items)
        → Keeps seen time left new.journals stored (waiting ++ map (of_session session) fresh) → AllByRecursion FitsContent (map (of_session session) fresh)
        → Stores seen time left new stored (waiting ++ map (of_session session) (drop (length so_far) journal))
    more_stores fresh fresh_is some sets long keeps fits =
        let rest_is : fresh ≡ drop (length so_far) journal = fresh_is ∙ ap (λ n. drop n journal) counted_at in
        let size : length fresh ≡ length journal - length so_far = ap length rest_is ∙ length-drop (length so_far) journal in
        subst (λ (l : List Entry). Stores seen time left new stored (waiting ++ map (of_session session) l)) rest_is
        (grown_stores fresh some (length journal) (omega (arith, size, some)) sets long keeps fits)

-- what is counted and kept is as before
pub same_stores : {D : Type 0} (seen : D → List ℕ) (time : D → ℕ) (left : D → ℕ → List ℕ → Type 0) (old new : Store D) (stored waiting : List SessionEntry)
    → Stores seen time left old stored waiting → new.counts.items ≡ old.counts.items → Keeps seen time left new.journals stored waiting → Stores seen time left new stored waiting
same_stores seen time left old new stored waiting stores same keeps = record {
  file = keeps;
  written = stores.written;
  counts = λ n. ap (λ (c : List ℕ). counted c n) same ∙ stores.counts n;
  sessions = ap length same ∙ stores.sessions;
}

-- what waited is stored
pub stores_all : {D : Type 0} (seen : D → List ℕ) (time : D → ℕ) (left : D → ℕ → List ℕ → Type 0) (old new : Store D) (stored waiting : List SessionEntry)
    → Stores seen time left old stored waiting → new.counts ≡ old.counts → Keeps seen time left new.journals (stored ++ waiting) [] → Stores seen time left new (stored ++ waiting) []
stores_all seen time left old new stored waiting stores same keeps = record {
  file = keeps;
  written = subst (λ (l : List SessionEntry). AllByRecursion FitsContent l) (sym (append-nil (stored ++ waiting))) stores.written;
  counts = λ n. ap (λ c. counted c.items n) same ∙ stores.counts n ∙ ap (λ (l : List SessionEntry). length (journal_in n l)) (sym (append-nil (stored ++ waiting)));
  sessions = ap (λ c. length c.items) same ∙ stores.sessions ∙ ap opened_in (sym (append-nil (stored ++ waiting)));
}

-- one entry more of those that wait
pub take_next : (xs : List Entry) (i : ℕ) (x : Entry) → i < length xs → x ≡ get_or xs i x → take (suc i) xs ≡ take i xs ++ x ∷ []
take_next [] i x within is = absurd (omega (arith, within))
take_next (y ∷ xs) zero x within is = ap (λ (e : Entry). e ∷ []) (sym is)
take_next (y ∷ xs) (suc i) x within is = ap (λ (l : List Entry). y ∷ l) (take_next xs i x (omega (arith, within)) is)

pub map_behind : (session : ℕ) (xs ys : List Entry) → map (of_session session) (xs ++ ys) ≡ map (of_session session) xs ++ map (of_session session) ys
map_behind session [] ys = refl
map_behind session (x ∷ xs) ys = ap (λ (l : List SessionEntry). of_session session x ∷ l) (map_behind session xs ys)

pub waits_next : (session : ℕ) (waiting : List SessionEntry) (entries : List Entry) (i : ℕ) (e : Entry) → i < length entries → e ≡ get_or entries i e
    → (waiting ++ map (of_session session) (take i entries)) ++ of_session session e ∷ [] ≡ waiting ++ map (of_session session) (take (i + 1) entries)
waits_next session waiting entries i e within is =
    append_assoc waiting (map (of_session session) (take i entries)) (of_session session e ∷ [])
    ∙ ap (λ (l : List SessionEntry). waiting ++ l) (sym (map_behind session (take i entries) (e ∷ [])))
    ∙ ap (λ (l : List Entry). waiting ++ map (of_session session) l) (sym (take_next entries i e within is) ∙ ap (λ n. take n entries) (sym (add-one i)))
