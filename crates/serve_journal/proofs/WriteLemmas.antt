-- Entries that are put behind those of a file.
use Rattle.std.proofs.Common.{◌≡◌, ◌⊎◌, inl, inr, ℕ, zero, suc, ◌+◌, ◌≤◌, List, [], ◌∷◌, ◌++◌, Some, None, Result, Ok, Err, length, min, drop, take, add-one, refl, sym, ◌∙◌, ap, subst, arith, append_assoc}
use Rattle.std.specs.Prelude.{OnOk, slice_get}
use Rattle.std.proofs.lemmas.List.{append-nil}
use Rattle.entry_queue.specs.declared.queue.Noted.{Noted}
use Rattle.session_journal.specs.declared.entry.Entry.{Entry}
use Rattle.journal_store.specs.Entries.{journal_in}
use Rattle.journal_store.specs.declared.reading.SessionEntry.{SessionEntry}
use Rattle.journal_store.proofs.EntryLemmas.{journal-append}
use Rattle.session_store.specs.Store.{Stores, of_session}
use Rattle.session_store.proofs.JournalLemmas.{with_own}
use Rattle.serve_journal.specs.Writing.{AllGo, FirstStand, IsEarly, IsFar, IsNext, Puts, StandsIn, Writes, Written, far_in}
use Rattle.serve_journal.specs.declared.writer.Early.{Early}
use Rattle.serve_journal.specs.declared.writer.Writer.{Writer}

-- what holds where a call answered well
pub then_ok : {T E : Type 0} (r : Result T E) (P Q : Type 0) → (P → Q) → OnOk r P → OnOk r Q
then_ok (Ok x) P Q then p = then p
then_ok (Err e) P Q then p = p

module _ {A : Type 0} where
  -- the next one of a list
  pub took : (xs : List A) (i : ℕ) (x : A) (rest : List A) → drop i xs ≡ x ∷ rest → (take (i + 1) xs ≡ take i xs ++ x ∷ []) × (rest ≡ drop (i + 1) xs)
  took xs i x rest is =
      let both = by xs i is in (ap (λ n. take n xs) (add-one i) ∙ both.0, both.1 ∙ ap (λ n. drop n xs) (sym (add-one i)))
    where
      same_rest : (y : A) (ys : List A) → y ∷ ys ≡ x ∷ rest → rest ≡ ys
      same_rest y ys eq = cc

      same_first : (y : A) (ys : List A) → y ∷ ys ≡ x ∷ rest → y ≡ x
      same_first y ys eq = cc

      none : [] ≡ x ∷ rest → ⊥
      none eq = cc

      by : (ys : List A) (k : ℕ) → drop k ys ≡ x ∷ rest → (take (suc k) ys ≡ take k ys ++ x ∷ []) × (rest ≡ drop (suc k) ys)
      by [] zero eq = absurd (none eq)
      by [] (suc k) eq = absurd (none eq)
      by (y ∷ ys) zero eq = (ap (λ z. z ∷ []) (same_first y ys eq), same_rest y ys eq)
      by (y ∷ ys) (suc k) eq = let more = by ys k eq in (ap (λ l. y ∷ l) more.0, more.1)

  -- what was found in a list is found in a longer one
  pub found_first : (xs ys : List A) (k : ℕ) (x : A) → slice_get xs k ≡ Some x → slice_get (xs ++ ys) k ≡ Some x
  found_first [] ys k x is = absurd (none_some is)
    where
      none_some : None ≡ Some x → ⊥
      none_some same = cc
  found_first (y ∷ xs) ys zero x is = is
  found_first (y ∷ xs) ys (suc k) x is = found_first xs ys k x is

  pub found_last : (xs : List A) (x : A) → slice_get (xs ++ x ∷ []) (length xs) ≡ Some x
  found_last [] x = refl
  found_last (y ∷ xs) x = found_last xs x

  -- it was there before, or is the last
  pub found_either : (xs : List A) (x : A) (k : ℕ) (y : A) → slice_get (xs ++ x ∷ []) k ≡ Some y → (slice_get xs k ≡ Some y) ⊎ ((k ≡ length xs) × (y ≡ x))
  found_either [] x zero y is = inr (refl, some_same is)
    where
      some_same : Some x ≡ Some y → y ≡ x
      some_same same = cc
  found_either [] x (suc k) y is = absurd (none_some is)
    where
      none_some : None ≡ Some y → ⊥
      none_some same = cc
  found_either (z ∷ xs) x zero y is = inl is
  found_either (z ∷ xs) x (suc k) y is = by (found_either xs x k y is)
    where
      by : (slice_get xs k ≡ Some y) ⊎ ((k ≡ length xs) × (y ≡ x)) → (slice_get xs k ≡ Some y) ⊎ ((suc k ≡ suc (length xs)) × (y ≡ x))
      by (inl before) = inl before
      by (inr last) = inr (ap suc last.0, last.1)

  -- a list without one of its elements
  abbrev pub without : ℕ → List A → List A
  without k xs = take k xs ++ drop (suc k) xs

  -- what is found in it was there
  pub was_found : (xs : List A) (k j : ℕ) (x : A) → slice_get (without k xs) j ≡ Some x → (i : ℕ) × (slice_get xs i ≡ Some x)
  was_found [] zero j x is = (j, is)
  was_found [] (suc k) j x is = (j, is)
  was_found (y ∷ xs) zero j x is = (suc j, is)
  was_found (y ∷ xs) (suc k) zero x is = (zero, is)
  was_found (y ∷ xs) (suc k) (suc j) x is =
      let rest = was_found xs k j x is in (suc rest.0, rest.1)

  -- and of what was there only that one isn't
  pub still_found : (xs : List A) (k i : ℕ) (x : A) → slice_get xs i ≡ Some x → (i ≡ k) ⊎ ((j : ℕ) × (slice_get (without k xs) j ≡ Some x))
  still_found [] k i x is = absurd (none_some is)
    where
      none_some : None ≡ Some x → ⊥
      none_some same = cc
  still_found (y ∷ xs) zero zero x is = inl refl
  still_found (y ∷ xs) zero (suc i) x is = inr (i, is)
  still_found (y ∷ xs) (suc k) zero x is = inr (zero, is)
  still_found (y ∷ xs) (suc k) (suc i) x is = by (still_found xs k i x is)
    where
      by : (i ≡ k) ⊎ ((j : ℕ) × (slice_get (without k xs) j ≡ Some x)) → (suc i ≡ suc k) ⊎ ((j : ℕ) × (slice_get (y ∷ without k xs) j ≡ Some x))
      by (inl same) = inl (ap suc same)
      by (inr rest) = inr (suc rest.0, rest.1)

-- where an entry stands it stays
pub stands_on : (entries more : List SessionEntry) (n : Noted) → StandsIn entries n → StandsIn (entries ++ more) n
stands_on entries more n stands =
    subst (λ (l : List Entry). slice_get l n.index ≡ Some n.entry) (sym (journal-append n.session entries more))
    (found_first (journal_in n.session entries) (journal_in n.session more) n.index n.entry stands)

-- one that is next stands once it is put
pub stands_last : (entries : List SessionEntry) (n : Noted) → IsNext entries n → StandsIn (entries ++ of_session n.session n.entry ∷ []) n
stands_last entries n next =
    subst (λ (l : List Entry). slice_get l n.index ≡ Some n.entry) (sym (with_own n.session entries (n.entry ∷ [])))
    (subst (λ k. slice_get (journal_in n.session entries ++ n.entry ∷ []) k ≡ Some n.entry) (sym next.place) (found_last (journal_in n.session entries) n.entry))

-- those that go behind, and then further ones
pub all_go_on : (before first more : List SessionEntry) → AllGo before first → AllGo (before ++ first) more → AllGo before (first ++ more)
all_go_on before [] more go on = subst (λ (l : List SessionEntry). AllGo l more) (append-nil before) on
all_go_on before (e ∷ first) more go on =
    (go.0, go.1, all_go_on (before ++ e ∷ []) first more go.2 (subst (λ (l : List SessionEntry). AllGo l more) (sym (append_assoc before (e ∷ []) first)) on))

module _ {D : Type 0} (seen : D → List ℕ) (time : D → ℕ) (left : D → ℕ → List ℕ → Type 0) (old new : Writer D) (stored waiting : List SessionEntry)
    (writes : Writes seen time left old stored waiting) where
  -- one more was taken
  pub takes_one : (n : Noted) (e : Early) → e ≡ record { place = length old.taken; noted = n } → new.store ≡ old.store → new.taken ≡ old.taken ++ n ∷ [] → new.early.items ≡ old.early.items ++ e ∷ []
      → Writes seen time left new stored waiting
  takes_one n e is same takes early = record {
    store = subst (λ s. Stores seen time left s stored waiting) (sym same) writes.store;
    taken = λ k x found. subst (λ (l : List Noted). slice_get l x.place ≡ Some x.noted) (sym takes)
        (was_taken k x (found_either old.early.items e k x (subst (λ (l : List Early). slice_get l k ≡ Some x) early found)));
    each = λ place m found. is_put place m (found_either old.taken n place m (subst (λ (l : List Noted). slice_get l place ≡ Some m) takes found));
  }
    where
      was_taken : (k : ℕ) (x : Early) → (slice_get old.early.items k ≡ Some x) ⊎ ((k ≡ length old.early.items) × (x ≡ e)) → slice_get (old.taken ++ n ∷ []) x.place ≡ Some x.noted
      was_taken k x (inl before) = found_first old.taken (n ∷ []) x.place x.noted (writes.taken k x before)
      was_taken k x (inr last) =
          subst (λ (y : Early). slice_get (old.taken ++ n ∷ []) y.place ≡ Some y.noted) (sym (last.1 ∙ is)) (found_last old.taken n)

      is_put : (place : ℕ) (m : Noted) → (slice_get old.taken place ≡ Some m) ⊎ ((place ≡ length old.taken) × (m ≡ n)) → StandsIn (stored ++ waiting) m ⊎ IsEarly new.early.items place
      is_put place m (inl before) = by (writes.each place m before)
        where
          by : StandsIn (stored ++ waiting) m ⊎ IsEarly old.early.items place → StandsIn (stored ++ waiting) m ⊎ IsEarly new.early.items place
          by (inl stands) = inl stands
          by (inr waits) = inr (waits.0, waits.1, subst (λ (l : List Early). slice_get l waits.0 ≡ Some waits.1) (sym early) (found_first old.early.items (e ∷ []) waits.0 waits.1 waits.2), waits.3)
      is_put place m (inr last) = inr (length old.early.items, e, subst (λ (l : List Early). slice_get l (length old.early.items) ≡ Some e) (sym early) (found_last old.early.items e), ap (λ (x : Early). x.place) is ∙ sym last.0)

  -- one of those that came early was put
  pub puts_one : (k : ℕ) (e : Early) → slice_get old.early.items k ≡ Some e → IsNext (stored ++ waiting) e.noted → new.taken ≡ old.taken → new.early.items ≡ take k old.early.items ++ drop (k + 1) old.early.items
      → Stores seen time left new.store stored (waiting ++ of_session e.noted.session e.noted.entry ∷ []) → Puts seen time left new stored waiting
  puts_one k e at next same early stores = record {
    more = of_session e.noted.session e.noted.entry ∷ [];
    go = (next.some, next.opened, tt);
    writes = record {
      store = stores;
      taken = λ j x found. subst (λ (l : List Noted). slice_get l x.place ≡ Some x.noted) (sym same)
          (let was = was_found old.early.items k j x (subst (λ (l : List Early). slice_get l j ≡ Some x) rest found) in writes.taken was.0 x was.1);
      each = λ place m found. by place m (writes.each place m (subst (λ (l : List Noted). slice_get l place ≡ Some m) same found)) (subst (λ (l : List Noted). slice_get l place ≡ Some m) same found);
    };
  }
    where
      rest : new.early.items ≡ without k old.early.items
      rest = early ∙ ap (λ i. take k old.early.items ++ drop i old.early.items) (add-one k)

      joined : (stored ++ waiting) ++ of_session e.noted.session e.noted.entry ∷ [] ≡ stored ++ (waiting ++ of_session e.noted.session e.noted.entry ∷ [])
      joined = append_assoc stored waiting (of_session e.noted.session e.noted.entry ∷ [])

      one : (x y : Early) → Some x ≡ Some y → x ≡ y
      one x y is = cc

      two : (x y : Noted) → Some x ≡ Some y → x ≡ y
      two x y is = cc

      here : (place : ℕ) (m : Noted) → slice_get old.taken place ≡ Some m → (i : ℕ) (x : Early) → slice_get old.early.items i ≡ Some x → x.place ≡ place
          → (i ≡ k) ⊎ ((j : ℕ) × (slice_get (without k old.early.items) j ≡ Some x)) → StandsIn (stored ++ (waiting ++ of_session e.noted.session e.noted.entry ∷ [])) m ⊎ IsEarly new.early.items place
      here place m found i x there is (inl same_place) =
          let x_is : x ≡ e = one x e (sym there ∙ ap (slice_get old.early.items) same_place ∙ at) in
          let m_is : e.noted ≡ m =
          two e.noted m (sym (writes.taken k e at) ∙ ap (slice_get old.taken) (ap (λ (y : Early). y.place) (sym x_is) ∙ is) ∙ found) in
          inl (subst (λ (l : List SessionEntry). StandsIn l m) joined
          (subst (λ (y : Noted). StandsIn ((stored ++ waiting) ++ of_session e.noted.session e.noted.entry ∷ []) y) m_is (stands_last (stored ++ waiting) e.noted next)))
      here place m found i x there is (inr others) = inr (others.0, x, subst (λ (l : List Early). slice_get l others.0 ≡ Some x) (sym rest) others.1, is)

      by : (place : ℕ) (m : Noted) → StandsIn (stored ++ waiting) m ⊎ IsEarly old.early.items place → slice_get old.taken place ≡ Some m
          → StandsIn (stored ++ (waiting ++ of_session e.noted.session e.noted.entry ∷ [])) m ⊎ IsEarly new.early.items place
      by place m (inl stands) found = inl (subst (λ (l : List SessionEntry). StandsIn l m) joined (stands_on (stored ++ waiting) (of_session e.noted.session e.noted.entry ∷ []) m stands))
      by place m (inr early_one) found = here place m found early_one.0 early_one.1 early_one.2 early_one.3 (still_found old.early.items k early_one.0 early_one.1 early_one.2)

-- nothing more was put
pub puts_none : {D : Type 0} (seen : D → List ℕ) (time : D → ℕ) (left : D → ℕ → List ℕ → Type 0) (writer : Writer D) (stored waiting : List SessionEntry)
    → Writes seen time left writer stored waiting → Puts seen time left writer stored waiting
puts_none seen time left writer stored waiting writes = record {
  more = [];
  go = tt;
  writes = subst (λ (l : List SessionEntry). Writes seen time left writer stored l) (sym (append-nil waiting)) writes;
}

-- some were put, and then some more
pub puts_then : {D : Type 0} (seen : D → List ℕ) (time : D → ℕ) (left : D → ℕ → List ℕ → Type 0) (mid new : Writer D) (stored waiting : List SessionEntry)
    → (first : Puts seen time left mid stored waiting) → Puts seen time left new stored (waiting ++ first.more) → Puts seen time left new stored waiting
puts_then seen time left mid new stored waiting first then_more = record {
  more = first.more ++ then_more.more;
  go = all_go_on (stored ++ waiting) first.more then_more.more first.go
      (subst (λ (l : List SessionEntry). AllGo l then_more.more) (sym (append_assoc stored waiting first.more)) then_more.go);
  writes = subst (λ (l : List SessionEntry). Writes seen time left new stored l) (append_assoc waiting first.more then_more.more) then_more.writes;
}

-- so many of those that were taken stand, where none of them isn't put yet
pub first_stand : {D : Type 0} (seen : D → List ℕ) (time : D → ℕ) (left : D → ℕ → List ℕ → Type 0) (writer : Writer D) (entries : List SessionEntry) (count : ℕ)
    → Writes seen time left writer entries [] → IsFar writer.taken writer.early.items count → FirstStand entries writer.taken count
first_stand seen time left writer entries count writes far place n before found =
    by (writes.each place n found)
  where
    by : StandsIn (entries ++ []) n ⊎ IsEarly writer.early.items place → StandsIn entries n
    by (inl stands) = subst (λ (l : List SessionEntry). StandsIn l n) (append-nil entries) stands
    by (inr early) = let late = far.before early.0 early.1 early.2 in absurd (omega (arith, late, early.3, before))

-- what was put is stored
pub written : {D : Type 0} (seen : D → List ℕ) (time : D → ℕ) (left : D → ℕ → List ℕ → Type 0) (mid new : Writer D) (stored : List SessionEntry) (count : ℕ)
    → (put : Puts seen time left mid stored []) → new.taken ≡ mid.taken → new.early.items ≡ mid.early.items → Stores seen time left new.store (stored ++ ([] ++ put.more)) []
    → IsFar new.taken new.early.items count → Written seen time left new stored count
written seen time left mid new stored count put same_taken same_early stores far =
    let all : Writes seen time left new (stored ++ put.more) [] = record {
      store = stores;
      taken = λ k e found. subst (λ (l : List Noted). slice_get l e.place ≡ Some e.noted) (sym same_taken) (put.writes.taken k e (subst (λ (l : List Early). slice_get l k ≡ Some e) same_early found));
      each = λ place n found.
          subst (λ (l : List Early). StandsIn ((stored ++ put.more) ++ []) n ⊎ IsEarly l place) (sym same_early)
          (subst (λ (l : List SessionEntry). StandsIn l n ⊎ IsEarly mid.early.items place) (sym (append-nil (stored ++ put.more)))
          (put.writes.each place n (subst (λ (l : List Noted). slice_get l place ≡ Some n) same_taken found)));
    } in
    record {
      more = put.more;
      go = subst (λ (l : List SessionEntry). AllGo l put.more) (append-nil stored) put.go;
      writes = all;
      within = far.within;
      first = first_stand seen time left new (stored ++ put.more) count all far;
    }

far_below : (early : List Early) (far : ℕ) → far_in far early ≤ far
far_below [] far = omega arith
far_below (e ∷ early) far =
    let rest = far_below early (min far e.place) in
    omega (arith, rest)

far_before : (early : List Early) (far k : ℕ) (e : Early) → slice_get early k ≡ Some e → far_in far early ≤ e.place
far_before [] far k e is = absurd (none_some is)
  where
    none_some : None ≡ Some e → ⊥
    none_some same = cc
far_before (x ∷ early) far zero e is =
    let rest = far_below early (min far x.place) in
    let place : x.place ≡ e.place = ap (λ (y : Early). y.place) (some_same is) in
    omega (arith, rest, place)
  where
    some_same : Some x ≡ Some e → x ≡ e
    some_same same = cc
far_before (x ∷ early) far (suc k) e is = far_before early (min far x.place) k e is

-- so many are put
pub is_far : (taken : List Noted) (early : List Early) (total count : ℕ) → total ≡ length taken → count ≡ far_in total early → IsFar taken early count
is_far taken early total count all is = record {
  within = let below = far_below early total in omega (arith, all, is, below);
  before = λ k e found. let before = far_before early total k e found in omega (arith, is, before);
}
