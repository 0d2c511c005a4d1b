-- Sessions in the order of their opening numbers.
use Rattle.std.proofs.Common.{◌≡◌, ◌≢◌, ◌⊎◌, ◌≤◌, ◌<◌, ◌+◌, ℕ, suc, Bool, true, false, not, cond, List, [], ◌∷◌, ◌++◌, length, filter, All, Option, Some, None, refl, sym, ◌∙◌, ap, subst, eq-eqb, ne_eqb, eqb-true, inl, inr, arith}
use Rattle.std.specs.Prelude.{bytes_eq, ◌||◌}
use Rattle.std.specs.BTreeMap.{insert_entry, is_at}
use Rattle.std.specs.Map.{lookup, remove_entry}
use Rattle.std.specs.Cmp.{nat_cmp_is, unsigned_tied}
use Rattle.std.specs.Ordering.{nat_cmp, match_ordering}
use Rattle.std.specs.declared.cmp.Ordering.TheVariants.{Greater}
use Rattle.std.proofs.lemmas.List.Elements.{All-head, All-tail, filter-append}
use Rattle.std.proofs.lemmas.List.Folds.{list_any-append}
use Rattle.parked_gate.specs.Passes.{GateId}
use Rattle.session_table.specs.Sessions.{OpenedSession, numbered_from, is_removed, live_among, named, by_number}

pub numbered_from-append : (n : ℕ) (xs ys : List (List ℕ × GateId)) → numbered_from n (xs ++ ys) ≡ numbered_from n xs ++ numbered_from (n + length xs) ys
numbered_from-append n [] ys = ap (λ k. numbered_from k ys) (add_nothing n)
  where
    add_nothing : (k : ℕ) → k ≡ k + 0
    add_nothing k = omega arith
numbered_from-append n (x ∷ xs) ys =
    ap (λ l. record { sid = x.0; number = n; gate = x.1 } ∷ l)
    (numbered_from-append (n + 1) xs ys ∙ ap (λ k. numbered_from (n + 1) xs ++ numbered_from k ys) (add_one n (length xs)))
  where
    add_one : (k l : ℕ) → (k + 1) + l ≡ k + suc l
    add_one k l = omega arith

pub length-numbered_from : (n : ℕ) (xs : List (List ℕ × GateId)) → length (numbered_from n xs) ≡ length xs
length-numbered_from n [] = refl
length-numbered_from n (x ∷ xs) = ap suc (length-numbered_from (n + 1) xs)

-- their numbers rise, from this one on
abbrev pub Ascends : ℕ → List OpenedSession → Type 0
Ascends n [] = Unit {0}
Ascends n (s ∷ ss) = (n ≤ s.number) × Ascends (s.number + 1) ss

pub ascends_below : (m n : ℕ) (ss : List OpenedSession) → m ≤ n → Ascends n ss → Ascends m ss
ascends_below m n [] le up = tt
ascends_below m n (s ∷ ss) le up = (omega arith, up.1)

pub numbers_ascend : (n : ℕ) (xs : List (List ℕ × GateId)) → Ascends n (numbered_from n xs)
numbers_ascend n [] = tt
numbers_ascend n (x ∷ xs) = (omega arith, numbers_ascend (n + 1) xs)

pub filter_ascends : (p : OpenedSession → Bool) (n : ℕ) (ss : List OpenedSession) → Ascends n ss → Ascends n (filter p ss)
filter_ascends p n [] up = tt
filter_ascends p n (s ∷ ss) up = by (p s) (filter_ascends p (s.number + 1) ss up.1)
  where
    by : (b : Bool) → Ascends (s.number + 1) (filter p ss) → Ascends n (cond b (s ∷ filter p ss) (filter p ss))
    by true later = (up.0, later)
    by false later = ascends_below n (s.number + 1) (filter p ss) (omega arith) later

-- ---- by number and by name: who has the name has the number

abbrev pub NumberedBy : List ℕ → ℕ → OpenedSession → Type 0
NumberedBy sid n s = bytes_eq s.sid sid ≡ true → s.number ≡ n

abbrev pub AllNumberedBy : List ℕ → ℕ → List OpenedSession → Type 0
AllNumberedBy sid n [] = Unit {0}
AllNumberedBy sid n (s ∷ ss) = NumberedBy sid n s × AllNumberedBy sid n ss

-- the one that is looked up by its number, where it has the name
abbrev pub with_name : List ℕ → Option OpenedSession → Option OpenedSession
with_name sid None = None
with_name sid (Some s) = cond (bytes_eq s.sid sid) (Some s) None

at_itself : (n : ℕ) → is_at (nat_cmp n) n ≡ true
at_itself n = unsigned_tied n n ∙ eq-eqb n n refl

pub at_other : (n k : ℕ) → n ≢ k → is_at (nat_cmp n) k ≡ false
at_other n k apart = unsigned_tied n k ∙ ne_eqb n k apart

pub at_same : (n k : ℕ) → is_at (nat_cmp n) k ≡ true → n ≡ k
at_same n k is = eqb-true n k (sym (unsigned_tied n k) ∙ is)

-- nobody above has the number
pub none_above : (n m : ℕ) (ss : List OpenedSession) → n < m → Ascends m ss → lookup (is_at (nat_cmp n)) (by_number ss) ≡ None
none_above n m [] less up = refl
none_above n m (s ∷ ss) less up =
    ap (λ b. cond b (Some s) (lookup (is_at (nat_cmp n)) (by_number ss))) (at_other n s.number (λ e. absurd (omega (arith, up.0, e))))
    ∙ none_above n (s.number + 1) ss (omega (arith, up.0)) up.1

pub tested : (b : Bool) → (b ≡ true) ⊎ (b ≡ false)
tested true = inl refl
tested false = inr refl

never : {A : Type 0} {b : Bool} → b ≡ true → b ≡ false → A
never yes_ no_ = absurd (cc)

-- a search by name is a look-up by the number, and a comparison of the name
pub named_by_number : (sid : List ℕ) (n m : ℕ) (ss : List OpenedSession) → Ascends m ss → AllNumberedBy sid n ss
    → named sid ss ≡ with_name sid (lookup (is_at (nat_cmp n)) (by_number ss))
named_by_number sid n m [] up all = refl
named_by_number sid n m (s ∷ ss) up all = by (tested (bytes_eq s.sid sid)) (tested (is_at (nat_cmp n) s.number)) (named_by_number sid n (s.number + 1) ss up.1 all.1)
  where
    found : Bool → Option OpenedSession
    found b = cond b (Some s) (lookup (is_at (nat_cmp n)) (by_number ss))

    by : (bytes_eq s.sid sid ≡ true) ⊎ (bytes_eq s.sid sid ≡ false) → (is_at (nat_cmp n) s.number ≡ true) ⊎ (is_at (nat_cmp n) s.number ≡ false)
        → named sid ss ≡ with_name sid (lookup (is_at (nat_cmp n)) (by_number ss))
        → cond (bytes_eq s.sid sid) (Some s) (named sid ss) ≡ with_name sid (found (is_at (nat_cmp n) s.number))
    by (inl same) (inl here) later = rw (same, here) (sym (ap (λ b. cond b (Some s) None) same))
    by (inl same) (inr away) later = never (at_itself n) (subst (λ k. is_at (nat_cmp n) k ≡ false) (all.0 same) away)
    by (inr other) (inl here) later =
        rw (other, here) (later ∙ (ap (with_name sid) (none_above n (s.number + 1) ss (omega (arith, at_same n s.number here)) up.1) ∙ sym (ap (λ b. cond b (Some s) None) other)))
    by (inr other) (inr away) later = rw (other, away) later

-- who has another number has another name
other_name : (sid : List ℕ) (n : ℕ) (s : OpenedSession) → NumberedBy sid n s → is_at (nat_cmp n) s.number ≡ false → bytes_eq s.sid sid ≡ false
other_name sid n s numbered away = by (tested (bytes_eq s.sid sid))
  where
    by : (bytes_eq s.sid sid ≡ true) ⊎ (bytes_eq s.sid sid ≡ false) → bytes_eq s.sid sid ≡ false
    by (inl same) = never (at_itself n) (subst (λ k. is_at (nat_cmp n) k ≡ false) (numbered same) away)
    by (inr other) = other

abbrev pub without : List ℕ → List OpenedSession → List OpenedSession
without sid ss = filter (λ s. not (bytes_eq s.sid sid)) ss

-- nobody above the number has the name
all_kept : (sid : List ℕ) (n m : ℕ) (ss : List OpenedSession) → n < m → Ascends m ss → AllNumberedBy sid n ss → without sid ss ≡ ss
all_kept sid n m [] less up all = refl
all_kept sid n m (s ∷ ss) less up all =
    ap (λ b. cond (not b) (s ∷ without sid ss) (without sid ss)) (other_name sid n s all.0 (at_other n s.number (λ e. absurd (omega (arith, up.0, e)))))
    ∙ ap (λ l. s ∷ l) (all_kept sid n (s.number + 1) ss (omega (arith, up.0)) up.1 all.1)

-- to take out the one of the number is to take out the one of the name
pub removed_by_number : (sid : List ℕ) (n m : ℕ) (ss : List OpenedSession) (x : OpenedSession) → Ascends m ss → AllNumberedBy sid n ss
    → lookup (is_at (nat_cmp n)) (by_number ss) ≡ Some x → bytes_eq x.sid sid ≡ true
    → remove_entry (is_at (nat_cmp n)) (by_number ss) ≡ by_number (without sid ss)
removed_by_number sid n m [] x up all found same = absurd (cc)
removed_by_number sid n m (s ∷ ss) x up all found same =
    by (tested (is_at (nat_cmp n) s.number)) found (λ is. removed_by_number sid n (s.number + 1) ss x up.1 all.1 is same)
  where
    by : (is_at (nat_cmp n) s.number ≡ true) ⊎ (is_at (nat_cmp n) s.number ≡ false)
        → cond (is_at (nat_cmp n) s.number) (Some s) (lookup (is_at (nat_cmp n)) (by_number ss)) ≡ Some x
        → (lookup (is_at (nat_cmp n)) (by_number ss) ≡ Some x → remove_entry (is_at (nat_cmp n)) (by_number ss) ≡ by_number (without sid ss))
        → cond (is_at (nat_cmp n) s.number) (by_number ss) ((s.number, s) ∷ remove_entry (is_at (nat_cmp n)) (by_number ss))
        ≡ by_number (cond (not (bytes_eq s.sid sid)) (s ∷ without sid ss) (without sid ss))
    by (inl here) is later =
        let it : s ≡ x = some_same (sym (ap (λ b. cond b (Some s) (lookup (is_at (nat_cmp n)) (by_number ss))) here) ∙ is) in
        let named_so : bytes_eq s.sid sid ≡ true = ap (λ (y : OpenedSession). bytes_eq y.sid sid) it ∙ same in
        rw (here, named_so) (sym (ap by_number (all_kept sid n (s.number + 1) ss (omega (arith, at_same n s.number here)) up.1 all.1)))
      where
        some_same : {A : Type 0} {a b : A} → Some a ≡ Some b → a ≡ b
        some_same e = cc
    by (inr away) is later =
        let rest : lookup (is_at (nat_cmp n)) (by_number ss) ≡ Some x = sym (ap (λ b. cond b (Some s) (lookup (is_at (nat_cmp n)) (by_number ss))) away) ∙ is in
        rw (away, other_name sid n s all.0 away) (ap (λ l. (s.number, s) ∷ l) (later rest))

-- ---- one more session, and one fewer

abbrev pub AllBelow : ℕ → List OpenedSession → Type 0
AllBelow n [] = Unit {0}
AllBelow n (s ∷ ss) = (s.number < n) × AllBelow n ss

pub numbers_below : (n : ℕ) (xs : List (List ℕ × GateId)) → AllBelow (n + length xs) (numbered_from n xs)
numbers_below n [] = tt
numbers_below n (x ∷ xs) = (omega arith, subst (λ k. AllBelow k (numbered_from (n + 1) xs)) (add_one n (length xs)) (numbers_below (n + 1) xs))
  where
    add_one : (k l : ℕ) → (k + 1) + l ≡ k + suc l
    add_one k l = omega arith

pub filter_below : (p : OpenedSession → Bool) (n : ℕ) (ss : List OpenedSession) → AllBelow n ss → AllBelow n (filter p ss)
filter_below p n [] low = tt
filter_below p n (s ∷ ss) low = by (p s) (filter_below p n ss low.1)
  where
    by : (b : Bool) → AllBelow n (filter p ss) → AllBelow n (cond b (s ∷ filter p ss) (filter p ss))
    by true later = (low.0, later)
    by false later = later

-- the session with the next number comes last
pub inserted_last : (x : OpenedSession) (ss : List OpenedSession) → AllBelow x.number ss
    → insert_entry nat_cmp (by_number ss) x.number x ≡ by_number (ss ++ x ∷ [])
inserted_last x [] low = refl
inserted_last x (s ∷ ss) low =
    ap (λ o. match_ordering o ((x.number, x) ∷ by_number (s ∷ ss)) ((s.number, x) ∷ by_number ss) ((s.number, s) ∷ insert_entry nat_cmp (by_number ss) x.number x))
    (sym (nat_cmp_is x.number s.number Greater low.0))
    ∙ ap (λ l. (s.number, s) ∷ l) (inserted_last x ss low.1)

pub live_after_opening : (removals : List (List ℕ)) (ss : List OpenedSession) (x : OpenedSession) → is_removed removals x ≡ false
    → live_among removals (ss ++ x ∷ []) ≡ live_among removals ss ++ x ∷ []
live_after_opening removals ss x new =
    filter-append (λ s. not (is_removed removals s)) ss (x ∷ []) ∙ ap (λ b. live_among removals ss ++ cond (not b) (x ∷ []) []) new

pub live_after_removal : (removals : List (List ℕ)) (sid : List ℕ) (ss : List OpenedSession)
    → live_among (removals ++ sid ∷ []) ss ≡ without sid (live_among removals ss)
live_after_removal removals sid [] = refl
live_after_removal removals sid (s ∷ ss) =
    ap (λ b. cond (not b) (s ∷ live_among (removals ++ sid ∷ []) ss) (live_among (removals ++ sid ∷ []) ss)) (list_any-append (bytes_eq s.sid) removals (sid ∷ []))
    ∙ by (is_removed removals s) (tested (bytes_eq s.sid sid)) (live_after_removal removals sid ss)
  where
    by : (b : Bool) → (bytes_eq s.sid sid ≡ true) ⊎ (bytes_eq s.sid sid ≡ false) → live_among (removals ++ sid ∷ []) ss ≡ without sid (live_among removals ss)
        → cond (not (b || (bytes_eq s.sid sid || false))) (s ∷ live_among (removals ++ sid ∷ []) ss) (live_among (removals ++ sid ∷ []) ss)
        ≡ without sid (cond (not b) (s ∷ live_among removals ss) (live_among removals ss))
    by true any later = later
    by false (inl same) later = rw (same) later
    by false (inr other) later = rw (other) (ap (λ l. s ∷ l) later)

-- who is found by name is looked up by its number, and has the name
pub named_has : (sid : List ℕ) (m : ℕ) (ss : List OpenedSession) (x : OpenedSession) → Ascends m ss → named sid ss ≡ Some x
    → (lookup (is_at (nat_cmp x.number)) (by_number ss) ≡ Some x) × (bytes_eq x.sid sid ≡ true)
named_has sid m [] x up is = absurd (cc)
named_has sid m (s ∷ ss) x up is = by (tested (bytes_eq s.sid sid)) is (λ later. named_has sid (s.number + 1) ss x up.1 later)
  where
    some_same : {A : Type 0} {a b : A} → Some a ≡ Some b → a ≡ b
    some_same e = cc

    away : lookup (is_at (nat_cmp x.number)) (by_number ss) ≡ Some x → (is_at (nat_cmp x.number) s.number ≡ true) ⊎ (is_at (nat_cmp x.number) s.number ≡ false)
        → lookup (is_at (nat_cmp x.number)) (by_number (s ∷ ss)) ≡ Some x
    away there (inr other) = ap (λ b. cond b (Some s) (lookup (is_at (nat_cmp x.number)) (by_number ss))) other ∙ there
    away there (inl here) =
        absurd (none_is_some (sym (none_above x.number (s.number + 1) ss (omega (arith, at_same x.number s.number here)) up.1) ∙ there))
      where
        none_is_some : {A : Type 0} {a : A} → None ≡ Some a → ⊥
        none_is_some e = cc

    by : (bytes_eq s.sid sid ≡ true) ⊎ (bytes_eq s.sid sid ≡ false) → cond (bytes_eq s.sid sid) (Some s) (named sid ss) ≡ Some x
        → (named sid ss ≡ Some x → (lookup (is_at (nat_cmp x.number)) (by_number ss) ≡ Some x) × (bytes_eq x.sid sid ≡ true))
        → (lookup (is_at (nat_cmp x.number)) (by_number (s ∷ ss)) ≡ Some x) × (bytes_eq x.sid sid ≡ true)
    by (inl same) is later =
        let it : s ≡ x = some_same (sym (ap (λ b. cond b (Some s) (named sid ss)) same) ∙ is) in
        subst (λ (y : OpenedSession). (lookup (is_at (nat_cmp y.number)) (by_number (s ∷ ss)) ≡ Some y) × (bytes_eq y.sid sid ≡ true)) it
        (ap (λ b. cond b (Some s) (lookup (is_at (nat_cmp s.number)) (by_number ss))) (at_itself s.number), same)
    by (inr other) is later =
        let rest = later (sym (ap (λ b. cond b (Some s) (named sid ss)) other) ∙ is) in
        (away rest.0 (tested (is_at (nat_cmp x.number) s.number)), rest.1)

-- and what is true of all is true of it
pub named_all : (P : OpenedSession → Type 0) (sid : List ℕ) (ss : List OpenedSession) (x : OpenedSession) → All P ss → named sid ss ≡ Some x → P x
named_all P sid [] x all is = absurd (cc)
named_all P sid (s ∷ ss) x all is = by (tested (bytes_eq s.sid sid)) is (λ later. named_all P sid ss x (All-tail P s ss all) later)
  where
    some_same : {A : Type 0} {a b : A} → Some a ≡ Some b → a ≡ b
    some_same e = cc

    by : (bytes_eq s.sid sid ≡ true) ⊎ (bytes_eq s.sid sid ≡ false) → cond (bytes_eq s.sid sid) (Some s) (named sid ss) ≡ Some x → (named sid ss ≡ Some x → P x) → P x
    by (inl same) is later = subst P (some_same (sym (ap (λ b. cond b (Some s) (named sid ss)) same) ∙ is)) (All-head P s ss all)
    by (inr other) is later = later (sym (ap (λ b. cond b (Some s) (named sid ss)) other) ∙ is)
