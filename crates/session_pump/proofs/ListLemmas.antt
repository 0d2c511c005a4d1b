-- Places of a list that is changed at one of them, or at its end.
use Rattle.std.proofs.Common.{◌≡◌, ◌≢◌, ◌⊎◌, inl, inr, ℕ, ◌<◌, ◌≤◌, ◌+◌, zero, suc, List, ◌∷◌, [], ◌++◌, length, set, get_or, map, Some, None, refl, sym, ap, subst, ◌∙◌, arith}
use Rattle.std.proofs.Math.Dec.{ltb}
use Rattle.std.proofs.lemmas.Bool.{ltb-true}
use Rattle.std.specs.Prelude.{slice_get, true}
use Rattle.std.proofs.lemmas.Option.{none-some, same_Some}

-- what was put at a place stands there
pub got_set : {A : Type 0} (xs : List A) (i : ℕ) (x y : A) → slice_get xs i ≡ Some x → slice_get (set xs i y) i ≡ Some y
got_set [] i x y is = absurd (none-some x is)
got_set (a ∷ xs) zero x y is = refl
got_set (a ∷ xs) (suc i) x y is = got_set xs i x y is

-- the other places are as before
pub got_other : {A : Type 0} (xs : List A) (i j : ℕ) (y : A) → j ≢ i → slice_get (set xs i y) j ≡ slice_get xs j
got_other [] i j y apart = refl
got_other (a ∷ xs) zero zero y apart = absurd (apart refl)
got_other (a ∷ xs) zero (suc j) y apart = refl
got_other (a ∷ xs) (suc i) zero y apart = refl
got_other (a ∷ xs) (suc i) (suc j) y apart = got_other xs i j y (λ e. apart (ap suc e))

-- what stands there was put there
pub set_same : {A : Type 0} (xs : List A) (i : ℕ) (x : A) → slice_get xs i ≡ Some x → set xs i x ≡ xs
set_same [] i x is = refl
set_same (a ∷ xs) zero x is = ap (λ y. y ∷ xs) (sym (same_Some a x is))
set_same (a ∷ xs) (suc i) x is = ap (λ ys. a ∷ ys) (set_same xs i x is)

pub set_twice : {A : Type 0} (xs : List A) (i : ℕ) (x y : A) → set (set xs i x) i y ≡ set xs i y
set_twice [] i x y = refl
set_twice (a ∷ xs) zero x y = refl
set_twice (a ∷ xs) (suc i) x y = ap (λ ys. a ∷ ys) (set_twice xs i x y)

-- what stands at a place is what was put there, or what stood there before
pub got_changed : {A : Type 0} (xs : List A) (i j : ℕ) (y z : A) → slice_get (set xs i y) j ≡ Some z → (y ≡ z) ⊎ (slice_get xs j ≡ Some z)
got_changed [] i j y z is = absurd (none-some z is)
got_changed (a ∷ xs) zero zero y z is = inl (same_Some y z is)
got_changed (a ∷ xs) zero (suc j) y z is = inr is
got_changed (a ∷ xs) (suc i) zero y z is = inr is
got_changed (a ∷ xs) (suc i) (suc j) y z is = got_changed xs i j y z is

-- one more at the end
pub got_last : {A : Type 0} (xs : List A) (y : A) → slice_get (xs ++ y ∷ []) (length xs) ≡ Some y
got_last [] y = refl
got_last (a ∷ xs) y = got_last xs y

pub got_more : {A : Type 0} (xs : List A) (i : ℕ) (y z : A) → slice_get (xs ++ y ∷ []) i ≡ Some z → (y ≡ z) ⊎ (slice_get xs i ≡ Some z)
got_more [] zero y z is = inl (same_Some y z is)
got_more [] (suc i) y z is = absurd (none-some z is)
got_more (a ∷ xs) zero y z is = inr is
got_more (a ∷ xs) (suc i) y z is = got_more xs i y z is

-- a place that has something is one of the list
pub got_within : {A : Type 0} (xs : List A) (i : ℕ) (x : A) → slice_get xs i ≡ Some x → i < length xs
got_within [] i x is = absurd (none-some x is)
got_within (a ∷ xs) zero x is = omega arith
got_within (a ∷ xs) (suc i) x is = omega (arith, got_within xs i x is)

-- a place past the end has nothing
pub got_past : {A : Type 0} (xs : List A) (i : ℕ) → length xs ≤ i → slice_get xs i ≡ None
got_past [] i past = refl
got_past (a ∷ xs) zero past = absurd (omega (arith, past))
got_past (a ∷ xs) (suc i) past = got_past xs i (omega (arith, past))

-- where each is known by something else
pub got_map : {A B : Type 0} (f : A → B) (xs : List A) (i : ℕ) (x : A) → slice_get xs i ≡ Some x → slice_get (map f xs) i ≡ Some (f x)
got_map f [] i x is = absurd (none-some x is)
got_map f (a ∷ xs) zero x is = ap (λ y. Some (f y)) (same_Some a x is)
got_map f (a ∷ xs) (suc i) x is = got_map f xs i x is

read_there : {A : Type 0} (xs : List A) (i : ℕ) (x : A) → i < length xs → x ≡ get_or xs i x → slice_get xs i ≡ Some x
read_there [] i x within read = absurd (omega (arith, within))
read_there (a ∷ xs) zero x within read = ap Some (sym read)
read_there (a ∷ xs) (suc i) x within read = read_there xs i x (omega (arith, within)) read

-- what was read at its place stands there
pub got_read : {A : Type 0} (seen xs : List A) (i : ℕ) (x : A) → seen ≡ xs → i < length seen → x ≡ get_or seen i x → slice_get xs i ≡ Some x
got_read seen xs i x same within read = subst (λ ys. slice_get ys i ≡ Some x) same (read_there seen i x within read)

-- or was looked up there
pub got_looked : {A : Type 0} (seen xs : List A) (i : ℕ) (x : A) → seen ≡ xs → true ≡ ltb i (length seen) → x ≡ get_or seen i x → slice_get xs i ≡ Some x
got_looked seen xs i x same within read = got_read seen xs i x same (ltb-true i (length seen) (sym within)) read

-- ---- what holds of each place below one

below_next : (p place : ℕ) → p < place + 1 → (p ≡ place) ⊎ (p < place)
below_next zero zero h = inl refl
below_next zero (suc n) h = inr (omega arith)
below_next (suc p) zero h = absurd (omega (arith, h))
below_next (suc p) (suc n) h = by (below_next p n (omega (arith, h)))
  where
    by : (p ≡ n) ⊎ (p < n) → (suc p ≡ suc n) ⊎ (suc p < suc n)
    by (inl same) = inl (ap suc same)
    by (inr less) = inr (omega (arith, less))

apart_below : (p place : ℕ) → p < place → p ≡ place → ⊥
apart_below p place less same = omega (arith, less, same)

-- it holds of the next place too, where something else stands now
pub next_changed : {A : Type 0} (P : A → Type 0) (xs : List A) (place : ℕ) (x y : A) → slice_get xs place ≡ Some x
    → ((p : ℕ) (z : A) → p < place → slice_get xs p ≡ Some z → P z) → P y → (p : ℕ) (z : A) → p < place + 1 → slice_get (set xs place y) p ≡ Some z → P z
next_changed P xs place x y was before this p z less is = by (below_next p place less)
  where
    by : (p ≡ place) ⊎ (p < place) → P z
    by (inl same) = subst P (same_Some y z (sym (got_set xs place x y was) ∙ subst (λ (q : ℕ). slice_get (set xs place y) q ≡ Some z) same is)) this
    by (inr under) = before p z under (sym (got_other xs place p y (apart_below p place under)) ∙ is)

-- or the same
pub next_same : {A : Type 0} (P : A → Type 0) (xs : List A) (place : ℕ) (x : A) → slice_get xs place ≡ Some x
    → ((p : ℕ) (z : A) → p < place → slice_get xs p ≡ Some z → P z) → P x → (p : ℕ) (z : A) → p < place + 1 → slice_get xs p ≡ Some z → P z
next_same P xs place x was before this p z less is = by (below_next p place less)
  where
    by : (p ≡ place) ⊎ (p < place) → P z
    by (inl same) = subst P (same_Some x z (sym was ∙ subst (λ (q : ℕ). slice_get xs q ≡ Some z) same is)) this
    by (inr under) = before p z under is

-- it holds of none yet
pub none_below : {A : Type 0} (P : A → Type 0) (xs : List A) (p : ℕ) (z : A) → p < 0 → slice_get xs p ≡ Some z → P z
none_below P xs p z less is = absurd (omega (arith, less))

-- it holds of all
pub all_below : {A : Type 0} (P : A → Type 0) (xs : List A) (place : ℕ) → length xs ≤ place → ((p : ℕ) (z : A) → p < place → slice_get xs p ≡ Some z → P z)
    → (p : ℕ) (z : A) → slice_get xs p ≡ Some z → P z
all_below P xs place whole before p z is =
    let within : p < length xs = got_within xs p z is in
    before p z (omega (arith, whole, within)) is
