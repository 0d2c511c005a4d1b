-- A full ring of places, into which one more comes at the front.
use Rattle.std.proofs.Common.{◌≡◌, ℕ, zero, suc, ◌-◌, ◌<◌, ◌≤◌, List, [], ◌∷◌, ◌++◌, Option, Some, None, length, drop, take, get_or, refl, ap, arith, length-take}
use Rattle.std.specs.List.{slice_get}
use Rattle.std.proofs.lemmas.List.{get_or-take, get_or_past}
use Rattle.circular_buffer.specs.Buffer.{keep_last}

-- where there is no place there is no answer
pub get_none : {A : Type 0} (places : List (Option A)) (k : ℕ) → slice_get places k ≡ None → get_or places k None ≡ None
get_none [] k e = refl
get_none (place ∷ places) zero e = absurd (cc)
get_none (place ∷ places) (suc k) e = get_none places k e

pub get_some : {A : Type 0} (places : List (Option A)) (k : ℕ) (place : Option A) → slice_get places k ≡ Some place → get_or places k None ≡ place
get_some [] k place e = absurd (cc)
get_some (first ∷ places) zero place e = cc
get_some (first ∷ places) (suc k) place e = get_some places k place e

-- nothing is given up where there is room
pub keep_all : {X : Type 0} (n : ℕ) (xs : List X) → length xs ≤ n → keep_last n xs ≡ xs
keep_all n xs room =
    let none : length xs - n ≡ 0 = omega arith in
    ap (λ k. drop k xs) none

pub length-take_le : {X : Type 0} (k : ℕ) (xs : List X) → length (take k xs) ≤ k
length-take_le zero xs = omega arith
length-take_le (suc k) [] = omega arith
length-take_le (suc k) (x ∷ xs) = omega (arith, length-take_le k xs)

pub take_one_more : {X : Type 0} (xs : List X) (k : ℕ) (x : X) → slice_get xs k ≡ Some x → take (suc k) xs ≡ take k xs ++ x ∷ []
take_one_more [] k x e = absurd (cc)
take_one_more (y ∷ xs) zero x e =
    let same : y ≡ x = cc in
    ap (λ z. z ∷ []) same
take_one_more (y ∷ xs) (suc k) x e = ap (λ l. y ∷ l) (take_one_more xs k x e)

module _ {A : Type 0} where
  -- the answer comes to the front, and the last place is given up
  abbrev pub pushed : A → List (Option A) → List (Option A)
  pushed answer places = take (length places) (Some answer ∷ places)

  pub length-pushed : (answer : A) (places : List (Option A)) → length (pushed answer places) ≡ length places
  length-pushed answer places = simp length-take (omega arith)

  pub pushed_first : (answer : A) (places : List (Option A)) → 0 < length places → get_or (pushed answer places) 0 None ≡ Some answer
  pushed_first answer places some = get_or-take (length places) (Some answer ∷ places) 0 None some

  pub pushed_later : (answer : A) (places : List (Option A)) (k : ℕ) → suc k < length places → get_or (pushed answer places) (suc k) None ≡ get_or places k None
  pushed_later answer places k within = get_or-take (length places) (Some answer ∷ places) (suc k) None within

  pub pushed_past : (answer : A) (places : List (Option A)) (k : ℕ) → length places ≤ suc k → get_or (pushed answer places) (suc k) None ≡ None
  pushed_past answer places k past = get_or_past (pushed answer places) (suc k) None (omega (arith, length-pushed answer places))

  pub last_place : (answer : A) (places : List (Option A)) → 0 < length places → get_or (Some answer ∷ places) (length places) None ≡ get_or places (length places - 1) None
  last_place answer [] some = absurd (omega arith)
  last_place answer (place ∷ places) some = ap (λ k. get_or (place ∷ places) k None) (omega arith)
