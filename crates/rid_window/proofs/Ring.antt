-- A full ring of places.
use Rattle.std.proofs.Common.{◌≡◌, ℕ, zero, suc, ◌-◌, ◌<◌, ◌≤◌, List, [], ◌∷◌, ◌++◌, Option, Some, None, length, drop, take, set, get_or, refl, ap, arith, length-append}
use Rattle.std.specs.List.{slice_get}
use Rattle.circular_buffer.specs.Buffer.{keep_last}
use Rattle.rid_window.proofs.Places.{moved_up}

-- where there is no place there is no item
pub get_none : {T : Type 0} (places : List (Option T)) (k : ℕ) → slice_get places k ≡ None → get_or places k None ≡ None
get_none [] k e = refl
get_none (place ∷ places) zero e = absurd (cc)
get_none (place ∷ places) (suc k) e = get_none places k e

-- nothing is given up where there is room
pub keep_all : {X : Type 0} (n : ℕ) (xs : List X) → length xs ≤ n → keep_last n xs ≡ xs
keep_all n xs room =
    let none : length xs - n ≡ 0 = omega arith in
    ap (λ k. drop k xs) none

pub length-take_le : {X : Type 0} (k : ℕ) (xs : List X) → length (take k xs) ≤ k
length-take_le zero xs = omega arith
length-take_le (suc k) [] = omega arith
length-take_le (suc k) (x ∷ xs) = omega (arith, length-take_le k xs)

pub take_one_more : {X : Type 0} (xs : List X) (k : ℕ) (x : X) → slice_get xs k ≡ Some x → take (suc k) xs ≡ take k xs ++ x ∷ []
take_one_more [] k x e = absurd (cc)
take_one_more (y ∷ xs) zero x e =
    let same : y ≡ x = cc in
    ap (λ z. z ∷ []) same
take_one_more (y ∷ xs) (suc k) x e = ap (λ l. y ∷ l) (take_one_more xs k x e)

-- the first place, which is empty, is given up for an empty one at the end
pub pushed_up : {T : Type 0} (places : List (Option T)) (capacity : ℕ) → 0 < length places → length places ≡ capacity → keep_last capacity (set places 0 None ++ None ∷ []) ≡ moved_up places
pushed_up [] capacity some full = absurd (omega arith)
pushed_up (place ∷ places) capacity some full =
    let one : length (None ∷ places ++ None ∷ []) - capacity ≡ 1 = omega (arith, length-append places (None ∷ []), full) in
    ap (λ k. drop k (None ∷ places ++ None ∷ [])) one
