-- Places in a list.
use Rattle.std.specs.Prelude.{◌≡◌, ◌⊎◌, ℕ, zero, suc, Bool, true, false, List, [], ◌∷◌}

-- the first element that passes the test stands at this place
abbrev pub IsFirstPlace : {A : Type 0} → (A → Bool) → List A → ℕ → Type 0
IsFirstPlace test [] place = ⊥
IsFirstPlace test (x ∷ xs) zero = test x ≡ true
IsFirstPlace test (x ∷ xs) (suc place) = (test x ≡ false) × IsFirstPlace test xs place

-- the first element that passes the test was this one and is that one, and the others are as before
abbrev pub ChangesFirst : {A : Type 0} → (A → Bool) → A → A → List A → List A → Type 0
ChangesFirst test was is [] ys = ⊥
ChangesFirst test was is (x ∷ xs) [] = ⊥
ChangesFirst test was is (x ∷ xs) (y ∷ ys) =
    ((test x ≡ true) × (x ≡ was) × (y ≡ is) × (xs ≡ ys)) ⊎ ((test x ≡ false) × (x ≡ y) × ChangesFirst test was is xs ys)
