-- Places in a list.
use Rattle.std.proofs.Common.{◌≡◌, ℕ, ◌+◌, ◌<◌, ◌||◌, Bool, true, false, List, ◌∷◌, [], length, drop, set, get_or, suc, zero, sym, subst, refl, ◌∙◌, ap, arith, inl, inr}
use Rattle.std.proofs.lemmas.List.{drop_more}
use Rattle.std.specs.List.{list_any}
use Rattle.session_pump.specs.Places.{ChangesFirst, IsFirstPlace}

-- this element is the first that passes
pub first_here : {A : Type 0} (test : A → Bool) (xs ys : List A) (i : ℕ) (x : A) → ys ≡ xs → i < length ys → x ≡ get_or ys i x → test x ≡ true
    → ((p : ℕ) → IsFirstPlace test (drop i xs) p → IsFirstPlace test xs (i + p)) → IsFirstPlace test xs i
first_here {A} test xs ys i x same inside item passes rest =
    let within : i < length xs = subst (λ (zs : List A). i < length zs) same inside in
    let read : x ≡ get_or xs i x = subst (λ (zs : List A). x ≡ get_or zs i x) same item in
    let e : i + 0 ≡ i = omega arith in
    subst (λ (n : ℕ). IsFirstPlace test xs n) e
    (rest 0 (subst (λ (ys : List A). IsFirstPlace test ys 0) (sym (drop_more xs i x within)) (subst (λ (y : A). test y ≡ true) read passes)))

-- it isn't
pub first_further : {A : Type 0} (test : A → Bool) (xs ys : List A) (i : ℕ) (x : A) → ys ≡ xs → i < length ys → x ≡ get_or ys i x → test x ≡ false
    → ((p : ℕ) → IsFirstPlace test (drop i xs) p → IsFirstPlace test xs (i + p))
    → (p : ℕ) → IsFirstPlace test (drop (i + 1) xs) p → IsFirstPlace test xs (i + 1 + p)
first_further {A} test xs ys i x same inside item fails rest p found =
    let within : i < length xs = subst (λ (zs : List A). i < length zs) same inside in
    let read : x ≡ get_or xs i x = subst (λ (zs : List A). x ≡ get_or zs i x) same item in
    let e : i + suc p ≡ i + 1 + p = omega arith in
    subst (λ (n : ℕ). IsFirstPlace test xs n) e
    (rest (suc p) (subst (λ (ys : List A). IsFirstPlace test ys (suc p)) (sym (drop_more xs i x within)) (subst (λ (y : A). test y ≡ false) read fails, found)))

any_after : {A : Type 0} (test : A → Bool) (x : A) (xs : List A) → test x ≡ false → list_any test (x ∷ xs) ≡ list_any test xs
any_after test x xs fails = ap (λ (b : Bool). b || list_any test xs) fails

-- whether one passes is whether a later one does
pub any_further : {A : Type 0} (test : A → Bool) (xs ys : List A) (i : ℕ) (x : A) (any : Bool) → ys ≡ xs → i < length ys → x ≡ get_or ys i x → test x ≡ false
    → any ≡ list_any test (drop i xs) → any ≡ list_any test (drop (i + 1) xs)
any_further {A} test xs ys i x any same inside item fails is =
    let within : i < length xs = subst (λ (zs : List A). i < length zs) same inside in
    let read : x ≡ get_or xs i x = subst (λ (zs : List A). x ≡ get_or zs i x) same item in
    is ∙ ap (list_any test) (drop_more xs i x within) ∙ any_after test (get_or xs i x) (drop (i + 1) xs) (subst (λ (y : A). test y ≡ false) read fails)

-- this one passes
pub any_here : {A : Type 0} (test : A → Bool) (xs ys : List A) (i : ℕ) (x : A) (any : Bool) → ys ≡ xs → i < length ys → x ≡ get_or ys i x → test x ≡ true
    → any ≡ list_any test (drop i xs) → any ≡ true
any_here {A} test xs ys i x any same inside item passes is =
    let within : i < length xs = subst (λ (zs : List A). i < length zs) same inside in
    let read : x ≡ get_or xs i x = subst (λ (zs : List A). x ≡ get_or zs i x) same item in
    is ∙ ap (list_any test) (drop_more xs i x within) ∙ ap (λ (b : Bool). b || list_any test (drop (i + 1) xs)) (subst (λ (y : A). test y ≡ true) read passes)

changes_at : {A : Type 0} (test : A → Bool) (was is : A) (xs : List A) (place : ℕ) → IsFirstPlace test xs place → was ≡ get_or xs place was
    → ChangesFirst test was is xs (set xs place is)
changes_at test was is [] place found read = absurd found
changes_at test was is (x ∷ xs) zero found read = inl (found, sym read, refl, refl)
changes_at test was is (x ∷ xs) (suc place) found read = inr (found.0, refl, changes_at test was is xs place found.1 read)

-- another one was put there
pub changes_to : {A : Type 0} (test : A → Bool) (was is other : A) (xs : List A) (place : ℕ) → other ≡ is → IsFirstPlace test xs place → was ≡ get_or xs place was
    → ChangesFirst test was is xs (set xs place other)
changes_to {A} test was is other xs place same found read = subst (λ (x : A). ChangesFirst test was is xs (set xs place x)) (sym same) (changes_at test was is xs place found read)
