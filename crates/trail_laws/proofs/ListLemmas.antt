-- Lists: what is among them, and what is left of them.
use Rattle.std.proofs.Common.{◌≡◌, ◌⊎◌, ◌≤◌, ◌+◌, ℕ, zero, suc, List, [], ◌∷◌, ◌++◌, length, All, refl, sym, ◌∙◌, ap, subst, inl, inr, append-nil, append_assoc, length-append, arith}
use Rattle.std.proofs.lemmas.List.Elements.{All-head, All-tail}
use Rattle.parked_gate.specs.Histories.{StartsWith}
use Rattle.trail_laws.specs.Asking.{IsLeftOf, left_in, left_none, left_out}
use Rattle.trail_laws.specs.Told.{Has}

pub has_first : {A : Type 0} (xs ys : List A) (x : A) → Has xs x → Has (xs ++ ys) x
has_first [] ys x is = absurd is
has_first (z ∷ zs) ys x (inl here) = inl here
has_first (z ∷ zs) ys x (inr there) = inr (has_first zs ys x there)

pub has_last : {A : Type 0} (xs ys : List A) (x : A) → Has ys x → Has (xs ++ ys) x
has_last [] ys x is = is
has_last (z ∷ zs) ys x is = inr (has_last zs ys x is)

pub has_all : {A : Type 0} (P : A → Type 0) (xs : List A) (x : A) → All P xs → Has xs x → P x
has_all P [] x all is = absurd is
has_all P (y ∷ ys) x all (inl here) = subst P here (All-head P y ys all)
has_all P (y ∷ ys) x all (inr there) = has_all P ys x (All-tail P y ys all) there

-- an item splits its list
pub has_split : {A : Type 0} (xs : List A) (x : A) → Has xs x → (before later : List A) × (xs ≡ before ++ x ∷ later)
has_split [] x is = absurd is
has_split (y ∷ ys) x (inl here) = ([], ys, ap (λ z. z ∷ ys) here)
has_split (y ∷ ys) x (inr there) =
    let s : (before later : _) × (ys ≡ before ++ x ∷ later) = has_split ys x there in
    (y ∷ s.0, s.1, ap (λ zs. y ∷ zs) s.2)

tails : {A : Type 0} (x : A) (xs ys : List A) → x ∷ xs ≡ x ∷ ys → xs ≡ ys
tails x xs ys same = cc

pub cancel : {A : Type 0} (xs ys zs : List A) → xs ++ ys ≡ xs ++ zs → ys ≡ zs
cancel [] ys zs same = same
cancel (x ∷ xs) ys zs same = cancel xs ys zs (tails x _ _ same)

pub starts_itself : {A : Type 0} (xs : List A) → StartsWith xs xs
starts_itself xs = ([], sym (append-nil xs))

pub starts_on : {A : Type 0} (xs ys zs : List A) → StartsWith ys xs → StartsWith zs ys → StartsWith zs xs
starts_on xs ys zs (more, is) (rest, then_) = (more ++ rest, then_ ∙ (ap (λ l. l ++ rest) is ∙ append_assoc xs more rest))

pub none_left : {A : Type 0} (ys : List A) → IsLeftOf [] ys
none_left [] = left_none
none_left (y ∷ ys) = left_out (none_left ys)

pub left_behind : {A : Type 0} (front xs ys : List A) → IsLeftOf xs ys → IsLeftOf xs (front ++ ys)
left_behind [] xs ys is = is
left_behind (z ∷ zs) xs ys is = left_out (left_behind zs xs ys is)

pub one_left : {A : Type 0} (front : List A) (x : A) (xs ys : List A) → IsLeftOf xs ys → IsLeftOf (x ∷ xs) ((front ++ x ∷ []) ++ ys)
one_left [] x xs ys is = left_in is
one_left (z ∷ zs) x xs ys is = left_out (one_left zs x xs ys is)

pub few_behind : {A : Type 0} (n : ℕ) (front ys : List A) → n ≤ length ys → n ≤ length (front ++ ys)
few_behind n front ys few = omega (arith, length-append front ys, few)

pub one_behind : {A : Type 0} (n : ℕ) (front ys : List A) (x : A) → n ≤ length ys → suc n ≤ length ((front ++ x ∷ []) ++ ys)
one_behind n front ys x few = omega (arith, length-append (front ++ x ∷ []) ys, length-append front (x ∷ []), few)
