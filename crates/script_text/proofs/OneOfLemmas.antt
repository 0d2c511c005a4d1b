-- What is one of a list's elements.
use Rattle.std.proofs.Common.{◌≡◌, ℕ, suc, List, [], ◌∷◌, ◌++◌, All, Some, drop, take, map, refl, sym, subst, ◌∙◌, ap, append_assoc, inl, inr}
use Rattle.std.specs.Prelude.{◌⊎◌, slice_get}
use Rattle.std.proofs.lemmas.List.{map-append}
use Rattle.std.proofs.lemmas.List.Elements.{All-nil, All-cons, All-weaker}
use Rattle.script_text.specs.Entered.{IsOneOf}

module _ {X : Type 0} where
  pub one_here : (x : X) (xs : List X) → IsOneOf x (x ∷ xs)
  one_here x xs = ([], xs, refl)

  pub one_front : (x : X) (xs ys : List X) → IsOneOf x xs → IsOneOf x (xs ++ ys)
  one_front x xs ys (before, after, is) = (before, after ++ ys, ap (λ l. l ++ ys) is ∙ append_assoc before (x ∷ after) ys)

  pub one_back : (x : X) (xs ys : List X) → IsOneOf x ys → IsOneOf x (xs ++ ys)
  one_back x xs ys (before, after, is) = (xs ++ before, after, ap (λ l. xs ++ l) is ∙ sym (append_assoc xs before (x ∷ after)))

  pub one_later : (x y : X) (xs : List X) → IsOneOf x xs → IsOneOf x (y ∷ xs)
  one_later x y xs one = one_back x (y ∷ []) xs one

  pub all_ones : (xs : List X) → All (λ x. IsOneOf x xs) xs
  all_ones [] = All-nil (λ x. IsOneOf x [])
  all_ones (y ∷ xs) = All-cons (λ x. IsOneOf x (y ∷ xs)) y xs (one_here y xs) (All-weaker (λ x. IsOneOf x xs) (λ x. IsOneOf x (y ∷ xs)) (λ x one. one_later x y xs one) xs (all_ones xs))

  -- in one of two lists
  pub one_either : (x : X) (xs ys : List X) → IsOneOf x xs ⊎ IsOneOf x ys → IsOneOf x (xs ++ ys)
  one_either x xs ys (inl one) = one_front x xs ys one
  one_either x xs ys (inr one) = one_back x xs ys one

pub one_map : {X Y : Type 0} (f : X → Y) (x : X) (xs : List X) → IsOneOf x xs → IsOneOf (f x) (map f xs)
one_map f x xs (before, after, is) = (map f before, map f after, ap (map f) is ∙ map-append f before (x ∷ after))
