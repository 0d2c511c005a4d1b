-- Where something is in a list, and whether it is there.
use Rattle.std.proofs.Common.{◌≡◌, ℕ, ◌<◌, Bool, true, false, List, [], ◌∷◌, All, Option, Some, None, length, get_or, refl, sym, ◌∙◌, arith, cond}
use Rattle.std.specs.Prelude.{nat_lt}
use Rattle.std.specs.List.{list_any, position, position_or_len}
use Rattle.std.proofs.lemmas.Bool.{ltb-true, ltb-false}
use Rattle.std.proofs.lemmas.List.Elements.{All-nil, All-cons}
use Rattle.std.proofs.lemmas.List.Folds.{list_any_none}
use Rattle.std.proofs.lemmas.List.Quantifiers.{position-Some}
use Rattle.std.proofs.lemmas.List.Sums.{fails_before_first}
use Rattle.session_laws.proofs.Tests.{neither, true_false}

pub none_is : {X : Type 0} (p : X → Bool) (xs : List X) → list_any p xs ≡ false → All (λ x. p x ≡ false) xs
none_is p [] is = All-nil (λ x. p x ≡ false)
none_is p (x ∷ xs) is =
    let apart = neither (p x) (list_any p xs) is in
    All-cons (λ x. p x ≡ false) x xs apart.0 (none_is p xs apart.1)

pub none_there : {X : Type 0} (p : X → Bool) (live : List X) → position p live ≡ None → All (λ x. p x ≡ false) live
none_there p live none = λ k d within. fails_before_first p live k d (by (nat_lt (position_or_len p live) (length live)) refl none k within)
  where
    by : (b : Bool) → nat_lt (position_or_len p live) (length live) ≡ b → cond b (Some (position_or_len p live)) None ≡ None
        → (k : ℕ) → k < length live → k < position_or_len p live
    by true is none k within = absurd (cc)
    by false is none k within = omega (arith, ltb-false (position_or_len p live) (length live) is, within)

pub some_within : {X : Type 0} (p : X → Bool) (live : List X) (place : ℕ) → position p live ≡ Some place → place < length live
some_within p live place is = by (nat_lt (position_or_len p live) (length live)) refl is
  where
    by : (b : Bool) → nat_lt (position_or_len p live) (length live) ≡ b → cond b (Some (position_or_len p live)) None ≡ Some place → place < length live
    by true within some =
        let same : position_or_len p live ≡ place = cc in
        omega (arith, ltb-true (position_or_len p live) (length live) within, same)
    by false within some = absurd (cc)

module _ {X : Type 0} (p : X → Bool) where
  any_at : (xs : List X) (k : ℕ) (d : X) → k < length xs → p (get_or xs k d) ≡ true → list_any p xs ≡ true
  any_at xs k d within is = by (list_any p xs) refl
    where
      by : (b : Bool) → list_any p xs ≡ b → b ≡ true
      by true any = refl
      by false none = absurd (true_false (sym is ∙ none_is p xs none k d within))

  pub some_any : (xs : List X) (k : ℕ) → position p xs ≡ Some k → list_any p xs ≡ true
  some_any [] k is = absurd (cc)
  some_any (x ∷ xs) k is =
      let there = position-Some p (x ∷ xs) k x is in
      any_at (x ∷ xs) k x there.0 there.1

  pub none_any : (xs : List X) → position p xs ≡ None → list_any p xs ≡ false
  none_any xs is = list_any_none p xs (none_there p xs is)

  -- and the other way round
  pub position_none : (xs : List X) → list_any p xs ≡ false → position p xs ≡ None
  position_none xs none = by (position p xs) refl
    where
      by : (o : Option ℕ) → position p xs ≡ o → o ≡ None
      by None is = refl
      by (Some k) is = absurd (true_false (sym (some_any xs k is) ∙ none))

  pub position_some : (xs : List X) → list_any p xs ≡ true → (k : ℕ) × ((k < length xs) × (position p xs ≡ Some k))
  position_some xs any = by (position p xs) refl
    where
      by : (o : Option ℕ) → position p xs ≡ o → (k : ℕ) × ((k < length xs) × (position p xs ≡ Some k))
      by None is = absurd (true_false (sym any ∙ none_any xs is))
      by (Some k) is = (k, (some_within p xs k is, is))
