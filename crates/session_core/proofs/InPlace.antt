-- A list of which the first few were changed in place.
use Rattle.std.proofs.Common.{◌≡◌, ℕ, zero, suc, ◌+◌, ◌<◌, ◌≤◌, List, [], ◌∷◌, map, length, set, get_or, refl, sym, ◌∙◌, ap, arith, add-one}

module _ {X : Type 0} (f : X → X) where
  -- so many of the first are changed
  abbrev pub changed : ℕ → List X → List X
  changed zero xs = xs
  changed (suc count) [] = []
  changed (suc count) (x ∷ xs) = f x ∷ changed count xs

  pub changed_at : (count : ℕ) (xs : List X) (d : X) → get_or (changed count xs) count d ≡ get_or xs count d
  changed_at zero xs d = refl
  changed_at (suc count) [] d = refl
  changed_at (suc count) (x ∷ xs) d = changed_at count xs d

  pub changed_more : (count : ℕ) (xs : List X) (d : X) → count < length xs → set (changed count xs) count (f (get_or xs count d)) ≡ changed (suc count) xs
  changed_more zero [] d within = absurd (omega arith)
  changed_more zero (x ∷ xs) d within = refl
  changed_more (suc count) [] d within = absurd (omega arith)
  changed_more (suc count) (x ∷ xs) d within = ap (λ ys. f x ∷ ys) (changed_more count xs d (omega arith))

  pub changed_all : (count : ℕ) (xs : List X) → length xs ≤ count → changed count xs ≡ map f xs
  changed_all zero [] all = refl
  changed_all zero (x ∷ xs) all = absurd (omega arith)
  changed_all (suc count) [] all = refl
  changed_all (suc count) (x ∷ xs) all = ap (λ ys. f x ∷ ys) (changed_all count xs (omega arith))

  -- a step of the loop that changes them
  pub changed_step : (count : ℕ) (old now : List X) (was new : X) → now ≡ changed count old → count < length old → new ≡ f (get_or now count was) → set now count new ≡ changed (count + 1) old
  changed_step count old now was new so within value =
      let here : get_or now count was ≡ get_or old count was = ap (λ xs. get_or xs count was) so ∙ changed_at count old was in
      ap (λ xs. set xs count new) so ∙ ap (set (changed count old) count) (value ∙ ap f here) ∙ changed_more count old was within
      ∙ ap (λ n. changed n old) (sym (add-one count))
