-- The names of the code as those of the definitions.
use Rattle.std.proofs.Common.{◌≡◌, ℕ, ◌<◌, ◌+◌, ◌-◌, Bool, ◌||◌, List, [], ◌∷◌, ◌∙◌, length, get_or, refl, sym, ap, arith}
use Rattle.std.specs.Prelude.{map, reverse, slice_get}
use Rattle.std.specs.List.{list_any}
use Rattle.std.specs.Ordering.{match_ordering}
use Rattle.std.specs.declared.cmp.Ordering.{Ordering}
use Rattle.std.specs.declared.cmp.Ordering.TheVariants.{Less, Equal, Greater}
use Rattle.std.specs.BTreeSet.{insert_key}
use Rattle.std.proofs.lemmas.List.{length-map, length-reverse, get_or-reverse, get_or-map}
use Rattle.body_cutter.specs.Names.{due, with_count}

module _ {V : Type 0} (f : V → List ℕ) where
  head_of : (names : List (List ℕ)) (k : ℕ) (name : List ℕ) → 0 < length names → get_or names 0 name ≡ name → due names k ≡ with_count k (slice_get name k)
  unfolding due
  head_of [] k name some e = absurd (omega arith)
  head_of (n ∷ ns) k name some e = ap (λ m. with_count k (slice_get m k)) e

  -- the innermost name is the last
  pub due_last : (xs : List V) (i : ℕ) (v : V) (k : ℕ) → i + 1 ≡ length xs → v ≡ get_or xs i v → due (reverse (map f xs)) k ≡ with_count k (slice_get (f v) k)
  due_last xs i v k last is =
      let below : i < length xs = omega arith in
      let within : 0 < length (map f xs) = rw length-map (omega arith) in
      let at_last : length (map f xs) - 1 - 0 ≡ i = rw length-map (omega arith) in
      head_of (reverse (map f xs)) k (f v) (rw (length-reverse, length-map) (omega arith))
      (get_or-reverse (map f xs) 0 (f v) within
      ∙ ap (λ n. get_or (map f xs) n (f v)) at_last
      ∙ get_or-map f xs i v (f v) below ∙ ap f (sym is))

  -- a test of the names is a test of what they are names of
  pub list_any-map : (p : List ℕ → Bool) (xs : List V) → list_any p (map f xs) ≡ list_any (λ x. p (f x)) xs
  list_any-map p [] = refl
  list_any-map p (x ∷ xs) = ap (λ b. p (f x) || b) (list_any-map p xs)

  module _ (order : List ℕ → List ℕ → Ordering) where
    placed : (r : Ordering) (x k : V) (xs ys : List V) (zs : List (List ℕ)) → map f ys ≡ zs → map f (match_ordering r (k ∷ x ∷ xs) (x ∷ xs) (x ∷ ys)) ≡ match_ordering r (f k ∷ f x ∷ map f xs) (f x ∷ map f xs) (f x ∷ zs)
    placed Less x k xs ys zs e = refl
    placed Equal x k xs ys zs e = refl
    placed Greater x k xs ys zs e = ap (λ rest. f x ∷ rest) e

    -- an insertion in order goes by the names
    pub map-insert_key : (xs : List V) (k : V) → map f (insert_key (λ a b. order (f a) (f b)) xs k) ≡ insert_key order (map f xs) (f k)
    map-insert_key [] k = refl
    map-insert_key (x ∷ xs) k = placed (order (f k) (f x)) x k xs _ _ (map-insert_key xs k)
