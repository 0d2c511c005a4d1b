-- Attributes whose names come from a list of different names are fresh.
use Rattle.std.proofs.Common.{◌≡◌, ℕ, ◌≤◌, Bool, true, false, ◌&&◌, ◌||◌, List, [], ◌∷◌, length, refl, sym, subst, arith}
use Rattle.std.specs.Prelude.{not}
use Rattle.std.specs.List.{list_any}
use Rattle.std.specs.Ordering.{nat_cmp, is_eq, match_ordering}
use Rattle.std.specs.Cmp.Lexicographic.{slice_cmp}
use Rattle.std.specs.BTreeSet.{insert_key}
use Rattle.std.specs.declared.cmp.Ordering.{Ordering}
use Rattle.std.specs.declared.cmp.Ordering.TheVariants.{Less, Equal, Greater}
use Rattle.body_cutter.specs.Names.{has_name, with_name}
use Rattle.body_cutter.specs.Built.{Written, AreFresh}
use Rattle.body_cutter.proofs.Leads.{both}

-- some of these names, in order
pub data Among : List Written → List (List ℕ) → Type 0 where
  none : Among [] []
  skip : {attributes : List Written} {name : List ℕ} {names : List (List ℕ)} → Among attributes names → Among attributes (name ∷ names)
  keep : {attribute : Written} {attributes : List Written} {name : List ℕ} {names : List (List ℕ)} → attribute.name ≡ name → Among attributes names → Among (attribute ∷ attributes) (name ∷ names)

pub among_count : {attributes : List Written} {names : List (List ℕ)} → Among attributes names → length attributes ≤ length names
among_count Among.none = omega arith
among_count (Among.skip a) = omega (arith, among_count a)
among_count (Among.keep e a) = omega (arith, among_count a)

abbrev same : List ℕ → List ℕ → Bool
same name other = is_eq (slice_cmp nat_cmp name other)

abbrev unlike : List ℕ → List (List ℕ) → Bool
unlike name [] = true
unlike name (other ∷ names) = not (same other name) && unlike name names

-- no name comes twice
abbrev pub are_distinct : List (List ℕ) → Bool
are_distinct [] = true
are_distinct (name ∷ names) = unlike name names && are_distinct names

abbrev Unseen : List (List ℕ) → List (List ℕ) → Type 0
Unseen seen [] = Unit {0}
Unseen seen (name ∷ names) = (has_name seen name ≡ false) × Unseen seen names

neither : (a b : Bool) → a || b ≡ false → (a ≡ false) × (b ≡ false)
neither true b h = cc
neither false b h = (refl, h)

pub denied : (a : Bool) → not a ≡ true → a ≡ false
denied true h = cc
denied false h = refl

module _ (p : List ℕ → Bool) where
  any_insert : (r : Ordering) (x k : List ℕ) (xs ys : List (List ℕ)) → p k ≡ false → list_any p (x ∷ xs) ≡ false → list_any p ys ≡ false → list_any p (match_ordering r (k ∷ x ∷ xs) (x ∷ xs) (x ∷ ys)) ≡ false
  any_insert Less x k xs ys pk h l = rw pk h
  any_insert Equal x k xs ys pk h l = h
  any_insert Greater x k xs ys pk h l = rw (neither (p x) _ h).0 l

  insert_not : (order : List ℕ → List ℕ → Ordering) (names : List (List ℕ)) (name : List ℕ) → p name ≡ false → list_any p names ≡ false → list_any p (insert_key order names name) ≡ false
  insert_not order [] name pk h = rw pk refl
  insert_not order (x ∷ xs) name pk h = any_insert (order name x) x name xs _ pk h (insert_not order xs name pk (neither (p x) _ h).1)

not_with : (seen : List (List ℕ)) (name other : List ℕ) → has_name seen other ≡ false → same other name ≡ false → has_name (with_name seen name) other ≡ false
unfolding has_name with_name
not_with seen name other h s = insert_not (λ n. same other n) (slice_cmp nat_cmp) seen name s h

later : (seen names : List (List ℕ)) (name : List ℕ) → Unseen seen names → unlike name names ≡ true → Unseen (with_name seen name) names
later seen [] name u h = tt
later seen (other ∷ names) name u h =
    let k = both (not (same other name)) _ h in
    (not_with seen name other u.0 (denied (same other name) k.0), later seen names name u.1 k.1)

fresh_from : {attributes : List Written} {names : List (List ℕ)} → Among attributes names → are_distinct names ≡ true → (seen : List (List ℕ)) → Unseen seen names → AreFresh seen attributes
fresh_from Among.none d seen u = tt
fresh_from (Among.skip {name = name} {names = names} a) d seen u = fresh_from a (both (unlike name names) _ d).1 seen u.1
fresh_from (Among.keep {attribute = attribute} {attributes = attributes} {name = name} {names = names} e a) d seen u =
    let k = both (unlike name names) _ d in
    subst (λ (n : List ℕ). (has_name seen n ≡ false) × AreFresh (with_name seen n) attributes) (sym e)
    (u.0, fresh_from a k.1 (with_name seen name) (later seen names name u.1 k.0))

none_seen : (names : List (List ℕ)) → Unseen [] names
unfolding has_name
none_seen [] = tt
none_seen (name ∷ names) = (refl, none_seen names)

pub fresh : {attributes : List Written} {names : List (List ℕ)} → Among attributes names → are_distinct names ≡ true → AreFresh [] attributes
fresh {names = names} a d = fresh_from a d [] (none_seen names)
