-- Beginnings of lists, and the front of a list that passes.
use Rattle.std.proofs.Common.{◌≡◌, ℕ, Bool, true, false, List, [], ◌∷◌, ◌++◌, Some, length, drop, refl, sym, ◌∙◌, ap, subst, append_assoc, append-nil, if◌then◌else◌}
use Rattle.std.specs.Prelude.{◌&&◌, flat_map, slice_get}
use Rattle.std.specs.Str.{bytes_eq}
use Rattle.std.proofs.lemmas.Grind.{flat_map-append}
use Rattle.std.proofs.lemmas.Slice.Eq.{bytes_eq-Decides}
use Rattle.trace_audit.specs.Prefixes.{Begins}
use Rattle.trace_audit.specs.Rules.{are_next}
use Rattle.trace_audit.specs.Run.{run_by}

pub none_begins : {X : Type 0} (ys : List X) → Begins [] ys
none_begins ys = (ys, refl)

pub begins_more : {X : Type 0} (xs more : List X) → Begins xs (xs ++ more)
begins_more xs more = (more, refl)

pub begins_same : {X : Type 0} (xs ys : List X) → ys ≡ xs → Begins xs ys
begins_same xs ys same = ([], same ∙ sym (append-nil xs))

pub begins_cons : {X : Type 0} (x : X) (xs ys : List X) → Begins xs ys → Begins (x ∷ xs) (x ∷ ys)
begins_cons x xs ys begins = (begins.0, ap (λ l. x ∷ l) begins.1)

pub begins_trans : {X : Type 0} (xs ys zs : List X) → Begins xs ys → Begins ys zs → Begins xs zs
begins_trans xs ys zs one other = (one.0 ++ other.0, other.1 ∙ ap (λ l. l ++ other.0) one.1 ∙ append_assoc xs one.0 other.0)

pub begins_flat : {X A : Type 0} (f : X → List A) (xs ys : List X) → Begins xs ys → Begins (flat_map f xs) (flat_map f ys)
begins_flat f xs ys begins = (flat_map f begins.0, ap (λ l. flat_map f l) begins.1 ∙ flat_map-append f xs begins.0)

pub begins_append : {X : Type 0} (xs ys zs : List X) → Begins ys zs → Begins (xs ++ ys) (xs ++ zs)
begins_append xs ys zs begins = (begins.0, ap (λ l. xs ++ l) begins.1 ∙ sym (append_assoc xs ys begins.0))

some_same : {X : Type 0} (x y : X) → Some x ≡ Some y → x ≡ y
some_same x y is = cc

-- what stands after so many
next_after : {X : Type 0} (xs rest : List X) (x : X) → slice_get (xs ++ rest) (length xs) ≡ Some x → Begins (xs ++ x ∷ []) (xs ++ rest)
next_after [] [] x is = cc
next_after [] (y ∷ ys) x is = (ys, ap (λ z. z ∷ ys) (some_same y x is))
next_after (y ∷ xs) rest x is = begins_cons y (xs ++ x ∷ []) (xs ++ rest) (next_after xs rest x is)

pub begins_next : {X : Type 0} (xs all : List X) (x : X) → Begins xs all → slice_get all (length xs) ≡ Some x → Begins (xs ++ x ∷ []) all
begins_next xs all x begins is = subst (Begins (xs ++ x ∷ [])) (sym begins.1) (next_after xs begins.0 x (sym (ap (λ l. slice_get l (length xs)) begins.1) ∙ is))

both : (a b : Bool) → (a && b) ≡ true → (a ≡ true) × (b ≡ true)
both true true is = (refl, refl)
both true false is = cc
both false b is = cc

-- what stands at the front
pub next_begin : (xs ys : List (List ℕ)) → are_next xs ys ≡ true → Begins ys xs
next_begin xs [] are = none_begins xs
next_begin [] (y ∷ ys) are = cc
next_begin (x ∷ xs) (y ∷ ys) are =
    let parts = both (bytes_eq x y) (are_next xs ys) are in
    subst (λ z. Begins (z ∷ ys) (x ∷ xs)) ((bytes_eq-Decides x y).0 parts.0) (begins_cons x ys xs (next_begin xs ys parts.1))

drop_front : {X : Type 0} (xs rest : List X) → drop (length xs) (xs ++ rest) ≡ rest
drop_front [] rest = refl
drop_front (x ∷ xs) rest = drop_front xs rest

pub begins_many : (xs all ys : List (List ℕ)) → Begins xs all → are_next (drop (length xs) all) ys ≡ true → Begins (xs ++ ys) all
begins_many xs all ys begins are =
    subst (Begins (xs ++ ys)) (sym begins.1)
    (begins_append xs ys begins.0 (next_begin begins.0 ys (subst (λ l. are_next l ys ≡ true) (ap (λ l. drop (length xs) l) begins.1 ∙ drop_front xs begins.0) are)))

-- The front of a list that passes.

unless_closed : {X : Type 0} (c : Bool) (xs ys : List X) → Begins xs ys → Begins (if c then [] else xs) (if c then [] else ys)
unless_closed true xs ys begins = none_begins []
unless_closed false xs ys begins = begins

module _ {X : Type 0} (passes passes' closes : X → Bool) (grows : (x : X) → passes x ≡ true → passes' x ≡ true) where
  first_grows : (x : X) (rest rest' : List X) (b : Bool) → passes x ≡ b → Begins rest rest' → Begins (if b then x ∷ rest else []) (if passes' x then x ∷ rest' else [])
  first_grows x rest rest' false is begins = none_begins _
  first_grows x rest rest' true is begins =
      subst (λ b. Begins (x ∷ rest) (if b then x ∷ rest' else [])) (sym (grows x is)) (begins_cons x rest rest' begins)

  -- it only grows, where more passes and the list grows
  pub run_grows : (xs more : List X) → Begins (run_by passes closes xs) (run_by passes' closes (xs ++ more))
  run_grows [] more = none_begins _
  run_grows (x ∷ xs) more =
      first_grows x (if closes x then [] else run_by passes closes xs) (if closes x then [] else run_by passes' closes (xs ++ more)) (passes x) refl
      (unless_closed (closes x) (run_by passes closes xs) (run_by passes' closes (xs ++ more)) (run_grows xs more))

if_passed : {X : Type 0} (b c : Bool) (x : X) (rest xs : List X) → Begins rest xs → Begins (if b then x ∷ (if c then [] else rest) else []) (x ∷ xs)
if_passed false c x rest xs begins = none_begins _
if_passed true true x rest xs begins = begins_cons x [] xs (none_begins xs)
if_passed true false x rest xs begins = begins_cons x rest xs begins

-- and begins the list
pub run_begins : {X : Type 0} (passes closes : X → Bool) (xs : List X) → Begins (run_by passes closes xs) xs
run_begins passes closes [] = none_begins []
run_begins passes closes (x ∷ xs) = if_passed (passes x) (closes x) x (run_by passes closes xs) xs (run_begins passes closes xs)
