-- Lists that grow at their end, and what stands at an id.
use Rattle.std.proofs.Common.{◌≡◌, ◌≢◌, ℕ, zero, suc, ◌<◌, ◌==◌, Bool, true, false, List, [], ◌∷◌, ◌++◌, Option, Some, None, length, drop, map, slice_get, refl, sym, ◌∙◌, ap, cond, arith, ◌⊎◌, inl, inr}
use Rattle.std.specs.Option.{option_map}
use Rattle.std.proofs.lemmas.Bool.{eqb-true}
use Rattle.std.proofs.lemmas.List.{length-map, map-append}
use Rattle.bosh_types.specs.ById.{at_id}
use Rattle.bosh_types.proofs.ById.{at_id-push_same, at_id-push_other}
use Rattle.session_core.specs.declared.copy.RequestCopy.{RequestCopy}
use Rattle.session_core.specs.Copy.{id_of, with_id}
use Rattle.session_core.specs.Processed.{Processed, copies_of}

module _ {X : Type 0} where
  -- an element of a list with one more
  pub get_push : (xs : List X) (y : X) (k : ℕ) (x : X) → slice_get (xs ++ y ∷ []) k ≡ Some x → (slice_get xs k ≡ Some x) ⊎ ((k ≡ length xs) × (y ≡ x))
  get_push [] y zero x is = inr (refl, cc)
  get_push [] y (suc k) x is = absurd (cc)
  get_push (first ∷ xs) y zero x is = inl is
  get_push (first ∷ xs) y (suc k) x is = elim (get_push xs y k x is) [
    | inl there ↦ inl there
    | inr last ↦ inr (ap suc last.0, last.1)
  ]

  pub get_push_still : (xs : List X) (y : X) (k : ℕ) (x : X) → slice_get xs k ≡ Some x → slice_get (xs ++ y ∷ []) k ≡ Some x
  get_push_still [] y k x is = absurd (cc)
  get_push_still (first ∷ xs) y zero x is = is
  get_push_still (first ∷ xs) y (suc k) x is = get_push_still xs y k x is

  pub get_append : (xs ys : List X) (k : ℕ) (x : X) → slice_get xs k ≡ Some x → slice_get (xs ++ ys) k ≡ Some x
  get_append [] ys k x is = absurd (cc)
  get_append (first ∷ xs) ys zero x is = is
  get_append (first ∷ xs) ys (suc k) x is = get_append xs ys k x is

  pub get_last : (xs : List X) (y : X) → slice_get (xs ++ y ∷ []) (length xs) ≡ Some y
  get_last [] y = refl
  get_last (first ∷ xs) y = get_last xs y

  -- what is left begins with the element at that place
  pub get_drop : (n : ℕ) (xs : List X) (y : X) (ys : List X) → drop n xs ≡ y ∷ ys → slice_get xs n ≡ Some y
  get_drop zero [] y ys is = absurd (cc)
  get_drop zero (first ∷ xs) y ys is = cc
  get_drop (suc n) [] y ys is = absurd (cc)
  get_drop (suc n) (first ∷ xs) y ys is = get_drop n xs y ys is

  pub drop_next : (n : ℕ) (xs : List X) (y : X) (ys : List X) → drop n xs ≡ y ∷ ys → drop (suc n) xs ≡ ys
  drop_next zero [] y ys is = absurd (cc)
  drop_next zero (first ∷ xs) y ys is = cc
  drop_next (suc n) [] y ys is = absurd (cc)
  drop_next (suc n) (first ∷ xs) y ys is = drop_next n xs y ys is

  pub get_within : (xs : List X) (k : ℕ) (x : X) → slice_get xs k ≡ Some x → k < length xs
  get_within [] k x is = absurd (cc)
  get_within (first ∷ xs) zero x is = omega arith
  get_within (first ∷ xs) (suc k) x is = omega (arith, get_within xs k x is)

  pub get_some : (xs : List X) (k : ℕ) → k < length xs → (x : X) × (slice_get xs k ≡ Some x)
  get_some [] k within = absurd (omega arith)
  get_some (first ∷ xs) zero within = (first, refl)
  get_some (first ∷ xs) (suc k) within = get_some xs k (omega arith)

  -- what stands at an id goes on standing
  pub at_id-push_still : (pairs : List (ℕ × X)) (pair : ℕ × X) (rid : ℕ) (x : X) → at_id pairs rid ≡ Some x → at_id (pairs ++ pair ∷ []) rid ≡ Some x
  at_id-push_still [] pair rid x is = absurd (cc)
  at_id-push_still (first ∷ pairs) pair rid x is = still (first.0 == rid) first.1 (at_id pairs rid) (at_id (pairs ++ pair ∷ []) rid) x (at_id-push_still pairs pair rid x) is
    where
      still : (b : Bool) (y : X) (rest more : Option X) (x : X) → (rest ≡ Some x → more ≡ Some x) → cond b (Some y) rest ≡ Some x → cond b (Some y) more ≡ Some x
      still true y rest more x later is = is
      still false y rest more x later is = later is

at_first : (b : Bool) (copy found : RequestCopy) (rest : Option RequestCopy) (rid : ℕ) → (id_of copy == rid) ≡ b → (rest ≡ Some found → id_of found ≡ rid) → cond b (Some copy) rest ≡ Some found → id_of found ≡ rid
at_first true copy found rest rid is later at =
    let same : copy ≡ found = cc in
    ap id_of (sym same) ∙ eqb-true (id_of copy) rid is
at_first false copy found rest rid is later at = later at

-- what stands at an id has it
pub at_id-has : (copies : List RequestCopy) (rid : ℕ) (copy : RequestCopy) → at_id (map with_id copies) rid ≡ Some copy → id_of copy ≡ rid
at_id-has [] rid copy is = absurd (cc)
at_id-has (first ∷ copies) rid copy is = at_first (id_of first == rid) first copy (at_id (map with_id copies) rid) rid refl (at_id-has copies rid copy) is

-- one more copy
pub standing_push : (copies : List RequestCopy) (copy : RequestCopy) → map with_id (copies ++ copy ∷ []) ≡ map with_id copies ++ (id_of copy, copy) ∷ []
standing_push copies copy = map-append with_id copies (copy ∷ [])

pub standing_still : (copies : List RequestCopy) (copy : RequestCopy) (rid : ℕ) (found : RequestCopy) → at_id (map with_id copies) rid ≡ Some found → at_id (map with_id (copies ++ copy ∷ [])) rid ≡ Some found
standing_still copies copy rid found is = ap (λ pairs. at_id pairs rid) (standing_push copies copy) ∙ at_id-push_still (map with_id copies) (id_of copy, copy) rid found is

pub standing_now : (copies : List RequestCopy) (copy : RequestCopy) → at_id (map with_id copies) (id_of copy) ≡ None → at_id (map with_id (copies ++ copy ∷ [])) (id_of copy) ≡ Some copy
standing_now copies copy none = ap (λ pairs. at_id pairs (id_of copy)) (standing_push copies copy) ∙ at_id-push_same (map with_id copies) (id_of copy) copy none

pub standing_other : (copies : List RequestCopy) (copy : RequestCopy) (rid : ℕ) → rid ≢ id_of copy → at_id (map with_id (copies ++ copy ∷ [])) rid ≡ at_id (map with_id copies) rid
standing_other copies copy rid other = ap (λ pairs. at_id pairs rid) (standing_push copies copy) ∙ at_id-push_other (map with_id copies) (id_of copy) rid copy other

-- The copies of what was processed.

pub get_copies : (processed : List Processed) (k : ℕ) (one : Processed) → slice_get processed k ≡ Some one → slice_get (copies_of processed) k ≡ Some one.copy
get_copies [] k one is = absurd (cc)
get_copies (first ∷ processed) zero one is = ap (λ (o : Option Processed). option_map (λ (p : Processed). p.copy) o) is
get_copies (first ∷ processed) (suc k) one is = get_copies processed k one is

pub copy_at : (processed : List Processed) (k : ℕ) (copy : RequestCopy) → slice_get (copies_of processed) k ≡ Some copy → (one : Processed) × (slice_get processed k ≡ Some one) × (one.copy ≡ copy)
copy_at [] k copy is = absurd (cc)
copy_at (first ∷ processed) zero copy is = (first, refl, cc)
copy_at (first ∷ processed) (suc k) copy is = copy_at processed k copy is

pub copies_length : (processed : List Processed) → length (copies_of processed) ≡ length processed
copies_length processed = length-map processed (λ one. one.copy)

pub copies_push : (processed : List Processed) (one : Processed) → copies_of (processed ++ one ∷ []) ≡ copies_of processed ++ one.copy ∷ []
copies_push processed one = map-append (λ one. one.copy) processed (one ∷ [])
