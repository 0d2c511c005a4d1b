-- Things that are listed with numbers one after the other.
use Rattle.std.proofs.Common.{◌≡◌, ℕ, zero, suc, ◌+◌, ◌==◌, Bool, true, false, cond, List, [], ◌∷◌, map, slice_get, refl, ◌∙◌, ap, subst, arith}
use Rattle.std.specs.Prelude.{None, Some, Option, All}
use Rattle.std.proofs.lemmas.Bool.{eqb-true}
use Rattle.std.proofs.lemmas.Bool.Decides.{nat_tests}
use Rattle.std.proofs.lemmas.List.Elements.{All-head, All-tail}
use Rattle.bosh_types.specs.ById.{at_id}
use Rattle.session_laws.proofs.Tests.{some_is}
use Rattle.bosh_client.specs.PlainClient.{Made, id_of}
use Rattle.bosh_client.specs.StandsFor.{AreFrom}

-- what holds of all holds of the one at a place
pub all_at : {X : Type 0} (P : X → Type 0) (xs : List X) (k : ℕ) (x : X) → All P xs → slice_get xs k ≡ Some x → P x
all_at P [] k x all is = absurd (cc)
all_at P (first ∷ xs) zero x all is = subst P (some_is first x is) (All-head P first xs all)
all_at P (first ∷ xs) (suc k) x all is = all_at P xs k x (All-tail P first xs all) is

module _ {X Y : Type 0} (f : X → ℕ × Y) where
  -- the numbers go on by one from the first
  abbrev pub AreNumbered : ℕ → List X → Type 0
  AreNumbered first xs = (k : ℕ) (x : X) → slice_get xs k ≡ Some x → (f x).0 ≡ first + k

  others : (first : ℕ) (x : X) (xs : List X) → AreNumbered first (x ∷ xs) → AreNumbered (first + 1) xs
  others first x xs ids k y is =
      let next : first + suc k ≡ first + 1 + k = omega arith in
      ids (suc k) y is ∙ next

  here : (id first : ℕ) (x : Y) (rest : Option Y) → id ≡ first + 0 → cond (id == first + 0) (Some x) rest ≡ Some x
  here id first x rest same = grind (arith, nat_tests)

  elsewhere : (id first k : ℕ) (x : Y) (rest : Option Y) → id ≡ first + 0 → cond (id == first + suc k) (Some x) rest ≡ rest
  elsewhere id first k x rest same = grind (arith, nat_tests)

  -- so the one at a place is found by its number
  pub at_place : (first : ℕ) (xs : List X) → AreNumbered first xs → (k : ℕ) (x : X) → slice_get xs k ≡ Some x → at_id (map f xs) (first + k) ≡ Some (f x).1
  at_place first [] ids k x is = absurd (cc)
  at_place first (y ∷ xs) ids zero x is = here (f y).0 first (f y).1 (at_id (map f xs) (first + 0)) (ids 0 y refl) ∙ ap (λ (z : X). Some (f z).1) (some_is y x is)
  at_place first (y ∷ xs) ids (suc k) x is =
      let next : first + suc k ≡ first + 1 + k = omega arith in
      elsewhere (f y).0 first k (f y).1 (at_id (map f xs) (first + suc k)) (ids 0 y refl)
      ∙ ap (at_id (map f xs)) next ∙ at_place (first + 1) xs (others first y xs ids) k x is

  -- and beyond them there is none
  pub past_place : (first : ℕ) (xs : List X) → AreNumbered first xs → (k : ℕ) → slice_get xs k ≡ None → at_id (map f xs) (first + k) ≡ None
  past_place first [] ids k is = refl
  past_place first (y ∷ xs) ids zero is = absurd (cc)
  past_place first (y ∷ xs) ids (suc k) is =
      let next : first + suc k ≡ first + 1 + k = omega arith in
      elsewhere (f y).0 first k (f y).1 (at_id (map f xs) (first + suc k)) (ids 0 y refl)
      ∙ ap (at_id (map f xs)) next ∙ past_place (first + 1) xs (others first y xs ids) k is

  -- what is found stands somewhere
  pub found_place : (xs : List X) (rid : ℕ) (y : Y) → at_id (map f xs) rid ≡ Some y → (k : ℕ) × (x : X) × (slice_get xs k ≡ Some x) × ((f x).0 ≡ rid) × ((f x).1 ≡ y)
  found_place [] rid y is = absurd (cc)
  found_place (x ∷ xs) rid y is = by ((f x).0 == rid) refl is (found_place xs rid y)
    where
      by : (b : Bool) → ((f x).0 == rid) ≡ b → cond b (Some (f x).1) (at_id (map f xs) rid) ≡ Some y
          → (at_id (map f xs) rid ≡ Some y → (k : ℕ) × (z : X) × (slice_get xs k ≡ Some z) × ((f z).0 ≡ rid) × ((f z).1 ≡ y))
          → (k : ℕ) × (z : X) × (slice_get (x ∷ xs) k ≡ Some z) × ((f z).0 ≡ rid) × ((f z).1 ≡ y)
      by true same is later = (0, x, refl, eqb-true (f x).0 rid same, some_is (f x).1 y is)
      by false same is later =
          let of = later is in
          (suc of.0, of.1, of.2, of.3, of.4)

-- Requests one after the other.

-- the id of the one at a place
pub id_at : (rid : ℕ) (requests : List Made) (k : ℕ) (request : Made) → AreFrom rid requests → slice_get requests k ≡ Some request → id_of request ≡ rid + k
id_at rid [] k request ids is = absurd (cc)
id_at rid (first ∷ requests) zero request ids is = omega (arith, ap id_of (some_is first request is), ids.0)
id_at rid (first ∷ requests) (suc k) request ids is = omega (arith, id_at (rid + 1) requests k request ids.1 is)
