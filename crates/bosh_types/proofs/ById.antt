-- What stands at an id once one more pair was listed.
use Rattle.std.proofs.Common.{◌≡◌, ◌≢◌, ℕ, ◌==◌, Bool, true, false, List, [], ◌∷◌, ◌++◌, Option, Some, None, ap, arith, cond}
use Rattle.std.proofs.lemmas.Bool.Decides.{nat_tests}
use Rattle.bosh_types.specs.ById.{at_id}

module _ {X : Type 0} where
  found_here : (rid : ℕ) (x : X) → cond (rid == rid) (Some x) None ≡ Some x
  found_here rid x = grind (arith, nat_tests)

  found_elsewhere : (rid id : ℕ) (x : X) → id ≢ rid → cond (rid == id) (Some x) None ≡ None
  found_elsewhere rid id x other = grind (arith, nat_tests)

  -- what isn't found in a list is found where the rest of a longer one has it
  found_later : (b : Bool) (y x : X) (rest more : Option X) → cond b (Some y) rest ≡ None → (rest ≡ None → more ≡ Some x) → cond b (Some y) more ≡ Some x
  found_later true y x rest more none later = cc
  found_later false y x rest more none later = later none

  -- the new pair stands at its id, where nothing stood there
  pub at_id-push_same : (pairs : List (ℕ × X)) (rid : ℕ) (x : X) → at_id pairs rid ≡ None → at_id (pairs ++ (rid, x) ∷ []) rid ≡ Some x
  at_id-push_same [] rid x none = found_here rid x
  at_id-push_same (pair ∷ pairs) rid x none =
      found_later (pair.0 == rid) pair.1 x (at_id pairs rid) _ none (at_id-push_same pairs rid x)

  -- at every other id stands what stood there
  pub at_id-push_other : (pairs : List (ℕ × X)) (rid id : ℕ) (x : X) → id ≢ rid → at_id (pairs ++ (rid, x) ∷ []) id ≡ at_id pairs id
  at_id-push_other [] rid id x other = found_elsewhere rid id x other
  at_id-push_other (pair ∷ pairs) rid id x other =
      ap (cond (pair.0 == id) (Some pair.1)) (at_id-push_other pairs rid id x other)
