-- The places of a window once an item was taken out of one, against the list without its id.
use Rattle.std.proofs.Common.{◌≡◌, ◌≢◌, ℕ, zero, suc, ◌+◌, ◌<◌, ◌≤◌, ◌==◌, Bool, true, false, not, cond, nat_le, inl, inr, List, [], ◌∷◌, Option, Some, None, length, set, get_or, refl, sym, ◌∙◌, ap, arith, subst, get_or-set_other, length-set}
use Rattle.std.proofs.lemmas.Bool.{cases_eq}
use Rattle.std.proofs.lemmas.Bool.Decides.{nat_tests}
use Rattle.std.proofs.lemmas.List.{get_or_past, set-get_or}
use Rattle.std.specs.Map.{lookup}
use Rattle.bosh_types.specs.ById.{at_id}
use Rattle.rid_window.specs.PlainWindow.{PlainWindow, after_strike, emptied_at, open_at, open_item, without_id}
use Rattle.rid_window.specs.StandsFor.{Holds}

some_is : {a b : ℕ} {o : Option ℕ} → o ≡ Some a → o ≡ Some b → a ≡ b
some_is p q = cc

open_eq : (rid : ℕ) → (rid == rid) ≡ true
open_eq rid = grind (arith, nat_tests)

only_one : (a rid id : ℕ) → id ≢ rid → (a == rid) ≡ true → (a == id) ≡ false
only_one a rid id other e = grind (arith, nat_tests)

empty_at : {T : Type 0} (places : List (Option T)) (k : ℕ) → get_or (set places k None) k None ≡ None
empty_at [] zero = refl
empty_at [] (suc k) = refl
empty_at (place ∷ places) zero = refl
empty_at (place ∷ places) (suc k) = empty_at places k

-- a place that isn't there is empty
pub set_past : {T : Type 0} (places : List (Option T)) (k : ℕ) → length places ≤ k → places ≡ set places k None
set_past places k past = sym (ap (set places k) (sym (get_or_past places k None past)) ∙ set-get_or places k None)

module _ {X : Type 0} where
  -- a list without an id has nothing there
  step_same : (test : ℕ → Bool) (b : Bool) (pair : ℕ × X) (rest : List (ℕ × X)) → test pair.0 ≡ b → lookup test rest ≡ None → lookup test (cond (not b) (pair ∷ rest) rest) ≡ None
  step_same test true pair rest e none = none
  step_same test false pair rest e none = ap (λ b. cond b (Some pair.1) (lookup test rest)) e ∙ none

  pub at_id-without_same : (pairs : List (ℕ × X)) (rid : ℕ) → at_id (without_id pairs rid) rid ≡ None
  at_id-without_same [] rid = refl
  at_id-without_same (pair ∷ pairs) rid =
      step_same (λ id. id == rid) (pair.0 == rid) pair (without_id pairs rid) refl (at_id-without_same pairs rid)

  -- and at every other id what was there
  step_other : (test : ℕ → Bool) (b : Bool) (pair : ℕ × X) (rest all : List (ℕ × X)) → (b ≡ true → test pair.0 ≡ false) → lookup test rest ≡ lookup test all → lookup test (cond (not b) (pair ∷ rest) rest) ≡ lookup test (pair ∷ all)
  step_other test true pair rest all apart same = same ∙ sym (ap (λ b. cond b (Some pair.1) (lookup test all)) (apart refl))
  step_other test false pair rest all apart same = ap (cond (test pair.0) (Some pair.1)) same

  pub at_id-without_other : (pairs : List (ℕ × X)) (rid id : ℕ) → id ≢ rid → at_id (without_id pairs rid) id ≡ at_id pairs id
  at_id-without_other [] rid id other = refl
  at_id-without_other (pair ∷ pairs) rid id other =
      step_other (λ k. k == id) (pair.0 == rid) pair (without_id pairs rid) pairs (only_one pair.0 rid id other) (at_id-without_other pairs rid id other)

module _ {T : Type 0} (plain : PlainWindow T) where
  -- an id that was not taken has what was placed at it, and nothing afterwards
  open_from : (first rid : ℕ) → first ≤ rid → plain.next ≡ Some first → open_item plain rid ≡ at_id plain.placed rid
  open_from first rid from is =
      let here : nat_le first rid ≡ true = grind (arith, nat_tests) in
      ap (λ o. open_at o plain.placed rid) is ∙ ap (λ b. cond b (at_id plain.placed rid) None) here

  emptied_from : (first rid : ℕ) → first ≤ rid → plain.next ≡ Some first → emptied_at plain.next plain.placed rid ≡ without_id plain.placed rid
  emptied_from first rid from is =
      let here : nat_le first rid ≡ true = grind (arith, nat_tests) in
      ap (λ o. emptied_at o plain.placed rid) is ∙ ap (λ b. cond b (without_id plain.placed rid) plain.placed) here

module _ {T : Type 0} {next : Option ℕ} {places : List (Option T)} {plain : PlainWindow T} where
  pub struck_item : (first ahead rid : ℕ) → Holds next places plain → next ≡ Some first → rid ≡ first + ahead → get_or places ahead None ≡ open_item plain rid
  struck_item first ahead rid s is here =
      sym (open_from plain first rid (omega arith) (sym s.next_is ∙ is) ∙ ap (at_id plain.placed) here ∙ s.each first ahead is)

  pub Holds-strike : (first ahead rid : ℕ) → Holds next places plain → next ≡ Some first → rid ≡ first + ahead → Holds next (set places ahead None) (after_strike plain rid)
  Holds-strike first ahead rid s is here = record {
    next_is = s.next_is;
    room = length-set places ahead None ∙ s.room;
    each = λ n k e.
        let start : n ≡ first = some_is e is in
        let left = emptied_from plain first rid (omega arith) (sym s.next_is ∙ is) in
        elim (cases_eq (n + k) rid) [
          | inl same ↦
              let at : k ≡ ahead = omega arith in
              ap (λ pairs. at_id pairs (n + k)) left ∙ ap (at_id (without_id plain.placed rid)) same ∙ at_id-without_same plain.placed rid
              ∙ sym (ap (λ j. get_or (set places ahead None) j None) at ∙ empty_at places ahead)
          | inr other ↦
              let elsewhere : k ≢ ahead = λ at. other (omega arith) in
              ap (λ pairs. at_id pairs (n + k)) left ∙ at_id-without_other plain.placed rid (n + k) other ∙ s.each n k e
              ∙ sym (get_or-set_other places ahead k None None elsewhere)
        ];
  }

  -- nothing changes where no id is left, or the id was taken
  pub none_open : Holds next places plain → next ≡ None → (rid : ℕ) → None ≡ open_item plain rid
  none_open s is rid = ap (λ o. open_at o plain.placed rid) (sym is ∙ s.next_is)

  pub taken_open : (first rid : ℕ) → Holds next places plain → next ≡ Some first → rid < first → None ≡ open_item plain rid
  taken_open first rid s is before =
      let here : nat_le first rid ≡ false = grind (arith, nat_tests) in
      sym (ap (λ o. open_at o plain.placed rid) (sym s.next_is ∙ is) ∙ ap (λ b. cond b (at_id plain.placed rid) None) here)

  pub Holds-none_open : Holds next places plain → next ≡ None → (rid : ℕ) → Holds next places (after_strike plain rid)
  Holds-none_open s is rid =
      let same : plain.placed ≡ emptied_at plain.next plain.placed rid = ap (λ o. emptied_at o plain.placed rid) (sym is ∙ s.next_is) in
      subst (λ pairs. Holds next places (record plain { placed = pairs })) same s

  pub Holds-taken_open : (first rid : ℕ) → Holds next places plain → next ≡ Some first → rid < first → Holds next places (after_strike plain rid)
  Holds-taken_open first rid s is before =
      let here : nat_le first rid ≡ false = grind (arith, nat_tests) in
      let same : plain.placed ≡ emptied_at plain.next plain.placed rid = sym (ap (λ o. emptied_at o plain.placed rid) (sym s.next_is ∙ is) ∙ ap (λ b. cond b (without_id plain.placed rid) plain.placed) here) in
      subst (λ pairs. Holds next places (record plain { placed = pairs })) same s
