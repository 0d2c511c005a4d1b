-- Places in lists of lists, and what comes next there.
use Rattle.std.proofs.Common.{◌≡◌, ℕ, zero, suc, ◌+◌, ◌≤◌, ◌<◌, Bool, true, false, List, [], ◌∷◌, ◌++◌, Some, None, length, refl, sym, ◌∙◌, ap, subst, append_assoc, append-nil, length-append, arith, if◌then◌else◌}
use Rattle.std.specs.Prelude.{flat_map, slice_get}
use Rattle.std.proofs.lemmas.Grind.{flat_map-append}
use Rattle.std.proofs.lemmas.Option.{slice_get_past}
use Rattle.trace_audit.specs.declared.heard.Place.{Place}
use Rattle.trace_audit.specs.Run.{run_by}
use Rattle.trace_audit.specs.Stands.{ArePassed, HasNoneAt, IsAt, IsNextAt, IsWithin}

get_after : {X : Type 0} (xs ys : List X) (k : ℕ) → slice_get (xs ++ ys) (length xs + k) ≡ slice_get ys k
get_after [] ys k = ap (λ n. slice_get ys n) (omega arith)
get_after (x ∷ xs) ys k =
    let same : length (x ∷ xs) + k ≡ suc (length xs + k) = omega arith in
    ap (λ n. slice_get (x ∷ xs ++ ys) n) same ∙ get_after xs ys k

get_before : {X : Type 0} (xs ys : List X) (k : ℕ) → k < length xs → slice_get (xs ++ ys) k ≡ slice_get xs k
get_before [] ys k within = absurd (omega (arith, within))
get_before (x ∷ xs) ys zero within = refl
get_before (x ∷ xs) ys (suc k) within = get_before xs ys k (omega (arith, within))

some_same : {X : Type 0} (x y : X) → Some x ≡ Some y → x ≡ y
some_same x y is = cc

-- what stands at a place
first_is : {X : Type 0} (back : List X) (x : X) → slice_get back 0 ≡ Some x → (rest : List X) × (back ≡ x ∷ rest)
first_is [] x is = cc
first_is (y ∷ rest) x is = (rest, ap (λ z. z ∷ rest) (some_same y x is))

zero_within : {X A : Type 0} (f : X → List A) (xs : List X) → IsWithin f xs 0
zero_within f [] = refl
zero_within f (x ∷ xs) = omega arith

within_more : {X A : Type 0} (f : X → List A) (xs more : List X) (offset : ℕ) → IsWithin f xs offset → IsWithin f (xs ++ more) offset
within_more f [] more offset within = subst (IsWithin f more) (sym within) (zero_within f more)
within_more f (x ∷ xs) more offset within = within

module _ {X A : Type 0} (passes closes : X → Bool) (f : X → List A) where
  run_front : (front back : List X) → ArePassed passes closes front → run_by passes closes (front ++ back) ≡ front ++ run_by passes closes back
  run_front [] back passed = refl
  run_front (x ∷ front) back passed =
      ap (λ b. if b then x ∷ (if closes x then [] else run_by passes closes (front ++ back)) else []) passed.0
      ∙ ap (λ b. x ∷ (if b then [] else run_by passes closes (front ++ back))) passed.1
      ∙ ap (λ l. x ∷ l) (run_front front back passed.2)

  passed_more : (front : List X) (x : X) → ArePassed passes closes front → passes x ≡ true → closes x ≡ false → ArePassed passes closes (front ++ x ∷ [])
  passed_more [] x passed passes_it goes_on = (passes_it, goes_on, tt)
  passed_more (y ∷ front) x passed passes_it goes_on = (passed.0, passed.1, passed_more front x passed.2 passes_it goes_on)

  -- what comes next is what comes next of what is left
  left_there : (xs front back : List X) (count offset : ℕ) → xs ≡ front ++ back → ArePassed passes closes front → count ≡ length (flat_map f front) + offset
      → slice_get (flat_map f (run_by passes closes xs)) count ≡ slice_get (flat_map f (run_by passes closes back)) offset
  left_there xs front back count offset parts passed count_is =
      ap (λ n. slice_get (flat_map f (run_by passes closes xs)) n) count_is
      ∙ ap (λ l. slice_get (flat_map f (run_by passes closes l)) (length (flat_map f front) + offset)) parts
      ∙ ap (λ l. slice_get (flat_map f l) (length (flat_map f front) + offset)) (run_front front back passed)
      ∙ ap (λ l. slice_get l (length (flat_map f front) + offset)) (flat_map-append f front (run_by passes closes back))
      ∙ get_after (flat_map f front) (flat_map f (run_by passes closes back)) offset

  module _ (xs : List X) (index offset count : ℕ) (at : IsAt passes closes f xs (record { index = index; offset = offset }) count) where
    left : slice_get (flat_map f (run_by passes closes xs)) count ≡ slice_get (flat_map f (run_by passes closes at.back)) offset
    left = left_there xs at.front at.back count offset at.parts at.passed at.count_is

    -- at the end of the list
    pub none_left : length xs ≤ index → HasNoneAt passes closes f xs count
    none_left past = left ∙ ended at.back (omega (arith, past, ap length at.parts, length-append at.front at.back, at.index)) where
      ended : (back : List X) → length back ≡ 0 → slice_get (flat_map f (run_by passes closes back)) offset ≡ None
      ended [] none = refl
      ended (x ∷ back) none = absurd (omega (arith, none))

    module _ (x : X) (is : slice_get xs index ≡ Some x) where
      there : (rest : List X) × (at.back ≡ x ∷ rest)
      there = first_is at.back x
          (sym (get_after at.front at.back 0)
          ∙ ap (λ n. slice_get (at.front ++ at.back) n) (omega (arith, at.index))
          ∙ ap (λ l. slice_get l index) (sym at.parts) ∙ is)

      within : offset ≤ length (f x)
      within = subst (λ l. IsWithin f l offset) there.1 at.within

      left_of : slice_get (flat_map f (run_by passes closes xs)) count ≡ slice_get (flat_map f (run_by passes closes (x ∷ there.0))) offset
      left_of = left ∙ ap (λ l. slice_get (flat_map f (run_by passes closes l)) offset) there.1

      parts_are : xs ≡ at.front ++ x ∷ there.0
      parts_are = at.parts ∙ ap (λ l. at.front ++ l) there.1

      -- it doesn't pass
      pub none_shut : passes x ≡ false → HasNoneAt passes closes f xs count
      none_shut shut = left_of ∙ ap (λ b. slice_get (flat_map f (if b then x ∷ (if closes x then [] else run_by passes closes there.0) else [])) offset) shut

      module _ (passes_it : passes x ≡ true) where
        passed_run : slice_get (flat_map f (run_by passes closes (x ∷ there.0))) offset ≡ slice_get (f x ++ flat_map f (if closes x then [] else run_by passes closes there.0)) offset
        passed_run = ap (λ b. slice_get (flat_map f (if b then x ∷ (if closes x then [] else run_by passes closes there.0) else [])) offset) passes_it

        -- nothing is left of it, and it closes
        pub none_closed : length (f x) ≤ offset → closes x ≡ true → HasNoneAt passes closes f xs count
        none_closed past closed =
            left_of ∙ passed_run
            ∙ ap (λ b. slice_get (f x ++ flat_map f (if b then [] else run_by passes closes there.0)) offset) closed
            ∙ slice_get_past (f x ++ []) offset (omega (arith, past, ap length (append-nil (f x))))

        -- nothing is left of it, and it doesn't close
        pub skips : length (f x) ≤ offset → closes x ≡ false → IsAt passes closes f xs (record { index = index + 1; offset = 0 }) count
        skips past goes_on = record {
          front = at.front ++ x ∷ [];
          back = there.0;
          parts = parts_are ∙ sym (append_assoc at.front (x ∷ []) there.0);
          index = omega (arith, at.index, length-append at.front (x ∷ []));
          passed = passed_more at.front x at.passed passes_it goes_on;
          within = zero_within f there.0;
          count_is = omega (arith, past, within, at.count_is, ap length (flat_map-append f at.front (x ∷ [])), length-append (flat_map f at.front) (f x ++ []), ap length (append-nil (f x)));
        }

        -- this is left of it
        pub finds : (next : A) → slice_get (f x) offset ≡ Some next → offset < length (f x)
            → IsNextAt passes closes f xs count next (record { index = index; offset = offset + 1 })
        finds next next_is inside = (
          left_of ∙ passed_run ∙ get_before (f x) _ offset inside ∙ next_is,
          record {
            front = at.front;
            back = x ∷ there.0;
            parts = parts_are;
            index = at.index;
            passed = at.passed;
            within = omega (arith, inside);
            count_is = omega (arith, at.count_is);
          },
        )

  -- the list grows, and more passes
  module _ (passes' : X → Bool) (grows : (x : X) → passes x ≡ true → passes' x ≡ true) where
    still_passed : (front : List X) → ArePassed passes closes front → ArePassed passes' closes front
    still_passed [] passed = tt
    still_passed (x ∷ front) passed = (grows x passed.0, passed.1, still_passed front passed.2)

    pub at_more : (xs more : List X) (place : Place) (count : ℕ) → IsAt passes closes f xs place count → IsAt passes' closes f (xs ++ more) place count
    at_more xs more place count at = record {
      front = at.front;
      back = at.back ++ more;
      parts = ap (λ l. l ++ more) at.parts ∙ append_assoc at.front at.back more;
      index = at.index;
      passed = still_passed at.front at.passed;
      within = within_more f at.back more place.offset at.within;
      count_is = at.count_is;
    }
