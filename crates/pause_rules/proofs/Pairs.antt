-- The two orders of an index, each after its own change.
use Rattle.std.proofs.Common.{◌≡◌, ◌≢◌, ℕ, Bool, true, false, cond, nat_eq, ◌&&◌, Option, Some, None, arith, sym, ◌∙◌, ap, refl}
use Rattle.std.proofs.lemmas.Bool.{eqb-true}
use Rattle.std.proofs.lemmas.Bool.Decides.{nat_tests}
use Rattle.std.specs.BTreeMap.{BTreeMap, IsOrdered, get, is_at}
use Rattle.std.specs.BTreeSet.{BTreeSet, contains}
use Rattle.std.specs.Map.{lookup}
use Rattle.std.specs.Ordering.{nat_cmp}
use Rattle.pause_rules.specs.Paired.{IsPaired, pair_cmp, is_moment}

-- whether two pairs of numbers are the same
pair_at : (m n moment number : ℕ) → is_at (pair_cmp (m, n)) (moment, number) ≡ (nat_eq m moment && nat_eq n number)
pair_at m n moment number = grind (arith, nat_tests)

number_at : (n number : ℕ) → is_at (nat_cmp n) number ≡ nat_eq n number
number_at n number = grind (arith, nat_tests)

-- what the queue says of a moment and a number with the moment o, where `same` says whether the number is the changed one
module _ (o : Option ℕ) (moment m : ℕ) where
  fresh : (same : Bool) → (same ≡ true → o ≡ None) → cond (nat_eq moment m && same) true (is_moment o m) ≡ is_moment (cond same (Some moment) o) m
  fresh true none = rw (none refl) grind (arith, nat_tests)
  fresh false none = grind (arith, nat_tests)

  again : (same : Bool) → (same ≡ true → o ≡ Some moment) → cond (nat_eq moment m && same) true (is_moment o m) ≡ is_moment (cond same (Some moment) o) m
  again true is = rw (is refl) grind (arith, nat_tests)
  again false is = grind (arith, nat_tests)

  taken : (same : Bool) → (same ≡ true → o ≡ None) → cond (nat_eq moment m && same) false (cond (nat_eq moment m && same) true (is_moment o m)) ≡ is_moment o m
  taken true none = rw (none refl) grind (arith, nat_tests)
  taken false none = grind (arith, nat_tests)

  gone : (same : Bool) → (same ≡ true → o ≡ Some moment) → cond (nat_eq moment m && same) false (is_moment o m) ≡ is_moment (cond same None o) m
  gone true is = rw (is refl) grind (arith, nat_tests)
  gone false is = grind (arith, nat_tests)

  moved : (before : ℕ) (same : Bool) → (same ≡ true → o ≡ Some before) → before ≢ moment → cond (nat_eq before m && same) false (cond (nat_eq moment m && same) true (is_moment o m)) ≡ is_moment (cond same (Some moment) o) m
  moved before true is differs = rw (is refl) grind (arith, nat_tests)
  moved before false is differs = grind (arith, nat_tests)

-- the number has this moment now, or none, and the others have what they had
abbrev pub Changed : BTreeMap ℕ ℕ → BTreeMap ℕ ℕ → ℕ → Option ℕ → Type 0
Changed old new number moment = (q : ℕ) → get nat_cmp new q ≡ cond (is_at (nat_cmp number) q) moment (get nat_cmp old q)

-- the pair stands in the queue now, or doesn't, and the others stand as they did
abbrev pub Put : BTreeSet (ℕ × ℕ) → BTreeSet (ℕ × ℕ) → ℕ → ℕ → Bool → Type 0
Put old new moment number stands = (q : ℕ × ℕ) → contains pair_cmp new q ≡ cond (is_at (pair_cmp (moment, number)) q) stands (contains pair_cmp old q)

same_number : (old : BTreeMap ℕ ℕ) (number n : ℕ) {o : Option ℕ} → get nat_cmp old number ≡ o → nat_eq number n ≡ true → get nat_cmp old n ≡ o
same_number old number n is e = ap (get nat_cmp old) (sym (eqb-true number n e)) ∙ is

put_at : (old new : BTreeSet (ℕ × ℕ)) (stands : Bool) (moment number m n : ℕ) → Put old new moment number stands → contains pair_cmp new (m, n) ≡ cond (nat_eq moment m && nat_eq number n) stands (contains pair_cmp old (m, n))
put_at old new stands moment number m n put = put (m, n) ∙ ap (λ b. cond b stands (contains pair_cmp old (m, n))) (pair_at moment number m n)

changed_at : (old new : BTreeMap ℕ ℕ) (moment : Option ℕ) (number m n : ℕ) → Changed old new number moment → is_moment (cond (nat_eq number n) moment (get nat_cmp old n)) m ≡ is_moment (get nat_cmp new n) m
changed_at old new moment number m n changed =
    ap (λ b. is_moment (cond b moment (get nat_cmp old n)) m) (sym (number_at number n)) ∙ ap (λ o. is_moment o m) (sym (changed n))

module _ (old new : BTreeMap ℕ ℕ) (had has : BTreeSet (ℕ × ℕ)) (moment number : ℕ) (paired : IsPaired old had) (ordered : IsOrdered nat_cmp new) where
  -- a number that had no moment gets one
  pub paired_fresh : Changed old new number (Some moment) → Put had has moment number true → get nat_cmp old number ≡ None → IsPaired new has
  paired_fresh changed put none = record {
    ordered = ordered;
    agree = λ m n.
        put_at had has true moment number m n put ∙ ap (cond (nat_eq moment m && nat_eq number n) true) (paired.agree m n)
        ∙ fresh (get nat_cmp old n) moment m (nat_eq number n) (same_number old number n none) ∙ changed_at old new (Some moment) number m n changed;
  }

  -- it gets the moment that it has
  pub paired_again : Changed old new number (Some moment) → Put had has moment number true → get nat_cmp old number ≡ Some moment → IsPaired new has
  paired_again changed put is = record {
    ordered = ordered;
    agree = λ m n.
        put_at had has true moment number m n put ∙ ap (cond (nat_eq moment m && nat_eq number n) true) (paired.agree m n)
        ∙ again (get nat_cmp old n) moment m (nat_eq number n) (same_number old number n is) ∙ changed_at old new (Some moment) number m n changed;
  }

  -- it loses the moment that it has
  pub paired_gone : Changed old new number None → Put had has moment number false → get nat_cmp old number ≡ Some moment → IsPaired new has
  paired_gone changed put is = record {
    ordered = ordered;
    agree = λ m n.
        put_at had has false moment number m n put ∙ ap (cond (nat_eq moment m && nat_eq number n) false) (paired.agree m n)
        ∙ gone (get nat_cmp old n) moment m (nat_eq number n) (same_number old number n is) ∙ changed_at old new None number m n changed;
  }

  module _ (left : BTreeSet (ℕ × ℕ)) (put : Put had has moment number true) where
    -- a pair whose number has no moment is put into the queue and taken out again
    pub paired_taken : new.entries ≡ old.entries → Put has left moment number false → get nat_cmp old number ≡ None → IsPaired new left
    paired_taken same take none = record {
      ordered = ordered;
      agree = λ m n.
          put_at has left false moment number m n take
          ∙ ap (cond (nat_eq moment m && nat_eq number n) false) (put_at had has true moment number m n put ∙ ap (cond (nat_eq moment m && nat_eq number n) true) (paired.agree m n))
          ∙ taken (get nat_cmp old n) moment m (nat_eq number n) (same_number old number n none)
          ∙ ap (λ entries. is_moment (lookup (is_at (nat_cmp n)) entries) m) (sym same);
    }

    -- a number gets another moment than the one that it has
    pub paired_moved : (before : ℕ) → Changed old new number (Some moment) → Put has left before number false → get nat_cmp old number ≡ Some before → before ≢ moment → IsPaired new left
    paired_moved before changed take is differs = record {
      ordered = ordered;
      agree = λ m n.
          put_at has left false before number m n take
          ∙ ap (cond (nat_eq before m && nat_eq number n) false) (put_at had has true moment number m n put ∙ ap (cond (nat_eq moment m && nat_eq number n) true) (paired.agree m n))
          ∙ moved (get nat_cmp old n) moment m before (nat_eq number n) (same_number old number n is) differs
          ∙ changed_at old new (Some moment) number m n changed;
    }
