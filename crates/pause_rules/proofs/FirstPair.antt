-- The first pair of the queue against all pairs of the index.
use Rattle.std.proofs.Common.{◌≡◌, ℕ, ◌<◌, ◌≤◌, true, false, IsTrue, List, [], ◌∷◌, inl, inr, Option, Some, None, length, arith, sym, ◌∙◌, ap, refl, subst}
use Rattle.std.proofs.lemmas.Bool.{eq-eqb, eqb-true, false≢true}
use Rattle.std.proofs.lemmas.Bool.Decides.{nat_tests}
use Rattle.std.proofs.lemmas.Cmp.{nat_cmp_total}
use Rattle.std.proofs.lemmas.List.Elements.{All-head, All-nil, All-weaker}
use Rattle.std.proofs.lemmas.Map.Lookups.{exact_unsigned}
use Rattle.std.proofs.lemmas.Map.Views.{All-found, btree_map_get_iff}
use Rattle.std.specs.BTreeMap.{BTreeMap, get, is_at}
use Rattle.std.specs.BTreeSet.{BTreeSet, IsLowerBound, btree_set_len, contains}
use Rattle.std.specs.List.{All, Contains, list_any}
use Rattle.std.specs.Ordering.{is_gt, nat_cmp}
use Rattle.pause_rules.specs.NextDue.{IsLeastMoment, IsNextDue, IsNoLater}
use Rattle.pause_rules.specs.Paired.{IsPaired, is_moment, pair_cmp}

is_there : (o : Option ℕ) (moment : ℕ) → is_moment o moment ≡ true → o ≡ Some moment
is_there None moment e = absurd (cc)
is_there (Some other) moment e = ap Some (eqb-true other moment e)

no_later : (moment number m n : ℕ) → is_gt (pair_cmp (moment, number) (m, n)) ≡ false → IsNoLater (number, moment) (n, m)
no_later moment number m n e = grind (arith, nat_tests)

less_or : (number moment : ℕ) (pair : ℕ × ℕ) → IsNoLater (number, moment) pair → moment ≤ pair.1
less_or number moment pair (inl less) = omega arith
less_or number moment pair (inr same) = omega (arith, same.0)

empty_list : {A : Type 0} (xs : List A) → (0 < length xs → ⊥) → xs ≡ []
empty_list [] none = refl
empty_list (x ∷ xs) none = absurd (none (omega arith))

module _ (moments : BTreeMap ℕ ℕ) (queue : BTreeSet (ℕ × ℕ)) (paired : IsPaired moments queue) where
  -- each pair stands in the queue
  stand : All (λ pair. contains pair_cmp queue (pair.1, pair.0) ≡ true) moments.entries
  stand = All-weaker (λ pair. get nat_cmp moments pair.0 ≡ Some pair.1) (λ pair. contains pair_cmp queue (pair.1, pair.0) ≡ true)
      (λ pair is. paired.agree pair.1 pair.0 ∙ ap (λ o. is_moment o pair.1) is ∙ eq-eqb pair.1 pair.1 refl)
      moments.entries (All-found nat_cmp_total moments paired.ordered)

  no_pairs : (entries : List (ℕ × ℕ)) → queue.keys ≡ [] → All (λ pair. contains pair_cmp queue (pair.1, pair.0) ≡ true) entries → entries ≡ []
  no_pairs [] none each = refl
  no_pairs (pair ∷ entries) none each =
      let here : list_any (is_at (pair_cmp (pair.1, pair.0))) queue.keys ≡ true = All-head (λ pair. contains pair_cmp queue (pair.1, pair.0) ≡ true) pair entries each in
      absurd (false≢true (subst (λ keys. list_any (is_at (pair_cmp (pair.1, pair.0))) keys ≡ true) none here))

  -- where the queue is empty there is no pair
  pub none_at_all : (0 < btree_set_len queue → ⊥) → moments.entries ≡ []
  none_at_all none = no_pairs moments.entries (empty_list queue.keys none) stand

  module _ (moment number : ℕ) (member : IsTrue (contains pair_cmp queue (moment, number))) (least : IsLowerBound pair_cmp queue (moment, number)) where
    found : Contains moments.entries (number, moment)
    found = (btree_map_get_iff nat_cmp_total exact_unsigned moments paired.ordered number moment).0 (is_there _ moment (sym (paired.agree moment number) ∙ member))

    first : All (IsNoLater (number, moment)) moments.entries
    first = All-weaker (λ pair. contains pair_cmp queue (pair.1, pair.0) ≡ true) (IsNoLater (number, moment)) (λ pair stands. no_later moment number pair.1 pair.0 (least (pair.1, pair.0) stands)) moments.entries stand

    pub is_next : (now : ℕ) → moment ≤ now → IsNextDue moments.entries now (Some number)
    is_next now due = (moment, found, due, first)

    pub is_later : (now : ℕ) → now < moment → IsNextDue moments.entries now None
    is_later now later = All-weaker (IsNoLater (number, moment)) (λ pair. now < pair.1) (λ pair after. omega (arith, later, less_or number moment pair after)) moments.entries first

    pub is_first : IsLeastMoment moments.entries (Some moment)
    is_first = (number, found, All-weaker (IsNoLater (number, moment)) (λ pair. moment ≤ pair.1) (less_or number moment) moments.entries first)

-- nothing is due where there is no pair
pub none_due : (pairs : List (ℕ × ℕ)) (now : ℕ) (o : Option ℕ) → pairs ≡ [] → o ≡ None → IsNextDue pairs now o
none_due pairs now o e f = rw (e, f) (All-nil (λ pair. now < pair.1))

pub none_first : (pairs : List (ℕ × ℕ)) (o : Option ℕ) → pairs ≡ [] → o ≡ None → IsLeastMoment pairs o
none_first pairs o e f = rw f e
