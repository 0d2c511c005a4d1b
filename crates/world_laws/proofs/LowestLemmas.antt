-- The lowest id of a client without an answer.
use Rattle.std.proofs.Common.{◌≡◌, ℕ, ◌+◌, ◌<◌, ◌≤◌, inl, inr, Bool, true, false, cond, List, [], ◌∷◌, ◌++◌, length, refl, sym, ◌∙◌, ap, subst, arith, length-append}
use Rattle.std.specs.Prelude.{None, Some, not, is_some}
use Rattle.std.specs.List.{find}
use Rattle.std.specs.Option.{option_map, unwrap_or}
use Rattle.std.proofs.lemmas.Bool.{cases_lt}
use Rattle.bosh_client.specs.Machine.{with_answer}
use Rattle.bosh_client.specs.PlainClient.{Made, PlainClient, Taken, id_of, is_answered, lowest, next_id, taken}
use Rattle.bosh_client.specs.StandsFor.{AreFrom}
use Rattle.bosh_client.proofs.OpenLemmas.{at_least, first_of_these}
use Rattle.bosh_client.proofs.RunLemmas.{still_taken}

-- no answer of it was taken
abbrev is_open : PlainClient → Made → Bool
is_open c request = not (is_answered c request)

below : (c : PlainClient) (rid next id : ℕ) (xs : List Made) → AreFrom rid xs → next ≡ rid + length xs → rid ≤ id → id < first_of_these (is_open c) xs next → is_some (taken c id) ≡ true
below c rid next id [] are is low high = absurd (omega (arith, is))
below c rid next id (x ∷ xs) are is low high = by (is_some (taken c (id_of x))) refl high (λ above. below c (rid + 1) next id xs are.1 (omega (arith, is)) above)
  where
    by : (b : Bool) → is_some (taken c (id_of x)) ≡ b → id < unwrap_or (option_map id_of (cond (not b) (Some x) (find (is_open c) xs))) next
        → (rid + 1 ≤ id → id < first_of_these (is_open c) xs next → is_some (taken c id) ≡ true) → is_some (taken c id) ≡ true
    by false has high later = absurd (omega (arith, are.0, low, high))
    by true has high later = elim (cases_lt rid id) [
      | inl above ↦ later (omega arith) high
      | inr here ↦
          let same : id ≡ id_of x = omega (arith, are.0, low, here) in
          ap (λ n. is_some (taken c n)) same ∙ has
    ]

-- the answers of all lower ids were taken
pub below_lowest : (c : PlainClient) → AreFrom c.setup.first c.requests → (id : ℕ) → c.setup.first ≤ id → id < lowest c → is_some (taken c id) ≡ true
below_lowest c ids id low high = below c c.setup.first (next_id c) id c.requests ids refl low high

above : (c : PlainClient) (rid next id : ℕ) (xs : List Made) → AreFrom rid xs → next ≡ rid + length xs → rid ≤ id → id < next → is_some (taken c id) ≡ false → first_of_these (is_open c) xs next ≤ id
above c rid next id [] are is low high none = absurd (omega (arith, is))
above c rid next id (x ∷ xs) are is low high none = by (is_some (taken c (id_of x))) refl (λ later. above c (rid + 1) next id xs are.1 (omega (arith, is)) later high none)
  where
    by : (b : Bool) → is_some (taken c (id_of x)) ≡ b → (rid + 1 ≤ id → first_of_these (is_open c) xs next ≤ id) → unwrap_or (option_map id_of (cond (not b) (Some x) (find (is_open c) xs))) next ≤ id
    by false has later = omega (arith, are.0, low)
    by true has later = elim (cases_lt rid id) [
      | inl after ↦ later (omega arith)
      | inr here ↦ absurd (
          let same : id ≡ id_of x = omega (arith, are.0, low, here) in
          let was : is_some (taken c id) ≡ true = ap (λ n. is_some (taken c n)) same ∙ has in
          cc)
    ]

-- an id that was made, and whose answer was not taken, is no lower
pub from_lowest : (c : PlainClient) → AreFrom c.setup.first c.requests → (id : ℕ) → c.setup.first ≤ id → id < next_id c → taken c id ≡ None → lowest c ≤ id
from_lowest c ids id low high none = above c c.setup.first (next_id c) id c.requests ids refl low high (ap is_some none)

pub lowest_first : (c : PlainClient) → AreFrom c.setup.first c.requests → c.setup.first ≤ lowest c
lowest_first c ids = at_least (is_open c) c.setup.first (next_id c) c.requests ids refl

within : (p : Made → Bool) (rid next : ℕ) (xs : List Made) → AreFrom rid xs → next ≡ rid + length xs → first_of_these p xs next ≤ next
within p rid next [] are is = omega arith
within p rid next (x ∷ xs) are is = by (p x) (within p (rid + 1) next xs are.1 (omega (arith, is)))
  where
    by : (b : Bool) → first_of_these p xs next ≤ next → unwrap_or (option_map id_of (cond b (Some x) (find p xs))) next ≤ next
    by true rest = omega (arith, are.0, is)
    by false rest = rest

pub lowest_next : (c : PlainClient) → AreFrom c.setup.first c.requests → lowest c ≤ next_id c
lowest_next c ids = within (is_open c) c.setup.first (next_id c) c.requests ids refl

-- It never falls.

no_lower : (p q : Made → Bool) (rid next : ℕ) (xs : List Made) → ((x : Made) → p x ≡ false → q x ≡ false) → AreFrom rid xs → next ≡ rid + length xs
    → first_of_these p xs next ≤ first_of_these q xs next
no_lower p q rid next [] fewer are is = omega arith
no_lower p q rid next (x ∷ xs) fewer are is = by (p x) (q x) (fewer x) (no_lower p q (rid + 1) next xs fewer are.1 (omega (arith, is)))
  where
    by : (b d : Bool) → (b ≡ false → d ≡ false) → first_of_these p xs next ≤ first_of_these q xs next
        → unwrap_or (option_map id_of (cond b (Some x) (find p xs))) next ≤ unwrap_or (option_map id_of (cond d (Some x) (find q xs))) next
    by true true also rest = omega arith
    by true false also rest = omega (arith, are.0, at_least q (rid + 1) next xs are.1 (omega (arith, is)))
    by false true also rest =
        let no : true ≡ false = also refl in
        absurd (cc)
    by false false also rest = rest

more : (p : Made → Bool) (next : ℕ) (xs : List Made) (x : Made) → id_of x ≡ next → first_of_these p xs next ≤ first_of_these p (xs ++ x ∷ []) (next + 1)
more p next [] x id = by (p x)
  where
    by : (b : Bool) → next ≤ unwrap_or (option_map id_of (cond b (Some x) None)) (next + 1)
    by true = omega (arith, id)
    by false = omega arith
more p next (y ∷ ys) x id = by (p y) (more p next ys x id)
  where
    by : (b : Bool) → first_of_these p ys next ≤ first_of_these p (ys ++ x ∷ []) (next + 1)
        → unwrap_or (option_map id_of (cond b (Some y) (find p ys))) next ≤ unwrap_or (option_map id_of (cond b (Some y) (find p (ys ++ x ∷ [])))) (next + 1)
    by true rest = omega arith
    by false rest = rest

pub next_more : (c : PlainClient) (request : Made) → next_id (record c { requests = c.requests ++ request ∷ [] }) ≡ next_id c + 1
next_more c request = omega (arith, length-append c.requests (request ∷ []))

pub requests_lowest : (c : PlainClient) (request : Made) → id_of request ≡ next_id c → lowest c ≤ lowest (record c { requests = c.requests ++ request ∷ [] })
requests_lowest c request id =
    subst (λ (n : ℕ). lowest c ≤ first_of_these (is_open c) (c.requests ++ request ∷ []) n) (sym (next_more c request)) (more (is_open c) (next_id c) c.requests request id)

pub answers_lowest : (c : PlainClient) (rid : ℕ) (t : Taken) → AreFrom c.setup.first c.requests → taken c rid ≡ None → lowest c ≤ lowest (with_answer c rid t)
answers_lowest c rid t ids none = no_lower (is_open c) (is_open (with_answer c rid t)) c.setup.first (next_id c) c.requests fewer ids refl
  where
    fewer : (x : Made) → not (is_answered c x) ≡ false → not (is_answered (with_answer c rid t) x) ≡ false
    fewer x is = by (is_answered c x) (still_taken c rid (id_of x) t none) is
      where
        by : (b : Bool) → (b ≡ true → is_answered (with_answer c rid t) x ≡ true) → not b ≡ false → not (is_answered (with_answer c rid t) x) ≡ false
        by true still is = ap not (still refl)
        by false still is = absurd (cc)

-- its own answer was not taken

own : (c : PlainClient) (rid next : ℕ) (xs : List Made) → AreFrom rid xs → next ≡ rid + length xs → first_of_these (is_open c) xs next < next → is_some (taken c (first_of_these (is_open c) xs next)) ≡ true → ⊥
own c rid next [] are is low has = omega (arith, low)
own c rid next (x ∷ xs) are is low has = by (is_answered c x) refl low has (own c (rid + 1) next xs are.1 (omega (arith, is)))
  where
    by : (b : Bool) → is_answered c x ≡ b → unwrap_or (option_map id_of (cond (not b) (Some x) (find (is_open c) xs))) next < next
        → is_some (taken c (unwrap_or (option_map id_of (cond (not b) (Some x) (find (is_open c) xs))) next)) ≡ true
        → (first_of_these (is_open c) xs next < next → is_some (taken c (first_of_these (is_open c) xs next)) ≡ true → ⊥) → ⊥
    by true answered low has later = later low has
    by false answered low has later = cc

pub lowest_open : (c : PlainClient) → AreFrom c.setup.first c.requests → lowest c < next_id c → is_some (taken c (lowest c)) ≡ true → ⊥
lowest_open c ids made has = own c c.setup.first (next_id c) c.requests ids refl made has
