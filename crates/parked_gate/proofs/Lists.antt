-- Beginnings of a history, the entries of one pass, and how many views have a turn.
use Rattle.std.proofs.Common.{◌≡◌, ◌≢◌, ◌==◌, ◌⊎◌, ℕ, zero, suc, ◌+◌, ◌<◌, ◌≤◌, Bool, true, false, cond, eqb, List, [], ◌∷◌, ◌++◌, length, set, All, nat_lt, Option, Some, None, refl, sym, ap, ◌∙◌, inl, inr, ⊎_elim, eq-eqb, ne_eqb, append_assoc, length-append, arith}
use Rattle.std.proofs.lemmas.List.{append-nil}
use Rattle.std.proofs.lemmas.List.Elements.{filter-append}
use Rattle.std.proofs.lemmas.Bool.Decides.{nat_tests}
use Rattle.std.specs.Option.{option_to_list}
use mathlib.Core.Option.{some, some-ne-none, some-injective}
use lib.ListN.{get_elem?}
use Rattle.parked_gate.specs.declared.view.View.{View}
use Rattle.parked_gate.specs.Histories.{StartsWith, calls_of, longer, Appends}
use Rattle.parked_gate.specs.Rule.{turns_of, waiting}

pub Some-injective : {A : Type 0} (a b : A) → Some a ≡ Some b → a ≡ b
Some-injective a b e = cc

pub None-ne-Some : {A : Type 0} (a : A) → None ≡ Some a → ⊥
None-ne-Some a e = cc

-- a function that is changed at one number
abbrev pub put : (ℕ → ℕ) → ℕ → ℕ → ℕ → ℕ
put f i x j = cond (eqb j i) x (f j)

pub put_here : (f : ℕ → ℕ) (i x : ℕ) → put f i x i ≡ x
put_here f i x = ap (λ b. cond b x (f i)) (eq-eqb i i refl)

pub put_else : (f : ℕ → ℕ) (i x j : ℕ) → j ≢ i → put f i x j ≡ f j
put_else f i x j apart = ap (λ b. cond b x (f j)) (ne_eqb j i apart)

module _ {E : Type 0} where
  pub begins_itself : (xs : List E) → StartsWith xs xs
  begins_itself xs = ([], sym (append-nil xs))

  pub begins_later : (log seen : List E) (more : List E) → StartsWith log seen → StartsWith (log ++ more) seen
  begins_later log seen more p = (p.0 ++ more, ap (λ l. l ++ more) p.1 ∙ append_assoc seen p.0 more)

  tail_same : (x y : E) (xs ys : List E) → x ∷ xs ≡ y ∷ ys → xs ≡ ys
  tail_same x y xs ys e = cc

  head_same : (x y : E) (xs ys : List E) → x ∷ xs ≡ y ∷ ys → x ≡ y
  head_same x y xs ys e = cc

  -- of two beginnings of one list the shorter begins the longer
  pub shorter_begins : (xs ys zs : List E) → StartsWith zs xs → StartsWith zs ys → length xs ≤ length ys → StartsWith ys xs
  shorter_begins [] ys zs p q le = (ys, refl)
  shorter_begins (x ∷ xs) [] zs p q le = absurd (omega arith)
  shorter_begins (x ∷ xs) (y ∷ ys) [] p q le = absurd (cc (p.1))
  shorter_begins (x ∷ xs) (y ∷ ys) (z ∷ zs) p q le =
      let px : zs ≡ xs ++ p.0 = cc (p.1) in
      let qy : zs ≡ ys ++ q.0 = cc (q.1) in
      let heads : y ≡ x = cc (p.1, q.1) in
      let r = shorter_begins xs ys zs (p.0, px) (q.0, qy) (omega arith) in
      (r.0, cc (heads, r.1))

  longer_when : (xs ys zs : List E) (b : Bool) → nat_lt (length xs) (length ys) ≡ b → StartsWith zs xs → StartsWith zs ys
      → StartsWith zs (longer xs ys) × StartsWith (longer xs ys) xs × StartsWith (longer xs ys) ys
  longer_when xs ys zs true is p q =
      let le : length xs ≤ length ys = grind (arith, nat_tests) in
      rw is (q, shorter_begins xs ys zs p q le, begins_itself ys)
  longer_when xs ys zs false is p q =
      let le : length ys ≤ length xs = grind (arith, nat_tests) in
      rw is (p, begins_itself xs, shorter_begins ys xs zs q p le)

  -- the longer of two beginnings is one too, and begins with both
  pub longer_begins : (xs ys zs : List E) → StartsWith zs xs → StartsWith zs ys
      → StartsWith zs (longer xs ys) × StartsWith (longer xs ys) xs × StartsWith (longer xs ys) ys
  longer_begins xs ys zs p q = longer_when xs ys zs (nat_lt (length xs) (length ys)) refl p q

  module _ (caller_of : E → ℕ) where
    pub calls_own : (n : ℕ) (log : List E) (e : E) → caller_of e ≡ n → calls_of caller_of n (log ++ e ∷ []) ≡ calls_of caller_of n log ++ e ∷ []
    calls_own n log e is =
        filter-append (λ x. caller_of x == n) log (e ∷ []) ∙ ap (λ b. calls_of caller_of n log ++ cond b (e ∷ []) []) (eq-eqb (caller_of e) n is)

    pub calls_other : (n : ℕ) (log : List E) (e : E) → caller_of e ≢ n → calls_of caller_of n (log ++ e ∷ []) ≡ calls_of caller_of n log
    calls_other n log e apart =
        filter-append (λ x. caller_of x == n) log (e ∷ [])
        ∙ (ap (λ b. calls_of caller_of n log ++ cond b (e ∷ []) []) (ne_eqb (caller_of e) n apart) ∙ append-nil (calls_of caller_of n log))

    -- after a step a pass has its old entries and the one that was made, if one was
    pub calls_made : (n : ℕ) (before after mine : List E) (made : Option E) → Appends caller_of n before made after
        → calls_of caller_of n before ≡ mine → calls_of caller_of n after ≡ mine ++ option_to_list made
    calls_made n before after mine None same own = ap (calls_of caller_of n) same ∙ (own ∙ sym (append-nil mine))
    calls_made n before after mine (Some e) more own =
        ap (calls_of caller_of n) more.0 ∙ (calls_own n before e more.1 ∙ ap (λ l. l ++ e ∷ []) own)

    calls_begin : (n : ℕ) (log seen : List E) → StartsWith log seen → StartsWith (calls_of caller_of n log) (calls_of caller_of n seen)
    calls_begin n log seen p = (calls_of caller_of n p.0, ap (calls_of caller_of n) p.1 ∙ filter-append (λ x. caller_of x == n) seen p.0)

    no_front : (xs ys : List E) → [] ≡ xs ++ ys → xs ≡ []
    no_front [] ys e = refl
    no_front (x ∷ xs) ys e = absurd (cc)

    no_rest : (xs ys : List E) → length xs ≡ length (xs ++ ys) → ys ≡ []
    no_rest xs [] e = refl
    no_rest xs (y ∷ ys) e = absurd (omega (arith, e, length-append xs (y ∷ ys)))

    -- a number that made no entry made none before
    pub calls_none : (n : ℕ) (log seen : List E) → StartsWith log seen → calls_of caller_of n log ≡ [] → calls_of caller_of n seen ≡ []
    calls_none n log seen p none =
        let q = calls_begin n log seen p in no_front (calls_of caller_of n seen) q.0 (sym none ∙ q.1)

    -- between two histories with the same entries of a pass there is none with others
    pub calls_between : (n : ℕ) (log seen first : List E) → StartsWith log seen → StartsWith seen first
        → calls_of caller_of n log ≡ calls_of caller_of n first → calls_of caller_of n seen ≡ calls_of caller_of n first
    calls_between n log seen first p q same =
        let a = calls_begin n log seen p in
        let b = calls_begin n seen first q in
        let la : length (calls_of caller_of n log) ≡ length (calls_of caller_of n seen) + length a.0 = ap length a.1 ∙ length-append (calls_of caller_of n seen) a.0 in
        let lb : length (calls_of caller_of n seen) ≡ length (calls_of caller_of n first) + length b.0 = ap length b.1 ∙ length-append (calls_of caller_of n first) b.0 in
        let ls : length (calls_of caller_of n log) ≡ length (calls_of caller_of n first) = ap length same in
        let whole : length (calls_of caller_of n first) ≡ length (calls_of caller_of n first ++ b.0) = omega (arith, la, lb, ls, length-append (calls_of caller_of n first) b.0) in
        let end = no_rest (calls_of caller_of n first) b.0 whole in
        b.1 ∙ (ap (λ l. calls_of caller_of n first ++ l) end ∙ append-nil (calls_of caller_of n first))

    -- the callers of a list are tested from its front on
    tested : (n : ℕ) (e : E) (es : List E) (b : Bool) → (caller_of e == n) ≡ b → calls_of caller_of n (e ∷ es) ≡ cond b (e ∷ calls_of caller_of n es) (calls_of caller_of n es)
    tested n e es b is = ap (λ (x : Bool). cond x (e ∷ calls_of caller_of n es) (calls_of caller_of n es)) is

    -- where all are of one pass, none is left out
    pub calls_all : (n : ℕ) (log : List E) → All (λ e. caller_of e ≡ n) log → calls_of caller_of n log ≡ log
    calls_all n [] all = refl
    calls_all n (e ∷ es) all =
        tested n e es true (eq-eqb (caller_of e) n (all 0 e (omega arith)))
        ∙ ap (λ l. e ∷ l) (calls_all n es (λ k d lt. all (suc k) d (omega arith)))

    -- a number that was not drawn yet made no entry
    pub calls_fresh : (numbers n : ℕ) (log : List E) → All (λ e. caller_of e < numbers) log → numbers ≤ n → calls_of caller_of n log ≡ []
    calls_fresh numbers n [] all le = refl
    calls_fresh numbers n (e ∷ es) all le =
        let below : caller_of e < numbers = all 0 e (omega arith) in
        let apart : caller_of e ≢ n = λ same. omega arith in
        tested n e es false (ne_eqb (caller_of e) n apart) ∙ calls_fresh numbers n es (λ k d lt. all (suc k) d (omega arith)) le

module _ {V : Type 0} where
  pub set_there : (l : List V) (i : ℕ) (a b : V) → get_elem? l i ≡ some a → get_elem? (set l i b) i ≡ some b
  set_there [] i a b e = absurd (some-ne-none a (sym e))
  set_there (x ∷ xs) zero a b e = refl
  set_there (x ∷ xs) (suc i) a b e = set_there xs i a b e

  -- what stands in a list that is one longer: an old one below the end, or the new one there
  pub at_new : (l : List V) (a b : V) (j : ℕ) → get_elem? (l ++ a ∷ []) j ≡ some b → ((j < length l) × (get_elem? l j ≡ some b)) ⊎ ((j ≡ length l) × (a ≡ b))
  at_new [] a b zero e = inr (refl, some-injective a b e)
  at_new [] a b (suc j) e = absurd (some-ne-none b (sym e))
  at_new (x ∷ xs) a b zero e = inl (omega arith, e)
  at_new (x ∷ xs) a b (suc j) e = ⊎_elim (λ t. inl ((let lt = t.0 in omega arith), t.1)) (λ t. inr (ap suc t.0, t.1)) (at_new xs a b j e)

module _ {E : Type 0} where
  pub waiting-set : (views : List (View E)) (i : ℕ) (v w : View E) → get_elem? views i ≡ some v → waiting (set views i w) + turns_of v.turn ≡ waiting views + turns_of w.turn
  waiting-set [] i v w e = absurd (some-ne-none v (sym e))
  waiting-set (x ∷ xs) zero v w e =
      let same : turns_of x.turn ≡ turns_of v.turn = ap (λ (u : View E). turns_of u.turn) (some-injective x v e) in omega arith
  waiting-set (x ∷ xs) (suc i) v w e = let more = waiting-set xs i v w e in omega arith

  pub waiting-snoc : (views : List (View E)) (w : View E) → waiting (views ++ w ∷ []) ≡ waiting views + turns_of w.turn
  waiting-snoc [] w = omega arith
  waiting-snoc (x ∷ xs) w = let more = waiting-snoc xs w in omega arith
