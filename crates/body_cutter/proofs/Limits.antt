-- The tests of the limits, taken one after the other, are tests of the greatest.
use Rattle.std.proofs.Common.{◌≡◌, ◌∙◌, ◌+◌, ◌≤◌, ℕ, Bool, true, false, ◌||◌, List, [], ◌∷◌, length, refl, sym, ap, arith}
use Rattle.std.specs.Prelude.{nat_lt, max}
use Rattle.std.specs.List.{list_any}
use Rattle.std.specs.Ordering.{nat_cmp, is_eq, match_ordering}
use Rattle.std.specs.declared.cmp.Ordering.{Ordering}
use Rattle.std.specs.declared.cmp.Ordering.TheVariants.{Less, Equal, Greater}
use Rattle.std.specs.Cmp.Lexicographic.{slice_cmp}
use Rattle.std.specs.BTreeSet.{insert_key}
use Rattle.std.proofs.lemmas.Bool.Decides.{nat_tests}
use Rattle.body_cutter.specs.Names.{has_name, with_name}
use Rattle.body_cutter.specs.Grammar.{TagRest}
use Rattle.body_cutter.specs.Parts.{count_of}

-- a test that a higher number passes too
pub or_later : (m : Bool) (n a b : ℕ) → a ≤ b → ((m || nat_lt n a) || nat_lt n b) ≡ (m || nat_lt n b)
or_later true n a b h = refl
or_later false n a b h = grind (arith, nat_tests, h)

pub or_max : (m : Bool) (n a b : ℕ) → ((m || nat_lt n a) || nat_lt n b) ≡ (m || nat_lt n (max a b))
or_max true n a b = refl
or_max false n a b = grind (arith, nat_tests)

pub or_max_past : (m : Bool) (n l a b : ℕ) → ((m || nat_lt n (l + a)) || nat_lt n (l + b)) ≡ (m || nat_lt n (l + max a b))
or_max_past true n l a b = refl
or_max_past false n l a b = grind (arith, nat_tests)

pub or_false : (m : Bool) → (m || false) ≡ m
or_false true = refl
or_false false = refl

-- a test that is passed only where it was passed
pub or_known : (m t : Bool) → (t ≡ true → m ≡ true) → (m || t) ≡ m
or_known true t h = refl
or_known false true h = sym (h refl)
or_known false false h = refl

pub or_true : (m t : Bool) → t ≡ true → (m || t) ≡ true
or_true true t e = refl
or_true false t e = e

placed_length : (o : Ordering) (k x : List ℕ) (xs ys : List (List ℕ)) → is_eq o ≡ false → length ys ≡ length xs + 1 → length (match_ordering o (k ∷ x ∷ xs) (x ∷ xs) (x ∷ ys)) ≡ length (x ∷ xs) + 1
placed_length Less k x xs ys e h = omega arith
placed_length Equal k x xs ys e h = absurd (cc)
placed_length Greater k x xs ys e h = omega (arith, h)

or_split : (a b : Bool) → (a || b) ≡ false → (a ≡ false) × (b ≡ false)
or_split true b h = absurd (cc)
or_split false b h = (refl, h)

module _ (order : List ℕ → List ℕ → Ordering) (k : List ℕ) where
  insert_length : (xs : List (List ℕ)) → list_any (λ x. is_eq (order k x)) xs ≡ false → length (insert_key order xs k) ≡ length xs + 1
  insert_length [] h = omega arith
  insert_length (x ∷ xs) h = let e = or_split (is_eq (order k x)) _ h in placed_length (order k x) k x xs _ e.0 (insert_length xs e.1)

-- a name more is one more
pub one_more : (seen : List (List ℕ)) (name : List ℕ) → has_name seen name ≡ false → length (with_name seen name) ≡ length seen + 1
unfolding has_name with_name
one_more seen name h = insert_length (slice_cmp nat_cmp) name seen h

-- whether a tag passes the limit, attribute by attribute
unfoldable pub exceeded : {seen : List (List ℕ)} {spaced is_empty : Bool} {text rest : List ℕ} → TagRest seen spaced is_empty text rest → Bool → Bool
exceeded TagRest.empty m = m
exceeded TagRest.opens m = m
exceeded (TagRest.space e t) m = exceeded t m
exceeded (TagRest.attribute {seen = seen} {name = name} n fresh before after q v t) m = exceeded t (m || nat_lt 32 (length (with_name seen name)))

exceeded_more : (m : Bool) (l next c : ℕ) → next ≡ l + 1 → ((m || nat_lt 32 next) || nat_lt 32 (next + c)) ≡ (m || nat_lt 32 (l + (c + 1)))
exceeded_more m l next c e = or_later m 32 next (next + c) (omega arith) ∙ ap (λ (n : ℕ). m || nat_lt 32 n) (omega (arith, e))

pub exceeded_is : {seen : List (List ℕ)} {spaced is_empty : Bool} {text rest : List ℕ} (t : TagRest seen spaced is_empty text rest) (m : Bool) → (nat_lt 32 (length seen) ≡ true → m ≡ true) → exceeded t m ≡ (m || nat_lt 32 (length seen + count_of t))
unfolding exceeded count_of
exceeded_is {seen} TagRest.empty m h = sym (or_known m _ (λ e. h (ap (λ (n : ℕ). nat_lt 32 n) (omega arith) ∙ e)))
exceeded_is {seen} TagRest.opens m h = sym (or_known m _ (λ e. h (ap (λ (n : ℕ). nat_lt 32 n) (omega arith) ∙ e)))
exceeded_is (TagRest.space e t) m h = exceeded_is t m h
exceeded_is {seen} (TagRest.attribute {name = name} n fresh before after q v t) m h =
    exceeded_is t (m || nat_lt 32 (length (with_name seen name))) (λ e. or_true m _ e)
    ∙ exceeded_more m (length seen) (length (with_name seen name)) (count_of t) (one_more seen name fresh)
