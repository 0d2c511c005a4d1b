-- Streams by their names.
use Rattle.std.proofs.Common.{◌≡◌, ◌≢◌, ℕ, zero, suc, ◌+◌, ◌<◌, ◌≤◌, ◌==◌, ◌&&◌, Bool, true, false, cond, List, [], ◌∷◌, filter, Option, Some, None, refl, sym, ◌∙◌, ap, subst, inl, inr, arith}
use Rattle.std.specs.List.{find}
use Rattle.std.specs.Str.{bytes_eq}
use Rattle.std.proofs.lemmas.Bool.{cases_eq, ne_eqb}
use Rattle.std.proofs.lemmas.Bool.Decides.{nat_tests}
use Rattle.std.proofs.lemmas.Slice.Eq.{bytes_eq-Decides}
use Rattle.bosh_types.specs.Limits.{most_streams}
use Rattle.stream_names.specs.Streams.{is_among, name_of, named, numbers_from, those}
use Rattle.stream_names.proofs.Numbers.{among}

-- two streams have one name where they are one
names_eq : (a b : ℕ) → bytes_eq (name_of a) (name_of b) ≡ (a == b)
names_eq a b = elim (cases_eq a b) [
  | inl same ↦ grind (arith, nat_tests, same)
  | inr other ↦ grind (arith, nat_tests, other)
]

-- where no number from here on has the name, none of those has
found_none : (f : ℕ → Bool) (name : List ℕ) (first count : ℕ) → ((n : ℕ) → n < first + count → bytes_eq (name_of n) name ≡ false)
    → find (λ n. bytes_eq (name_of n) name) (filter f (numbers_from first count)) ≡ None
found_none f name first zero none = refl
found_none f name first (suc count) none = by (f first) (none first (omega arith)) (found_none f name (suc first) count (λ n within. none n (omega (arith, within))))
  where
    by : (b : Bool) → bytes_eq (name_of first) name ≡ false → find (λ n. bytes_eq (name_of n) name) (filter f (numbers_from (suc first) count)) ≡ None
        → find (λ n. bytes_eq (name_of n) name) (cond b (first ∷ filter f (numbers_from (suc first) count)) (filter f (numbers_from (suc first) count))) ≡ None
    by true unlike rest = rw unlike rest
    by false unlike rest = rest

-- the one that the name is of is found where it is among them
found_past : (f : ℕ → Bool) (n first count : ℕ) → n < first → find (λ m. bytes_eq (name_of m) (name_of n)) (filter f (numbers_from first count)) ≡ None
found_past f n first zero low = refl
found_past f n first (suc count) low = by (f first) (names_eq first n ∙ ne_eqb first n (λ same. omega (arith, same, low))) (found_past f n (suc first) count (omega (arith, low)))
  where
    by : (b : Bool) → bytes_eq (name_of first) (name_of n) ≡ false → find (λ m. bytes_eq (name_of m) (name_of n)) (filter f (numbers_from (suc first) count)) ≡ None
        → find (λ m. bytes_eq (name_of m) (name_of n)) (cond b (first ∷ filter f (numbers_from (suc first) count)) (filter f (numbers_from (suc first) count))) ≡ None
    by true unlike rest = rw unlike rest
    by false unlike rest = rest

found_at : (f : ℕ → Bool) (n first count : ℕ) → first ≤ n → n < first + count → find (λ m. bytes_eq (name_of m) (name_of n)) (filter f (numbers_from first count)) ≡ cond (f n) (Some n) None
found_at f n first zero low high = absurd (omega (arith, low, high))
found_at f n first (suc count) low high = elim (cases_eq first n) [
  | inl same ↦ subst (λ (k : ℕ). find (λ m. bytes_eq (name_of m) (name_of k)) (filter f (numbers_from first (suc count))) ≡ cond (f k) (Some k) None) same (here (f first))
  | inr other ↦ later (f first) (names_eq first n ∙ ne_eqb first n other) ∙ found_at f n (suc first) count (omega (arith, low, other)) (omega (arith, high))
]
  where
    here : (b : Bool) → find (λ m. bytes_eq (name_of m) (name_of first)) (cond b (first ∷ filter f (numbers_from (suc first) count)) (filter f (numbers_from (suc first) count))) ≡ cond b (Some first) None
    here true =
        let itself : bytes_eq (name_of first) (name_of first) ≡ true = names_eq first first ∙ grind (arith, nat_tests) in
        rw itself refl
    here false = found_past f first (suc first) count (omega arith)

    later : (b : Bool) → bytes_eq (name_of first) (name_of n) ≡ false
        → find (λ m. bytes_eq (name_of m) (name_of n)) (cond b (first ∷ filter f (numbers_from (suc first) count)) (filter f (numbers_from (suc first) count)))
        ≡ find (λ m. bytes_eq (name_of m) (name_of n)) (filter f (numbers_from (suc first) count))
    later true unlike = rw unlike refl
    later false unlike = refl

pub named_stream : (f : ℕ → Bool) (n : ℕ) (name : List ℕ) → n < most_streams → name ≡ name_of n → named (those f) name ≡ cond (is_among (those f) n) (Some n) None
unfolding those
named_stream f n name small is =
    ap (named (those f)) is ∙ found_at f n 0 most_streams (omega arith) (omega (arith, small)) ∙ ap (λ (b : Bool). cond b (Some n) None) (sym (among f n small))

-- the same of streams as a set has them
pub named_at : (streams : List ℕ) (n : ℕ) (name : List ℕ) → those (is_among streams) ≡ streams → n < most_streams → name ≡ name_of n → named streams name ≡ cond (is_among streams n) (Some n) None
named_at streams n name whole small is =
    ap (λ (xs : List ℕ). named xs name) (sym whole) ∙ named_stream (is_among streams) n name small is
    ∙ ap (λ (xs : List ℕ). cond (is_among xs n) (Some n) None) whole

unlike_all : (name : List ℕ) (n : ℕ) → (name ≡ name_of n → ⊥) → bytes_eq (name_of n) name ≡ false
unlike_all name n unlike = by (bytes_eq (name_of n) name) refl
  where
    by : (b : Bool) → bytes_eq (name_of n) name ≡ b → b ≡ false
    by true same = absurd (unlike (sym ((bytes_eq-Decides (name_of n) name).0 same)))
    by false other = refl

pub named_none : (f : ℕ → Bool) (name : List ℕ) → ((n : ℕ) → n < most_streams → name ≡ name_of n → ⊥) → named (those f) name ≡ None
unfolding those
named_none f name none = found_none f name 0 most_streams (λ n small. unlike_all name n (none n (omega (arith, small))))

pub named_nowhere : (streams : List ℕ) (name : List ℕ) → those (is_among streams) ≡ streams → ((n : ℕ) → n < most_streams → name ≡ name_of n → ⊥) → named streams name ≡ None
named_nowhere streams name whole none = ap (λ (xs : List ℕ). named xs name) (sym whole) ∙ named_none (is_among streams) name none

some_same : (x n : ℕ) → Some x ≡ Some n → x ≡ n
some_same x n is = cc

found_passes : (test : ℕ → Bool) (xs : List ℕ) (n : ℕ) → find test xs ≡ Some n → test n ≡ true
found_passes test [] n is = absurd (cc)
found_passes test (x ∷ xs) n is = by (test x) refl is (found_passes test xs n)
  where
    by : (b : Bool) → test x ≡ b → cond b (Some x) (find test xs) ≡ Some n → (find test xs ≡ Some n → test n ≡ true) → test n ≡ true
    by true same is rest = subst (λ (y : ℕ). test y ≡ true) (some_same x n is) same
    by false other is rest = rest is

-- what is found has the name
pub named_is : (streams : List ℕ) (name : List ℕ) (n : ℕ) → named streams name ≡ Some n → name_of n ≡ name
named_is streams name n is = (bytes_eq-Decides (name_of n) name).0 (found_passes (λ stream. bytes_eq (name_of stream) name) streams n is)
