-- The streams that pass a test: which are among them, how they change with the test, and how they are counted.
use Rattle.std.proofs.Common.{◌≡◌, ◌≢◌, ℕ, zero, suc, ◌+◌, ◌-◌, ◌<◌, ◌≤◌, ◌==◌, ◌&&◌, ◌||◌, Bool, true, false, not, cond, List, [], ◌∷◌, filter, length, All, Option, Some, None, refl, sym, ◌∙◌, ap, subst, inl, inr, arith}
use Rattle.std.specs.Prelude.{nat_lt, slice_get, slice_index_or, slice_set}
use Rattle.std.specs.Option.{SomeIff}
use Rattle.std.proofs.lemmas.Bool.{cases_eq, ne_eqb}
use Rattle.std.proofs.lemmas.Bool.Decides.{nat_tests}
use Rattle.std.proofs.lemmas.List.{get_or-set_other, length-set}
use Rattle.std.proofs.lemmas.Grind.{get_or-set_at}
use Rattle.std.proofs.lemmas.List.Elements.{All-nil, All-cons, All-filter, All-head, All-tail}
use Rattle.bosh_types.specs.Limits.{most_streams}
use Rattle.stream_names.specs.PlainStreams.{AreSound, PlainStreams, with_all_closed, with_closed, with_next}
use Rattle.stream_names.specs.Streams.{is_among, marked, numbers_from, those, with_stream, without, without_all}

same_eq : (a b : ℕ) → a ≡ b → (a == b) ≡ true
same_eq a b same = grind (arith, nat_tests)

other_eq : (a b : ℕ) → a ≢ b → (a == b) ≡ false
other_eq a b other = ne_eqb a b other

or_true : (b : Bool) → (b || true) ≡ true
or_true true = refl
or_true false = refl

or_false : (b : Bool) → (b || false) ≡ b
or_false true = refl
or_false false = refl

and_true : (b : Bool) → (b && true) ≡ b
and_true true = refl
and_true false = refl

and_false : (b : Bool) → (b && false) ≡ false
and_false true = refl
and_false false = refl

-- a number in front, which may be left out
first_in : (n first : ℕ) (xs : List ℕ) (b : Bool) → first ≡ n → is_among xs n ≡ false → is_among (cond b (first ∷ xs) xs) n ≡ b
first_in n first xs true same none = rw (same_eq first n same) refl
first_in n first xs false same none = none

other_in : (n first : ℕ) (xs : List ℕ) (b : Bool) → first ≢ n → is_among (cond b (first ∷ xs) xs) n ≡ is_among xs n
other_in n first xs true other = rw (other_eq first n other) refl
other_in n first xs false other = refl

among_below : (f : ℕ → Bool) (first count n : ℕ) → n < first → is_among (filter f (numbers_from first count)) n ≡ false
among_below f first zero n low = refl
among_below f first (suc count) n low =
    other_in n first (filter f (numbers_from (suc first) count)) (f first) (λ same. omega (arith, same, low)) ∙ among_below f (suc first) count n (omega (arith, low))

among_within : (f : ℕ → Bool) (first count n : ℕ) → first ≤ n → n < first + count → is_among (filter f (numbers_from first count)) n ≡ f n
among_within f first zero n low high = absurd (omega (arith, low, high))
among_within f first (suc count) n low high = elim (cases_eq first n) [
  | inl same ↦ first_in n first (filter f (numbers_from (suc first) count)) (f first) same (among_below f (suc first) count n (omega (arith, same))) ∙ ap f same
  | inr other ↦
      other_in n first (filter f (numbers_from (suc first) count)) (f first) other
      ∙ among_within f (suc first) count n (omega (arith, low, other)) (omega (arith, high))
]

-- a stream is among them where it passes
pub among : (f : ℕ → Bool) (n : ℕ) → n < most_streams → is_among (those f) n ≡ f n
unfolding those
among f n small = among_within f 0 most_streams n (omega arith) (omega (arith, small))

both_same : (b c : Bool) (x : ℕ) (xs ys : List ℕ) → b ≡ c → xs ≡ ys → cond b (x ∷ xs) xs ≡ cond c (x ∷ ys) ys
both_same b c x xs ys same rest = λ i. cond (same i) (x ∷ rest i) (rest i)

same_from : (f g : ℕ → Bool) (first count : ℕ) → ((n : ℕ) → n < first + count → f n ≡ g n) → filter f (numbers_from first count) ≡ filter g (numbers_from first count)
same_from f g first zero same = refl
same_from f g first (suc count) same =
    both_same (f first) (g first) first (filter f (numbers_from (suc first) count)) (filter g (numbers_from (suc first) count)) (same first (omega arith))
    (same_from f g (suc first) count (λ n within. same n (omega (arith, within))))

-- two tests that say the same of all streams
pub those_same : (f g : ℕ → Bool) → ((n : ℕ) → n < most_streams → f n ≡ g n) → those f ≡ those g
unfolding those
those_same f g same = same_from f g 0 most_streams (λ n within. same n (omega (arith, within)))

filter_twice : (f g : ℕ → Bool) (xs : List ℕ) → filter g (filter f xs) ≡ filter (λ x. f x && g x) xs
filter_twice f g [] = refl
filter_twice f g (x ∷ xs) = by (f x) (filter_twice f g xs)
  where
    by : (b : Bool) → filter g (filter f xs) ≡ filter (λ x. f x && g x) xs
        → filter g (cond b (x ∷ filter f xs) (filter f xs)) ≡ cond (b && g x) (x ∷ filter (λ x. f x && g x) xs) (filter (λ x. f x && g x) xs)
    by true rest = ap (λ (ys : List ℕ). cond (g x) (x ∷ ys) ys) rest
    by false rest = rest

pub without_is : (f : ℕ → Bool) (n : ℕ) → without (those f) n ≡ those (λ m. f m && not (m == n))
unfolding those
without_is f n = filter_twice f (λ m. not (m == n)) (numbers_from 0 most_streams)

pub without_all_is : (f : ℕ → Bool) (others : List ℕ) → without_all (those f) others ≡ those (λ m. f m && not (is_among others m))
unfolding those
without_all_is f others = filter_twice f (λ m. not (is_among others m)) (numbers_from 0 most_streams)

pub with_is : (f : ℕ → Bool) (n : ℕ) → with_stream (those f) n ≡ those (λ m. f m || (m == n))
with_is f n = those_same _ _ (λ m small. ap (λ (b : Bool). b || (m == n)) (among f m small))

-- what passes is what is among what passes
pub canonical : (f : ℕ → Bool) → those (is_among (those f)) ≡ those f
canonical f = those_same _ _ (λ m small. among f m small)

-- each of them has what each stream has that passes
all_from : (f : ℕ → Bool) (P : ℕ → Type 0) (first count : ℕ) → ((n : ℕ) → n < first + count → f n ≡ true → P n) → All P (filter f (numbers_from first count))
all_from f P first zero has = All-nil P
all_from f P first (suc count) has =
    by (f first) (λ passes. has first (omega arith) passes) (all_from f P (suc first) count (λ n within. has n (omega (arith, within))))
  where
    by : (b : Bool) → (b ≡ true → P first) → All P (filter f (numbers_from (suc first) count))
        → All P (cond b (first ∷ filter f (numbers_from (suc first) count)) (filter f (numbers_from (suc first) count)))
    by true one rest = All-cons P first _ (one refl) rest
    by false one rest = rest

pub all_those : (f : ℕ → Bool) (P : ℕ → Type 0) → ((n : ℕ) → n < most_streams → f n ≡ true → P n) → All P (those f)
unfolding those
all_those f P has = all_from f P 0 most_streams (λ n within. has n (omega (arith, within)))

-- and one that is among others has what all of these have
pub among_all : (P : ℕ → Type 0) (xs : List ℕ) (n : ℕ) → All P xs → is_among xs n ≡ true → P n
among_all P [] n all is = absurd (cc)
among_all P (x ∷ xs) n all is = elim (cases_eq x n) [
  | inl same ↦ subst P same (All-head P x xs all)
  | inr other ↦ among_all P xs n (All-tail P x xs all) (sym (ap (λ (b : Bool). b || is_among xs n) (other_eq x n other)) ∙ is)
]

-- they are eight at most
length_from : (f : ℕ → Bool) (first count : ℕ) → length (filter f (numbers_from first count)) ≤ count
length_from f first zero = omega arith
length_from f first (suc count) = by (f first) (length_from f (suc first) count)
  where
    by : (b : Bool) → length (filter f (numbers_from (suc first) count)) ≤ count
        → length (cond b (first ∷ filter f (numbers_from (suc first) count)) (filter f (numbers_from (suc first) count))) ≤ suc count
    by true few = omega (arith, few)
    by false few = omega (arith, few)

pub few_those : (f : ℕ → Bool) → length (those f) ≤ most_streams
unfolding those
few_those f = length_from f 0 most_streams

-- one more that passes is one more
skip_more : (f : ℕ → Bool) (n first count : ℕ) → n < first → filter (λ m. f m || (m == n)) (numbers_from first count) ≡ filter f (numbers_from first count)
skip_more f n first zero low = refl
skip_more f n first (suc count) low =
    both_same _ (f first) first _ _ (ap (λ (b : Bool). f first || b) (other_eq first n (λ same. omega (arith, same, low))) ∙ or_false (f first)) (skip_more f n (suc first) count (omega (arith, low)))

length_more : (f : ℕ → Bool) (n first count : ℕ) → first ≤ n → n < first + count → f n ≡ false → length (filter (λ m. f m || (m == n)) (numbers_from first count)) ≡ length (filter f (numbers_from first count)) + 1
length_more f n first zero low high fails = absurd (omega (arith, low, high))
length_more f n first (suc count) low high fails = elim (cases_eq first n) [
  | inl same ↦ here same (skip_more f n (suc first) count (omega (arith, same)))
  | inr other ↦ later other (length_more f n (suc first) count (omega (arith, low, other)) (omega (arith, high)) fails)
]
  where
    here : first ≡ n → filter (λ m. f m || (m == n)) (numbers_from (suc first) count) ≡ filter f (numbers_from (suc first) count)
        → length (filter (λ m. f m || (m == n)) (numbers_from first (suc count))) ≡ length (filter f (numbers_from first (suc count))) + 1
    here same rest =
        let old : f first ≡ false = ap f same ∙ fails in
        let new : (f first || (first == n)) ≡ true = ap (λ (b : Bool). f first || b) (same_eq first n same) ∙ or_true (f first) in
        rw (new, old, rest) (omega arith)

    later : first ≢ n → length (filter (λ m. f m || (m == n)) (numbers_from (suc first) count)) ≡ length (filter f (numbers_from (suc first) count)) + 1
        → length (filter (λ m. f m || (m == n)) (numbers_from first (suc count))) ≡ length (filter f (numbers_from first (suc count))) + 1
    later other rest =
        let as_before : (f first || (first == n)) ≡ f first = ap (λ (b : Bool). f first || b) (other_eq first n other) ∙ or_false (f first) in
        rw as_before (by (f first) rest)
      where
        by : (b : Bool) → length (filter (λ m. f m || (m == n)) (numbers_from (suc first) count)) ≡ length (filter f (numbers_from (suc first) count)) + 1
            → length (cond b (first ∷ filter (λ m. f m || (m == n)) (numbers_from (suc first) count)) (filter (λ m. f m || (m == n)) (numbers_from (suc first) count)))
            ≡ length (cond b (first ∷ filter f (numbers_from (suc first) count)) (filter f (numbers_from (suc first) count))) + 1
        by true rest = omega (arith, rest)
        by false rest = rest

pub length_with : (f : ℕ → Bool) (n : ℕ) → n < most_streams → is_among (those f) n ≡ false → length (with_stream (those f) n) ≡ length (those f) + 1
unfolding those
length_with f n small fails =
    ap length (with_is f n) ∙ length_more f n 0 most_streams (omega arith) (omega (arith, small)) (sym (among f n small) ∙ fails)

-- one that isn't among them is not taken out
pub without_none : (xs : List ℕ) (n : ℕ) → is_among xs n ≡ false → without xs n ≡ xs
without_none [] n none = refl
without_none (x ∷ xs) n none = elim (cases_eq x n) [
  | inl same ↦ absurd (some (sym (ap (λ (b : Bool). b || is_among xs n) (same_eq x n same)) ∙ none))
  | inr other ↦ rest other (without_none xs n (sym (ap (λ (b : Bool). b || is_among xs n) (other_eq x n other)) ∙ none))
]
  where
    some : true ≡ false → ⊥
    some e = absurd (cc)

    rest : x ≢ n → without xs n ≡ xs → without (x ∷ xs) n ≡ x ∷ xs
    rest other same = rw (other_eq x n other) (ap (λ (ys : List ℕ). x ∷ ys) same)

-- the places of marks

pub mark_read : (marks : List Bool) (streams : List ℕ) (n : ℕ) → marked marks ≡ streams → n < most_streams → slice_index_or marks n false ≡ is_among streams n
mark_read marks streams n are small = sym (among (λ m. slice_index_or marks m false) n small) ∙ ap (λ (xs : List ℕ). is_among xs n) are

pub canonical_of : (marks : List Bool) (streams : List ℕ) → marked marks ≡ streams → those (is_among streams) ≡ streams
canonical_of marks streams are = subst (λ (xs : List ℕ). those (is_among xs) ≡ xs) are (canonical (λ m. slice_index_or marks m false))

pub few_of : (marks : List Bool) (streams : List ℕ) → marked marks ≡ streams → length streams ≤ most_streams
few_of marks streams are = subst (λ (xs : List ℕ). length xs ≤ most_streams) are (few_those (λ m. slice_index_or marks m false))

pub none_marked : marked (false ∷ false ∷ false ∷ false ∷ false ∷ false ∷ false ∷ false ∷ []) ≡ []
unfolding those
none_marked = refl

pub one_alone : (n : ℕ) → n < most_streams → with_stream [] n ≡ n ∷ []
unfolding those
one_alone zero small = refl
one_alone (suc zero) small = refl
one_alone (suc (suc zero)) small = refl
one_alone (suc (suc (suc zero))) small = refl
one_alone (suc (suc (suc (suc zero)))) small = refl
one_alone (suc (suc (suc (suc (suc zero))))) small = refl
one_alone (suc (suc (suc (suc (suc (suc zero)))))) small = refl
one_alone (suc (suc (suc (suc (suc (suc (suc zero))))))) small = refl
one_alone (suc (suc (suc (suc (suc (suc (suc (suc n)))))))) small = absurd (omega (arith, small))

pub mark_set : (marks : List Bool) (n : ℕ) → n < length marks → marked (slice_set marks n true) ≡ with_stream (marked marks) n
mark_set marks n within = those_same _ _ (λ m small. at m) ∙ sym (with_is (λ m. slice_index_or marks m false) n)
  where
    at : (m : ℕ) → slice_index_or (slice_set marks n true) m false ≡ (slice_index_or marks m false || (m == n))
    at m = elim (cases_eq m n) [
      | inl same ↦ get_or-set_at marks n m true false same within ∙ sym (ap (λ (b : Bool). slice_index_or marks m false || b) (same_eq m n same) ∙ or_true (slice_index_or marks m false))
      | inr other ↦ get_or-set_other marks n m true false other ∙ sym (ap (λ (b : Bool). slice_index_or marks m false || b) (other_eq m n other) ∙ or_false (slice_index_or marks m false))
    ]

pub mark_cleared : (marks : List Bool) (n : ℕ) → n < length marks → marked (slice_set marks n false) ≡ without (marked marks) n
mark_cleared marks n within = those_same _ _ (λ m small. at m) ∙ sym (without_is (λ m. slice_index_or marks m false) n)
  where
    at : (m : ℕ) → slice_index_or (slice_set marks n false) m false ≡ (slice_index_or marks m false && not (m == n))
    at m = elim (cases_eq m n) [
      | inl same ↦ get_or-set_at marks n m false false same within ∙ sym (ap (λ (b : Bool). slice_index_or marks m false && not b) (same_eq m n same) ∙ and_false (slice_index_or marks m false))
      | inr other ↦ get_or-set_other marks n m false false other ∙ sym (ap (λ (b : Bool). slice_index_or marks m false && not b) (other_eq m n other) ∙ and_true (slice_index_or marks m false))
    ]

-- those from a number on, as a loop goes over them
unfoldable pub from : (ℕ → Bool) → ℕ → List ℕ
from f n = filter f (numbers_from n (most_streams - n))

pub from_all : (f : ℕ → Bool) → from f 0 ≡ those f
unfolding from those
from_all f = refl

pub from_end : (f : ℕ → Bool) (n : ℕ) → most_streams ≤ n → from f n ≡ []
unfolding from
from_end f n over =
    let count : most_streams - n ≡ 0 = omega (arith, over) in
    ap (λ (c : ℕ). filter f (numbers_from n c)) count

from_next : (f : ℕ → Bool) (n : ℕ) → n < most_streams → from f n ≡ cond (f n) (n ∷ from f (n + 1)) (from f (n + 1))
unfolding from
from_next f n small =
    let count : most_streams - n ≡ suc (most_streams - (n + 1)) = omega (arith, small) in
    let next : suc n ≡ n + 1 = omega arith in
    ap (λ (c : ℕ). filter f (numbers_from n c)) count
    ∙ ap (λ (m : ℕ). cond (f n) (n ∷ filter f (numbers_from m (most_streams - (n + 1)))) (filter f (numbers_from m (most_streams - (n + 1))))) next

pub from_taken : (f : ℕ → Bool) (n : ℕ) → n < most_streams → f n ≡ true → from f n ≡ n ∷ from f (n + 1)
from_taken f n small is = from_next f n small ∙ ap (λ (b : Bool). cond b (n ∷ from f (n + 1)) (from f (n + 1))) is

pub from_skipped : (f : ℕ → Bool) (n : ℕ) → n < most_streams → f n ≡ false → from f n ≡ from f (n + 1)
from_skipped f n small is = from_next f n small ∙ ap (λ (b : Bool). cond b (n ∷ from f (n + 1)) (from f (n + 1))) is

-- a place after the first one, in what is behind it
pub place_after : (xs : List ℕ) (n place : ℕ) → place ≢ 0 → slice_get (n ∷ xs) place ≡ slice_get xs (place - 1)
place_after xs n zero some = absurd (some refl)
place_after xs n (suc place) some =
    let before : suc place - 1 ≡ place = omega arith in
    sym (ap (slice_get xs) before)

pub some_new : (made : Option ℕ) (n : ℕ) → SomeIff made (n < most_streams) n → n < most_streams → made ≡ Some n
some_new None n iff small = absurd (iff small)
some_new (Some m) n iff small = ap Some iff.1

-- the marks as they are once those of the others were cleared up to a place
pub record Cleared (old others : List ℕ) (place : ℕ) (marks : List Bool) : Type 0 where
  pub count : length marks ≡ most_streams
  pub each : (m : ℕ) → m < most_streams → slice_index_or marks m false ≡ (is_among old m && not (nat_lt m place && is_among others m))

pub cleared_none : (marks : List Bool) (old others : List ℕ) → length marks ≡ most_streams → marked marks ≡ old → Cleared old others 0 marks
cleared_none marks old others count are = record {
  count = count;
  each = λ m small.
      let none : nat_lt m 0 ≡ false = grind (arith, nat_tests) in
      rw none (mark_read marks old m are small ∙ sym (and_true (is_among old m)));
}

pub cleared_next : (old others : List ℕ) (marks : List Bool) (place : ℕ) (b : Bool) → place < most_streams → b ≡ (slice_index_or marks place false && not (is_among others place)) → Cleared old others place marks → Cleared old others (place + 1) (slice_set marks place b)
cleared_next old others marks place b small is cleared = record {
  count = length-set marks place b ∙ cleared.count;
  each = λ m low. elim (cases_eq m place) [
    | inl same ↦
        subst (λ (k : ℕ). slice_index_or (slice_set marks place b) k false ≡ (is_among old k && not (nat_lt k (place + 1) && is_among others k))) (sym same) here
    | inr other ↦
        get_or-set_other marks place m b false other ∙ cleared.each m low
        ∙ ap (λ (v : Bool). is_among old m && not (v && is_among others m)) (later m other)
  ];
}
  where
    step : (v o : Bool) → ((v && not (nat_lt place place && o)) && not o) ≡ (v && not (nat_lt place (place + 1) && o))
    step v o =
        let no : nat_lt place place ≡ false = grind (arith, nat_tests) in
        let yes : nat_lt place (place + 1) ≡ true = grind (arith, nat_tests) in
        rw (no, yes) (ap (λ (x : Bool). x && not o) (and_true v))

    here : slice_index_or (slice_set marks place b) place false ≡ (is_among old place && not (nat_lt place (place + 1) && is_among others place))
    here =
        get_or-set_at marks place place b false refl (omega (arith, small, cleared.count)) ∙ is ∙ ap (λ (v : Bool). v && not (is_among others place)) (cleared.each place small)
        ∙ step (is_among old place) (is_among others place)

    later : (m : ℕ) → m ≢ place → nat_lt m place ≡ nat_lt m (place + 1)
    later m other = grind (arith, nat_tests, other)

pub cleared_all : (old others : List ℕ) (marks : List Bool) (place : ℕ) → most_streams ≤ place → those (is_among old) ≡ old → Cleared old others place marks → marked marks ≡ without_all old others
cleared_all old others marks place end whole cleared =
    those_same _ _ (λ m small. cleared.each m small ∙ at m small) ∙ sym (without_all_is (is_among old) others) ∙ ap (λ (xs : List ℕ). without_all xs others) whole
  where
    at : (m : ℕ) → m < most_streams → (is_among old m && not (nat_lt m place && is_among others m)) ≡ (is_among old m && not (is_among others m))
    at m small =
        let yes : nat_lt m place ≡ true = grind (arith, nat_tests, small, end) in
        rw yes refl

-- closing one that isn't open changes nothing
pub closed_none : (s : PlainStreams) (n : ℕ) → is_among s.running n ≡ false → s ≡ with_closed s n
closed_none s n none = λ i. record s { running = sym (without_none s.running n none) i }

-- the streams of a session stay sound

next_below : (running : List ℕ) (opened n : ℕ) (b : Bool) → All (λ stream. stream < opened) running → is_among running n ≡ b → (b || (n == opened)) ≡ true → n < opened + 1
next_below running opened n true all is passes = omega (arith, among_all (λ stream. stream < opened) running n all is)
next_below running opened n false all is passes = grind (arith, nat_tests, passes)

pub sound_next : (s : PlainStreams) → AreSound s → s.opened < most_streams → AreSound (with_next s)
sound_next s sound small = record {
  some = omega arith;
  few = omega (arith, small);
  opened_once = all_those _ _ (λ n low passes. next_below s.running s.opened n (is_among s.running n) sound.opened_once refl passes);
}

pub sound_without : (s : PlainStreams) (stream : ℕ) → AreSound s → AreSound (with_closed s stream)
sound_without s stream sound = record {
  some = sound.some;
  few = sound.few;
  opened_once = All-filter _ (λ stream. stream < s.opened) s.running sound.opened_once;
}

pub sound_without_all : (s : PlainStreams) (others : List ℕ) → AreSound s → AreSound (with_all_closed s others)
sound_without_all s others sound = record {
  some = sound.some;
  few = sound.few;
  opened_once = All-filter _ (λ stream. stream < s.opened) s.running sound.opened_once;
}
