-- What one answer takes of the items that wait.
use Rattle.std.proofs.Common.{◌≡◌, ℕ, zero, suc, ◌+◌, ◌-◌, ◌<◌, ◌≤◌, Bool, true, false, not, ◌==◌, ◌&&◌, ◌||◌, cond, inl, inr, min, List, [], ◌∷◌, ◌++◌, Some, None, length, length-append, take, drop, get_or, refl, sym, ◌∙◌, ap, subst, arith, length-drop, length-take}
use Rattle.std.specs.Prelude.{Result, Ok, Err, IfOk, nat_le}
use Rattle.std.specs.List.{list_all, list_any}
use Rattle.std.proofs.lemmas.Bool.{cases_lt, eqb-true}
use Rattle.std.proofs.lemmas.Bool.Decides.{nat_tests}
use Rattle.std.proofs.lemmas.List.{take-take}
use Rattle.std.proofs.lemmas.List.Folds.{list_all_more, list_any_more}
use Rattle.std.proofs.lemmas.List.Sums.{sum_by-take-drop, sum_by-take-le, sum_by_more, sum_by_push}
use Rattle.bosh_types.specs.Limits.{longest_stanza, most_streams, most_waiting}
use Rattle.bosh_types.specs.declared.ending.Closing.{Closing}
use Rattle.stream_names.specs.Streams.{is_among, those, with_stream}
use Rattle.stream_names.proofs.Numbers.{canonical, length_with}
use Rattle.session_core.specs.declared.outward.Outward.{Outward}
use Rattle.session_core.specs.declared.outward.Outward.TheVariants.{Stanza, Close}
use Rattle.session_core.specs.Answers.{fit_one_answer, front_of, longest_front}
use Rattle.session_core.specs.Outward.{Front, OfStanzas, first_stream, is_close, items_in, lie_on_one, size_of, size_of_all, stanzas_in, stream_in}
use Rattle.session_core.specs.Queue.{IsCounted, first_closing}

pub first_closing_is : (items : List Outward) (stream : ℕ) (closing : Closing) → first_closing items ≡ Some (stream, closing) → items ≡ Close stream closing ∷ drop 1 items
first_closing_is [] stream closing is = absurd (cc)
first_closing_is (Stanza s bytes ∷ items) stream closing is = absurd (cc)
first_closing_is (Close s c ∷ items) stream closing is =
    let pair : (s, c) ≡ (stream, closing) = cc in
    ap (λ (p : ℕ × Closing). Close p.0 p.1 ∷ items) pair

-- where no closing comes first, an answer takes stanzas
pub front_of_stanzas : (items : List Outward) → first_closing items ≡ None → OfStanzas (longest_front (min most_waiting (length items)) items) ≡ front_of items
front_of_stanzas [] none = refl
front_of_stanzas (Stanza stream bytes ∷ items) none =
    let same : length (Stanza stream bytes ∷ items) ≡ length items + 1 = omega arith in
    ap (λ n. OfStanzas (longest_front (min most_waiting n) (Stanza stream bytes ∷ items))) same
front_of_stanzas (Close stream closing ∷ items) none = absurd (cc)

not_true : (b : Bool) → (b ≡ true → ⊥) → b ≡ false
not_true true never = absurd (never refl)
not_true false never = refl

or_false : (a b : Bool) → (a || b) ≡ false → b ≡ false
or_false true b none = absurd (cc)
or_false false b none = none

-- each of these is of this stream
abbrev pub all_of : ℕ → List Outward → Bool
all_of stream items = list_all (λ other. stream_in other == stream) items

pub fits_is : (items : List Outward) → list_any is_close items ≡ false → lie_on_one items ≡ true → size_of_all items ≤ longest_stanza → fit_one_answer items ≡ true
fits_is items stanzas one small = rw (stanzas, one) (grind (arith, nat_tests))

fits_parts : (items : List Outward) → fit_one_answer items ≡ true → (list_any is_close items ≡ false) × (lie_on_one items ≡ true) × (size_of_all items ≤ longest_stanza)
fits_parts items fits = by (list_any is_close items) (lie_on_one items) refl refl fits
  where
    by : (a b : Bool) → list_any is_close items ≡ a → lie_on_one items ≡ b → ((not a && b) && nat_le (size_of_all items) longest_stanza) ≡ true
        → (list_any is_close items ≡ false) × (lie_on_one items ≡ true) × (size_of_all items ≤ longest_stanza)
    by true b close one fits = absurd (cc)
    by false false close one fits = absurd (cc)
    by false true close one fits = (close, one, grind (arith, nat_tests, fits))

-- where the first one is of this stream, they lie on one where each is of it
pub one_is : (items : List Outward) (stream : ℕ) → first_stream items ≡ Some stream → lie_on_one items ≡ all_of stream items
one_is [] stream is = absurd (cc)
one_is (item ∷ items) stream is =
    let same : stream_in item ≡ stream = cc in
    let itself : (stream_in item == stream) ≡ true = grind (arith, nat_tests, same) in
    ap (λ (n : ℕ). list_all (λ other. stream_in other == n) items) same ∙ sym (ap (λ (b : Bool). b && all_of stream items) itself)

all_take : (stream : ℕ) (items : List Outward) (j : ℕ) → all_of stream items ≡ true → all_of stream (take j items) ≡ true
all_take stream items zero all = refl
all_take stream [] (suc j) all = refl
all_take stream (item ∷ items) (suc j) all = by (stream_in item == stream) all (all_take stream items j)
  where
    by : (b : Bool) → (b && all_of stream items) ≡ true → (all_of stream items ≡ true → all_of stream (take j items) ≡ true) → (b && all_of stream (take j items)) ≡ true
    by true all rest = rest all
    by false all rest = absurd (cc)

one_take : (items : List Outward) (j : ℕ) → lie_on_one items ≡ true → lie_on_one (take j items) ≡ true
one_take items zero one = refl
one_take [] (suc j) one = refl
one_take (item ∷ items) (suc j) one = all_take (stream_in item) items j one

stanzas_take : (items : List Outward) (j : ℕ) → list_any is_close items ≡ false → list_any is_close (take j items) ≡ false
stanzas_take items zero none = refl
stanzas_take [] (suc j) none = refl
stanzas_take (Stanza stream bytes ∷ items) (suc j) none = stanzas_take items j none
stanzas_take (Close stream closing ∷ items) (suc j) none = absurd (cc)

fits_take : (items : List Outward) (j : ℕ) → fit_one_answer items ≡ true → fit_one_answer (take j items) ≡ true
fits_take items j fits =
    let parts = fits_parts items fits in
    fits_is (take j items) (stanzas_take items j parts.0) (one_take items j parts.1) (omega (arith, parts.2, sum_by-take-le size_of items j))

-- where a front doesn't fit, no longer one does
pub no_longer : (items : List Outward) (j m : ℕ) → j ≤ m → fit_one_answer (take j items) ≡ false → fit_one_answer (take m items) ≡ false
no_longer items j m within fails = not_true (fit_one_answer (take m items))
    (λ fits.
    let less : fit_one_answer (take j items) ≡ true = ap fit_one_answer (sym (take-take j m items within)) ∙ fits_take (take m items) j fits in
    cc)

-- the first of some is that of more
first_of_take : (items : List Outward) (count stream : ℕ) → first_stream items ≡ Some stream → first_stream (take (count + 1) items) ≡ Some stream
first_of_take [] count stream is = absurd (cc)
first_of_take (item ∷ items) count stream is =
    let more : count + 1 ≡ suc count = omega arith in
    ap (λ (n : ℕ). first_stream (take n (item ∷ items))) more ∙ is

last_of_all : (stream : ℕ) (items : List Outward) (count : ℕ) (item : Outward) → count < length items → all_of stream (take (count + 1) items) ≡ true → (stream_in (get_or items count item) == stream) ≡ true
last_of_all stream items count item within all = and_second (all_of stream (take count items)) _ (sym (list_all_more (λ other. stream_in other == stream) items count item within) ∙ all)
  where
    and_second : (a b : Bool) → (a && b) ≡ true → b ≡ true
    and_second true b is = is
    and_second false b is = absurd (cc)

-- some of the first ones lie on one stream where each is of it
pub one_front : (items : List Outward) (count stream : ℕ) → first_stream items ≡ Some stream → all_of stream (take count items) ≡ true → lie_on_one (take count items) ≡ true
one_front items zero stream first all = refl
one_front [] (suc count) stream first all = refl
one_front (item ∷ items) (suc count) stream first all = one_is (item ∷ take count items) stream first ∙ all

-- one more item doesn't fit
pub stops : (items : List Outward) (count bytes stream : ℕ) (item : Outward) → first_stream items ≡ Some stream → count < length items → item ≡ get_or items count item → bytes ≡ size_of_all (take count items)
    → (((is_close item ≡ false) × (stream_in item ≡ stream)) × (bytes + size_of item ≤ longest_stanza) → ⊥) → fit_one_answer (take (count + 1) items) ≡ false
stops items count bytes stream item first within is sum fails = not_true (fit_one_answer (take (count + 1) items))
    (λ fits.
    let parts = fits_parts (take (count + 1) items) fits in
    let stanza : is_close item ≡ false =
    ap is_close is ∙ or_false (list_any is_close (take count items)) (is_close (get_or items count item)) (sym (list_any_more is_close items count item within) ∙ parts.0) in
    let all : all_of stream (take (count + 1) items) ≡ true = sym (one_is (take (count + 1) items) stream (first_of_take items count stream first)) ∙ parts.1 in
    let here : (stream_in item == stream) ≡ true = ap (λ (o : Outward). stream_in o == stream) is ∙ last_of_all stream items count item within all in
    let on : stream_in item ≡ stream = eqb-true (stream_in item) stream here in
    let size : size_of item ≡ size_of (get_or items count item) = ap size_of is in
    fails ((stanza, on), omega (arith, parts.2, sum_by_more size_of items count item within)))

-- the longest front is one that fits where no longer one does
pub longest_is : (most count : ℕ) (items : List Outward) → count ≤ most → fit_one_answer (take count items) ≡ true → ((m : ℕ) → count < m → m ≤ most → fit_one_answer (take m items) ≡ false) → take count items ≡ longest_front most items
longest_is zero count items within fits longer =
    let none : count ≡ 0 = omega arith in
    ap (λ n. take n items) none
longest_is (suc most) count items within fits longer = elim (cases_lt count (suc most)) [
  | inl below ↦
      longest_is most count items (omega arith) fits (λ m above inside. longer m above (omega arith))
      ∙ sym (ap (λ b. cond b (take (suc most) items) (longest_front most items)) (longer (suc most) below (omega arith)))
  | inr past ↦
      let same : count ≡ suc most = omega arith in
      let whole : fit_one_answer (take (suc most) items) ≡ true = ap (λ n. fit_one_answer (take n items)) (sym same) ∙ fits in
      ap (λ n. take n items) same ∙ sym (ap (λ b. cond b (take (suc most) items) (longest_front most items)) whole)
]

-- what is left is counted
pub counted_left : (items : List Outward) (bytes count sum : ℕ) (closed : List ℕ) → IsCounted items bytes closed → sum ≡ size_of_all (take count items) → IsCounted (drop count items) (bytes - sum) closed
counted_left items bytes count sum closed counted is = record {
  sum_is = omega (arith, counted.sum_is, sum_by-take-drop size_of items count);
  small = omega (arith, counted.small);
  few = omega (arith, counted.few, length-drop count items);
  in_order = counted.in_order;
}

pub none_in_order : those (is_among []) ≡ []
unfolding those
none_in_order = refl

pub none_counted : (items : List Outward) (closed : List ℕ) → items ≡ [] → closed ≡ [] → IsCounted items 0 closed
none_counted items closed none no_stream =
    rw (none, no_stream) (record { sum_is = refl; small = omega arith; few = omega arith; in_order = none_in_order })

-- a closing waits too
pub closing_counted : (items : List Outward) (bytes stream : ℕ) (closed : List ℕ) (closing : Closing) → stream < most_streams → is_among closed stream ≡ false → IsCounted items bytes closed
    → IsCounted (items ++ Close stream closing ∷ []) bytes (with_stream closed stream)
closing_counted items bytes stream closed closing small other counted = record {
  sum_is = omega (arith, counted.sum_is, sum_by_push size_of items (Close stream closing));
  small = counted.small;
  few =
      let whole : those (is_among closed) ≡ closed = counted.in_order in
      let fails : is_among (those (is_among closed)) stream ≡ false = ap (λ (xs : List ℕ). is_among xs stream) whole ∙ other in
      let more : length (with_stream closed stream) ≡ length closed + 1 =
      subst (λ (xs : List ℕ). length (with_stream xs stream) ≡ length xs + 1) whole (length_with (is_among closed) stream small fails) in
      omega (arith, counted.few, more, length-append items (Close stream closing ∷ []));
  in_order = canonical (λ other. is_among closed other || (other == stream));
}

longest_few : (most : ℕ) (items : List Outward) → length (longest_front most items) ≤ most
longest_few zero items = omega arith
longest_few (suc most) items = by (fit_one_answer (take (suc most) items)) (longest_few most items)
  where
    by : (b : Bool) → length (longest_front most items) ≤ most → length (cond b (take (suc most) items) (longest_front most items)) ≤ suc most
    by true few = omega (arith, length-take (suc most) items)
    by false few = omega (arith, few)

stanzas_few : (items : List Outward) → length (stanzas_in items) ≤ length items
stanzas_few [] = omega arith
stanzas_few (Stanza stream bytes ∷ items) = omega (arith, stanzas_few items)
stanzas_few (Close stream closing ∷ items) = omega (arith, stanzas_few items)

-- an answer has few payloads
pub front_few : (items : List Outward) → length (stanzas_in (items_in (front_of items))) ≤ most_waiting
front_few [] = omega arith
front_few (Close stream closing ∷ items) = omega arith
front_few (Stanza stream bytes ∷ items) =
    omega (arith, stanzas_few (longest_front (min most_waiting (length items + 1)) (Stanza stream bytes ∷ items)), longest_few (min most_waiting (length items + 1)) (Stanza stream bytes ∷ items))

longest_within : (most : ℕ) (items : List Outward) → (n : ℕ) × (longest_front most items ≡ take n items)
longest_within zero items = (0, refl)
longest_within (suc most) items = by (fit_one_answer (take (suc most) items)) (longest_within most items)
  where
    by : (b : Bool) → ((n : ℕ) × (longest_front most items ≡ take n items)) → (n : ℕ) × (cond b (take (suc most) items) (longest_front most items) ≡ take n items)
    by true shorter = (suc most, refl)
    by false shorter = shorter

-- an answer takes no more than there is
pub front_within : (items : List Outward) → length (items_in (front_of items)) ≤ length items
front_within [] = omega arith
front_within (Close stream closing ∷ items) = omega arith
front_within (Stanza stream bytes ∷ items) =
    let taken = longest_within (min most_waiting (length items + 1)) (Stanza stream bytes ∷ items) in
    let size : length (longest_front (min most_waiting (length items + 1)) (Stanza stream bytes ∷ items)) ≡ length (take taken.0 (Stanza stream bytes ∷ items)) = ap length taken.1 in
    omega (arith, size, length-take taken.0 (Stanza stream bytes ∷ items))

pub few_in : {E : Type 0} (result : Result Front E) (items : List Outward) → IfOk result (λ front. front ≡ front_of items)
    → IfOk result (λ front. length (stanzas_in (items_in front)) ≤ most_waiting)
few_in (Ok front) items is = subst (λ f. length (stanzas_in (items_in f)) ≤ most_waiting) (sym is) (front_few items)
few_in (Err e) items is = tt
