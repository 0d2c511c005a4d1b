-- What one body takes of what is queued.
use Rattle.std.proofs.Common.{◌≡◌, ℕ, zero, suc, ◌+◌, ◌<◌, ◌≤◌, Bool, true, false, ◌&&◌, cond, inl, inr, min, List, [], ◌∷◌, ◌++◌, None, length, take, get_or, refl, sym, ◌∙◌, ap, arith, length-take}
use Rattle.std.specs.Prelude.{Option, Some, slice_get, ◌==◌, if◌then◌else◌}
use Rattle.std.specs.List.{list_all, list_any}
use Rattle.std.proofs.lemmas.Bool.{cases_lt}
use Rattle.std.proofs.lemmas.Bool.Decides.{nat_tests}
use Rattle.std.proofs.lemmas.List.{take-take}
use Rattle.std.proofs.lemmas.List.Folds.{list_all_more}
use Rattle.std.proofs.lemmas.List.Sums.{sum_by-take-le, sum_by_more}
use Rattle.bosh_types.specs.Limits.{longest_stanza, most_children}
use Rattle.bosh_client.specs.declared.outgoing.Outgoing.{Outgoing}
use Rattle.bosh_client.specs.declared.outgoing.Outgoing.TheVariants.{Stanza, Restart, Pause, Add, Close, Terminate}
use Rattle.bosh_client.specs.Loads.{Loads}
use Rattle.bosh_client.specs.Outgoing.{fit_one_body, front_of, host_in, is_restart, is_stanza, lie_together, longest_front, pause_in, same_stream, size_of, size_of_all, stanzas_in, stream_in, stream_of, terminates}

-- The stanzas of a front.

pub stanzas_more : (items : List Outgoing) (n : ℕ) (item : Outgoing) → n < length items → item ≡ get_or items n item → stanzas_in (take (n + 1) items) ≡ stanzas_in (take n items) ++ stanzas_in (item ∷ [])
stanzas_more items n item within is =
    let same : suc n ≡ n + 1 = omega arith in
    ap (λ m. stanzas_in (take m items)) (sym same) ∙ by items n within is
  where
    by : (own : List Outgoing) (n : ℕ) → n < length own → item ≡ get_or own n item → stanzas_in (take (suc n) own) ≡ stanzas_in (take n own) ++ stanzas_in (item ∷ [])
    by [] n within is = absurd (omega arith)
    by (x ∷ xs) zero within is = ap (λ (i : Outgoing). stanzas_in (i ∷ [])) (sym is)
    by (Stanza on bytes ∷ xs) (suc n) within is = ap (λ rest. bytes ∷ rest) (by xs n (omega arith) is)
    by (Restart ∷ xs) (suc n) within is = by xs n (omega arith) is
    by (Pause seconds ∷ xs) (suc n) within is = by xs n (omega arith) is
    by (Add to ∷ xs) (suc n) within is = by xs n (omega arith) is
    by (Close stream ∷ xs) (suc n) within is = by xs n (omega arith) is
    by (Terminate ∷ xs) (suc n) within is = by xs n (omega arith) is

-- The longest front.

not_true : (b : Bool) → (b ≡ true → ⊥) → b ≡ false
not_true true never = absurd (never refl)
not_true false never = refl

and_true : (a b : Bool) → (a && b) ≡ true → (a ≡ true) × (b ≡ true)
and_true true b both = (refl, both)
and_true false b both = absurd (cc)

both_true : (a b : Bool) → a ≡ true → b ≡ true → (a && b) ≡ true
both_true true b one two = two
both_true false b one two = one

pub fits_is : (items : List Outgoing) → list_all is_stanza items ≡ true → size_of_all items ≤ longest_stanza → lie_together items ≡ true → fit_one_body items ≡ true
fits_is items stanzas small together = both_true _ _ (both_true _ _ stanzas together) (grind (arith, nat_tests))

pub fits_parts : (items : List Outgoing) → fit_one_body items ≡ true → (list_all is_stanza items ≡ true) × (size_of_all items ≤ longest_stanza) × (lie_together items ≡ true)
fits_parts items fits =
    let both = and_true (list_all is_stanza items && lie_together items) _ fits in
    let kinds = and_true (list_all is_stanza items) (lie_together items) both.0 in
    (kinds.0, grind (arith, nat_tests, both.1), kinds.1)

-- for the stream that the first of all is for
abbrev on_first : List Outgoing → Outgoing → Bool
on_first items item = same_stream (stream_in items) (stream_of item)

-- a front lies together where it is for that stream
pub together_take : (items : List Outgoing) (n : ℕ) → lie_together (take n items) ≡ list_all (on_first items) (take n items)
together_take items zero = refl
together_take [] (suc n) = refl
together_take (x ∷ xs) (suc n) = refl

pub first_stream : (items : List Outgoing) (first : Outgoing) → 0 < length items → first ≡ get_or items 0 first → stream_of first ≡ stream_in items
first_stream [] first some is = absurd (omega arith)
first_stream (x ∷ xs) first some is = ap stream_of is

all_take : (p : Outgoing → Bool) (items : List Outgoing) (j : ℕ) → list_all p items ≡ true → list_all p (take j items) ≡ true
all_take p items zero all = refl
all_take p [] (suc j) all = refl
all_take p (x ∷ xs) (suc j) all =
    let parts = and_true (p x) (list_all p xs) all in
    both_true (p x) (list_all p (take j xs)) parts.0 (all_take p xs j parts.1)

fits_take : (items : List Outgoing) (j : ℕ) → fit_one_body items ≡ true → fit_one_body (take j items) ≡ true
fits_take items j fits =
    let parts = fits_parts items fits in
    fits_is (take j items) (all_take is_stanza items j parts.0) (omega (arith, parts.1, sum_by-take-le size_of items j))
    (together_take items j ∙ all_take (on_first items) items j parts.2)

-- where a front doesn't fit, no longer one does
pub no_longer : (items : List Outgoing) (j m : ℕ) → j ≤ m → fit_one_body (take j items) ≡ false → fit_one_body (take m items) ≡ false
no_longer items j m within fails = not_true (fit_one_body (take m items))
    (λ fits.
    let less : fit_one_body (take j items) ≡ true = ap fit_one_body (sym (take-take j m items within)) ∙ fits_take (take m items) j fits in
    cc)

-- one more item doesn't fit
pub stops : (items : List Outgoing) (count bytes : ℕ) (item : Outgoing) → count < length items → item ≡ get_or items count item → bytes ≡ size_of_all (take count items) → ((is_stanza item ≡ true) × (same_stream (stream_in items) (stream_of item) ≡ true) × (bytes + size_of item ≤ longest_stanza) → ⊥) → fit_one_body (take (count + 1) items) ≡ false
stops items count bytes item within is sum fails = not_true (fit_one_body (take (count + 1) items))
    (λ fits.
    let parts = fits_parts (take (count + 1) items) fits in
    let more = and_true (list_all is_stanza (take count items)) (is_stanza (get_or items count item)) (sym (list_all_more is_stanza items count item within) ∙ parts.0) in
    let on = and_true (list_all (on_first items) (take count items)) (on_first items (get_or items count item)) (sym (list_all_more (on_first items) items count item within) ∙ sym (together_take items (count + 1)) ∙ parts.2) in
    let size : size_of item ≡ size_of (get_or items count item) = ap size_of is in
    fails (ap is_stanza is ∙ more.1, ap (on_first items) is ∙ on.1, omega (arith, parts.1, sum_by_more size_of items count item within)))

-- the longest front is one that fits where no longer one does
pub longest_is : (most count : ℕ) (items : List Outgoing) → count ≤ most → fit_one_body (take count items) ≡ true → ((m : ℕ) → count < m → m ≤ most → fit_one_body (take m items) ≡ false) → take count items ≡ longest_front most items
longest_is zero count items within fits longer =
    let none : count ≡ 0 = omega arith in
    ap (λ n. take n items) none
longest_is (suc most) count items within fits longer = elim (cases_lt count (suc most)) [
  | inl below ↦
      longest_is most count items (omega arith) fits (λ m above inside. longer m above (omega arith))
      ∙ sym (ap (λ b. cond b (take (suc most) items) (longest_front most items)) (longer (suc most) below (omega arith)))
  | inr past ↦
      let same : count ≡ suc most = omega arith in
      let whole : fit_one_body (take (suc most) items) ≡ true = ap (λ n. fit_one_body (take n items)) (sym same) ∙ fits in
      ap (λ n. take n items) same ∙ sym (ap (λ b. cond b (take (suc most) items) (longest_front most items)) whole)
]

longest_within : (most : ℕ) (items : List Outgoing) → (n : ℕ) × (longest_front most items ≡ take n items)
longest_within zero items = (0, refl)
longest_within (suc most) items = by (fit_one_body (take (suc most) items)) (longest_within most items)
  where
    by : (b : Bool) → ((n : ℕ) × (longest_front most items ≡ take n items)) → (n : ℕ) × (cond b (take (suc most) items) (longest_front most items) ≡ take n items)
    by true shorter = (suc most, refl)
    by false shorter = shorter

pub longest_few : (most : ℕ) (items : List Outgoing) → length (longest_front most items) ≤ most
longest_few zero items = omega arith
longest_few (suc most) items = by (fit_one_body (take (suc most) items)) (longest_few most items)
  where
    by : (b : Bool) → length (longest_front most items) ≤ most → length (cond b (take (suc most) items) (longest_front most items)) ≤ suc most
    by true few = omega (arith, length-take (suc most) items)
    by false few = omega (arith, few)

-- it fits, whatever it is
pub longest_fits : (most : ℕ) (items : List Outgoing) → fit_one_body (longest_front most items) ≡ true
longest_fits zero items = refl
longest_fits (suc most) items = by (fit_one_body (take (suc most) items)) refl (longest_fits most items)
  where
    by : (b : Bool) → fit_one_body (take (suc most) items) ≡ b → fit_one_body (longest_front most items) ≡ true → fit_one_body (cond b (take (suc most) items) (longest_front most items)) ≡ true
    by true is shorter = is
    by false is shorter = shorter

-- What is queued loses no more than there is.

pub front_within : (items : List Outgoing) → length (front_of items) ≤ length items
front_within [] = omega arith
front_within (Stanza on bytes ∷ items) =
    let all = Stanza on bytes ∷ items in
    let taken = longest_within (min most_children (length all)) all in
    omega (arith, ap length taken.1, length-take taken.0 all)
front_within (Restart ∷ items) = omega arith
front_within (Pause seconds ∷ items) = omega arith
front_within (Add to ∷ items) = omega arith
front_within (Close stream ∷ items) = omega arith
front_within (Terminate ∷ items) = omega arith

-- Stanzas are neither a pause, a restart nor a terminate.

pub stanzas_pause : (items : List Outgoing) → list_all is_stanza items ≡ true → None ≡ pause_in items
stanzas_pause [] all = refl
stanzas_pause (Stanza on bytes ∷ items) all = stanzas_pause items all
stanzas_pause (Restart ∷ items) all = absurd (cc)
stanzas_pause (Pause seconds ∷ items) all = absurd (cc)
stanzas_pause (Add to ∷ items) all = absurd (cc)
stanzas_pause (Close stream ∷ items) all = absurd (cc)
stanzas_pause (Terminate ∷ items) all = absurd (cc)

pub stanzas_terminate : (items : List Outgoing) → list_all is_stanza items ≡ true → false ≡ list_any terminates items
stanzas_terminate [] all = refl
stanzas_terminate (Stanza on bytes ∷ items) all = stanzas_terminate items all
stanzas_terminate (Restart ∷ items) all = absurd (cc)
stanzas_terminate (Pause seconds ∷ items) all = absurd (cc)
stanzas_terminate (Add to ∷ items) all = absurd (cc)
stanzas_terminate (Close stream ∷ items) all = absurd (cc)
stanzas_terminate (Terminate ∷ items) all = absurd (cc)

pub stanzas_restart : (items : List Outgoing) → list_all is_stanza items ≡ true → false ≡ list_any is_restart items
stanzas_restart [] all = refl
stanzas_restart (Stanza on bytes ∷ items) all = stanzas_restart items all
stanzas_restart (Restart ∷ items) all = absurd (cc)
stanzas_restart (Pause seconds ∷ items) all = absurd (cc)
stanzas_restart (Add to ∷ items) all = absurd (cc)
stanzas_restart (Close stream ∷ items) all = absurd (cc)
stanzas_restart (Terminate ∷ items) all = absurd (cc)

pub stanzas_host : (items : List Outgoing) → list_all is_stanza items ≡ true → None ≡ host_in items
stanzas_host [] all = refl
stanzas_host (Stanza on bytes ∷ items) all = stanzas_host items all
stanzas_host (Restart ∷ items) all = absurd (cc)
stanzas_host (Pause seconds ∷ items) all = absurd (cc)
stanzas_host (Add to ∷ items) all = absurd (cc)
stanzas_host (Close stream ∷ items) all = absurd (cc)
stanzas_host (Terminate ∷ items) all = absurd (cc)

-- what a body takes adds a stream where its first item does
pub front_host : (items : List Outgoing) (item : Outgoing) → slice_get items 0 ≡ Some item → host_in (item ∷ []) ≡ host_in (front_of items)
front_host [] item first = absurd (cc)
front_host (x ∷ xs) item first =
    let same : x ≡ item = cc in
    ap (λ (i : Outgoing). host_in (i ∷ [])) (sym same) ∙ by x
  where
    by : (own : Outgoing) → host_in (own ∷ []) ≡ host_in (front_of (own ∷ xs))
    by (Stanza on bytes) =
        let most = min most_children (length (Stanza on bytes ∷ xs)) in
        stanzas_host (longest_front most (Stanza on bytes ∷ xs)) (fits_parts (longest_front most (Stanza on bytes ∷ xs)) (longest_fits most (Stanza on bytes ∷ xs))).0
    by Restart = refl
    by (Pause seconds) = refl
    by (Add to) = refl
    by (Close stream) = refl
    by Terminate = refl

pub none_host : (items : List Outgoing) → slice_get items 0 ≡ None → None ≡ host_in (front_of items)
none_host [] none = refl
none_host (x ∷ xs) none = absurd (cc)

-- where a stanza comes first, a body takes stanzas
pub stanza_load : (items : List Outgoing) (on : Option ℕ) (bytes : List ℕ) (count : ℕ) → slice_get items 0 ≡ Some (Stanza on bytes) → count ≤ length items → take count items ≡ longest_front (min most_children (length items)) items
    → Loads items (record { count = count; stream = if count == 0 then None else on; pause = None; terminate = false; restart = false })
stanza_load [] on bytes count first within longest = absurd (cc)
stanza_load (Stanza other own ∷ items) on bytes count first within longest =
    let front : List Outgoing = longest_front (min most_children (length (Stanza other own ∷ items))) (Stanza other own ∷ items) in
    let all = (fits_parts front (longest_fits (min most_children (length (Stanza other own ∷ items))) (Stanza other own ∷ items))).0 in
    let same : other ≡ on = cc in
    record {
      within = within;
      front_is = longest;
      stream_is = by count same ∙ ap stream_in longest;
      pause_is = stanzas_pause front all;
      terminate_is = stanzas_terminate front all;
      restart_is = stanzas_restart front all;
    }
  where
    by : (n : ℕ) → other ≡ on → (if n == 0 then None else on) ≡ stream_in (take n (Stanza other own ∷ items))
    by zero same = refl
    by (suc n) same =
        let test : (suc n == 0) ≡ false = grind (arith, nat_tests) in
        rw test (sym same)
stanza_load (Restart ∷ items) on bytes count first within longest = absurd (cc)
stanza_load (Pause seconds ∷ items) on bytes count first within longest = absurd (cc)
stanza_load (Add to ∷ items) on bytes count first within longest = absurd (cc)
stanza_load (Close stream ∷ items) on bytes count first within longest = absurd (cc)
stanza_load (Terminate ∷ items) on bytes count first within longest = absurd (cc)

pub length-take-within : {X : Type 0} (n : ℕ) (xs : List X) → n ≤ length xs → length (take n xs) ≡ n
length-take-within n xs within = omega (arith, length-take n xs, within)

-- it is a front
pub front_take : (queue : List Outgoing) → front_of queue ≡ take (length (front_of queue)) queue
front_take [] = refl
front_take (Stanza on bytes ∷ items) =
    let all = Stanza on bytes ∷ items in
    let taken = longest_within (min most_children (length all)) all in
    taken.1 ∙ take-own taken.0 all ∙ ap (λ n. take n all) (sym (ap length taken.1))
  where
    take-own : {X : Type 0} (n : ℕ) (xs : List X) → take n xs ≡ take (length (take n xs)) xs
    take-own zero xs = refl
    take-own (suc n) [] = refl
    take-own (suc n) (x ∷ xs) = ap (λ rest. x ∷ rest) (take-own n xs)
front_take (Restart ∷ items) = refl
front_take (Pause seconds ∷ items) = refl
front_take (Add to ∷ items) = refl
front_take (Close stream ∷ items) = refl
front_take (Terminate ∷ items) = refl
