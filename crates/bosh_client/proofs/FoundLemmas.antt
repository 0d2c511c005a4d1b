-- Where the request with an id is found, which is the lowest id without an answer, and what may be handed out.
use Rattle.std.proofs.Common.{◌≡◌, ℕ, zero, suc, ◌+◌, ◌-◌, ◌<◌, ◌≤◌, ◌⊎◌, inl, inr, Bool, true, false, cond, List, [], ◌∷◌, ◌++◌, map, length, drop, Some, None, refl, sym, ◌∙◌, ap, subst, arith, length-append, append-nil}
use Rattle.std.specs.Prelude.{Option, ◌==◌, nat_lt, not, is_some, slice_get, if◌then◌else◌}
use Rattle.std.specs.List.{All, find, flat_map, take_while}
use Rattle.std.specs.Option.{option_map, unwrap_or}
use Rattle.std.proofs.lemmas.Bool.{cases_lt}
use Rattle.std.proofs.lemmas.Bool.Decides.{nat_tests}
use Rattle.std.proofs.lemmas.Grind.{flat_map-append}
use Rattle.std.proofs.lemmas.List.{drop_all, length-map}
use Rattle.std.proofs.lemmas.Option.{slice_get-map, slice_get_past, slice_get_within}
use Rattle.std.proofs.lemmas.List.Elements.{All-head, All-tail}
use Rattle.std.proofs.lemmas.List.Sums.{take_while-cons}
use Rattle.bosh_client.specs.declared.exchanges.Slot.{Slot}
use Rattle.bosh_client.specs.declared.exchanges.Slot.TheVariants.{Answered, Open}
use Rattle.bosh_client.specs.Machine.{copy}
use Rattle.bosh_client.specs.Places.{Places, answered_front, comes_next, is_open, slot_at}
use Rattle.bosh_client.specs.PlainClient.{Made, Taken, PlainClient, bytes_of, deliverable, goes_on, id_of, is_answered, lowest, next_id, payloads_for, request_at, taken}
use Rattle.bosh_client.specs.StandsFor.{AreFrom, HoldsRequests, slot_by, slot_of}
use Rattle.bosh_client.proofs.RequestLemmas.{from-drop, stays_slot, went_on_slot}

-- The lowest id without an answer.

lowest_from : (c : PlainClient) (rid next : ℕ) (xs : List Made) → AreFrom rid xs → next ≡ rid + length xs → unwrap_or (option_map id_of (find (λ request. not (is_answered c request)) xs)) next ≡ rid + answered_front (map (slot_of c) xs)
lowest_from c rid next [] are is = omega (arith, is)
lowest_from c rid next (x ∷ xs) are is = by (taken c (id_of x)) (lowest_from c (rid + 1) next xs are.1 (omega (arith, is)))
  where
    by : (o : Option Taken) → unwrap_or (option_map id_of (find (λ request. not (is_answered c request)) xs)) next ≡ rid + 1 + answered_front (map (slot_of c) xs) → unwrap_or (option_map id_of (cond (not (is_some o)) (Some x) (find (λ request. not (is_answered c request)) xs))) next ≡ rid + answered_front (slot_by c.setup x o ∷ map (slot_of c) xs)
    by None later = omega (arith, are.0)
    by (Some answer) later = omega (arith, later)

answered_past : (c : PlainClient) (xs ys : List Made) → All (λ request. goes_on c request ≡ true) xs → answered_front (map (slot_of c) (xs ++ ys)) ≡ length xs + answered_front (map (slot_of c) ys)
answered_past c [] ys on = omega arith
answered_past c (x ∷ xs) ys on =
    let slot = (went_on_slot c x (All-head (λ request. goes_on c request ≡ true) x xs on)) in
    ap (λ (s : Slot). answered_front (s ∷ map (slot_of c) (xs ++ ys))) slot.1
    ∙ omega (arith, answered_past c xs ys (All-tail (λ request. goes_on c request ≡ true) x xs on))

pub next_is : {places : Places} {inbox : List (ℕ × List ℕ)} {plain : PlainClient} → HoldsRequests places inbox plain → places.first + length places.slots ≡ next_id plain
next_is {places = places} {plain = plain} h =
    omega (arith, h.first_is, ap length h.slots_are, length-map h.rest (slot_of plain), ap length h.requests_are, length-append h.spent h.rest)

pub lowest_is : {places : Places} {inbox : List (ℕ × List ℕ)} {plain : PlainClient} → HoldsRequests places inbox plain → places.first + answered_front places.slots ≡ lowest plain
lowest_is {places = places} {plain = plain} h =
    let whole = lowest_from plain plain.setup.first (next_id plain) plain.requests h.ids refl in
    let parts = ap (λ (xs : List Made). answered_front (map (slot_of plain) xs)) h.requests_are ∙ answered_past plain h.spent h.rest h.went_on in
    let slots = ap answered_front h.slots_are in
    omega (arith, whole, parts, slots, h.first_is)

pub open_is : {places : Places} {inbox : List (ℕ × List ℕ)} {plain : PlainClient} → HoldsRequests places inbox plain → length places.slots - answered_front places.slots ≡ next_id plain - lowest plain
open_is h = omega (arith, next_is h, lowest_is h)

-- The request with an id.

lower_missing : (rid id : ℕ) (xs : List Made) → AreFrom rid xs → id < rid → find (λ request. id_of request == id) xs ≡ None
lower_missing rid id [] are lower = refl
lower_missing rid id (x ∷ xs) are lower =
    let other : (id_of x == id) ≡ false = grind (arith, nat_tests, are.0) in
    rw other (lower_missing (rid + 1) id xs are.1 (omega arith))

here_found : (rid k : ℕ) (xs : List Made) → AreFrom rid xs → find (λ request. id_of request == rid + k) xs ≡ slice_get xs k
here_found rid k [] are = refl
here_found rid zero (x ∷ xs) are =
    let same : (id_of x == rid + 0) ≡ true = grind (arith, nat_tests, are.0) in
    rw same refl
here_found rid (suc k) (x ∷ xs) are =
    let other : (id_of x == rid + suc k) ≡ false = grind (arith, nat_tests, are.0) in
    let same : rid + suc k ≡ rid + 1 + k = omega arith in
    rw other (ap (λ id. find (λ request. id_of request == id) xs) same ∙ here_found (rid + 1) k xs are.1)

get-append : {X : Type 0} (xs ys : List X) (k : ℕ) → slice_get (xs ++ ys) (length xs + k) ≡ slice_get ys k
get-append [] ys k =
    let same : 0 + k ≡ k = omega arith in
    ap (λ n. slice_get ys n) same
get-append (x ∷ xs) ys k =
    let same : length (x ∷ xs) + k ≡ suc (length xs + k) = omega arith in
    ap (λ n. slice_get (x ∷ xs ++ ys) n) same ∙ get-append xs ys k

-- Three cases of an id: no request was made with it; its request is of no more use, and was answered; or it is remembered.

pub record IsSpent (places : Places) (plain : PlainClient) (rid : ℕ) : Type 0 where
  pub made : is_some (request_at plain rid) ≡ true
  pub has_answer : is_some (taken plain rid) ≡ true
  pub slot : slot_at places rid ≡ None

pub record IsKept (places : Places) (plain : PlainClient) (rid : ℕ) : Type 0 where
  pub request : Made
  pub made : request_at plain rid ≡ Some request
  pub slot : slot_at places rid ≡ Some (slot_by plain.setup request (taken plain rid))
  -- it stands here among those that are remembered
  pub after : places.first ≤ rid
  pub within : rid - places.first < length places.slots

abbrev pub Found : Places → PlainClient → ℕ → Type 0
Found places plain rid = ((request_at plain rid ≡ None) × (slot_at places rid ≡ None)) ⊎ IsSpent places plain rid ⊎ IsKept places plain rid

spent_found : (c : PlainClient) (rid k : ℕ) (xs ys : List Made) → AreFrom rid (xs ++ ys) → All (λ request. goes_on c request ≡ true) xs → k < length xs
    → (x : Made) × (slice_get (xs ++ ys) k ≡ Some x) × (id_of x ≡ rid + k) × (goes_on c x ≡ true)
spent_found c rid k [] ys are on within = absurd (omega arith)
spent_found c rid zero (x ∷ xs) ys are on within = (x, refl, omega (arith, are.0), All-head (λ request. goes_on c request ≡ true) x xs on)
spent_found c rid (suc k) (x ∷ xs) ys are on within =
    let later = spent_found c (rid + 1) k xs ys are.1 (All-tail (λ request. goes_on c request ≡ true) x xs on) (omega arith) in
    (later.0, later.1, omega (arith, later.2), later.3)

kept_id : (rid k : ℕ) (xs : List Made) (x : Made) → AreFrom rid xs → slice_get xs k ≡ Some x → id_of x ≡ rid + k
kept_id rid k [] x are is = absurd (cc)
kept_id rid zero (y ∷ ys) x are is =
    let same : y ≡ x = cc in
    omega (arith, are.0, ap id_of same)
kept_id rid (suc k) (y ∷ ys) x are is = omega (arith, kept_id (rid + 1) k ys x are.1 is)

not_lower : (rid first : ℕ) (slots : List Slot) → first ≤ rid → slot_at (record { first = first; slots = slots }) rid ≡ slice_get slots (rid - first)
not_lower rid first slots above =
    let test : nat_lt rid first ≡ false = grind (arith, nat_tests, above) in
    rw test refl

is_lower : (rid first : ℕ) (slots : List Slot) → rid < first → slot_at (record { first = first; slots = slots }) rid ≡ None
is_lower rid first slots lower =
    let test : nat_lt rid first ≡ true = grind (arith, nat_tests, lower) in
    rw test refl

pub found : (places : Places) (inbox : List (ℕ × List ℕ)) (plain : PlainClient) (rid : ℕ) → HoldsRequests places inbox plain → Found places plain rid
found places inbox plain rid h = elim (cases_lt rid plain.setup.first) [
  | inl below ↦ inl (lower_missing plain.setup.first rid plain.requests h.ids below, is_lower rid places.first places.slots (omega (arith, h.first_is)))
  | inr above ↦ elim (cases_lt rid places.first) [
    | inl lower ↦
        let k : ℕ = rid - plain.setup.first in
        let x = spent_found plain plain.setup.first k h.spent h.rest (subst (λ (xs : List Made). AreFrom plain.setup.first xs) h.requests_are h.ids) h.went_on (omega (arith, h.first_is)) in
        let same : plain.setup.first + k ≡ rid = omega arith in
        let id : id_of x.0 ≡ rid = omega (arith, x.2) in
        let at : request_at plain rid ≡ Some x.0 =
        ap (λ n. request_at plain n) (sym same) ∙ here_found plain.setup.first k plain.requests h.ids ∙ ap (λ (xs : List Made). slice_get xs k) h.requests_are ∙ x.1 in
        inr (inl (record {
          made = ap is_some at;
          has_answer = ap (λ n. is_some (taken plain n)) (sym id) ∙ (went_on_slot plain x.0 x.3).3;
          slot = is_lower rid places.first places.slots lower;
        }))
    | inr here ↦
        let k : ℕ = rid - places.first in
        let same : plain.setup.first + (length h.spent + k) ≡ rid = omega (arith, h.first_is) in
        let at : request_at plain rid ≡ slice_get h.rest k =
        ap (λ n. request_at plain n) (sym same) ∙ here_found plain.setup.first (length h.spent + k) plain.requests h.ids
        ∙ ap (λ (xs : List Made). slice_get xs (length h.spent + k)) h.requests_are ∙ get-append h.spent h.rest k in
        let slot : slot_at places rid ≡ option_map (slot_of plain) (slice_get h.rest k) =
        not_lower rid places.first places.slots here ∙ ap (λ (xs : List Slot). slice_get xs k) h.slots_are ∙ slice_get-map (slot_of plain) h.rest k in
        let ids : AreFrom (plain.setup.first + length h.spent) h.rest =
        from-drop plain.setup.first h.spent h.rest (subst (λ (xs : List Made). AreFrom plain.setup.first xs) h.requests_are h.ids) in
        let by : (o : Option Made) → slice_get h.rest k ≡ o → Found places plain rid = λ o. elim o as (λ o. slice_get h.rest k ≡ o → Found places plain rid) [
          | None ↦ λ is. inl (at ∙ is, slot ∙ ap (option_map (slot_of plain)) is)
          | Some x ↦ λ is.
              let id : id_of x ≡ rid = omega (arith, kept_id (plain.setup.first + length h.spent) k h.rest x ids is, h.first_is) in
              inr (inr (record {
                request = x;
                made = at ∙ is;
                slot = slot ∙ ap (option_map (slot_of plain)) is ∙ ap (λ n. Some (slot_by plain.setup x (taken plain n))) id;
                after = here;
                within = omega (arith, slice_get_within h.rest k x is, ap length h.slots_are, length-map h.rest (slot_of plain));
              }))
        ] in
        by (slice_get h.rest k) refl
  ]
]

-- What a client tells of an id by what it remembers.

abbrev pub copy_in : Option Slot → Option (List ℕ)
copy_in None = None
copy_in (Some (Open body)) = Some body
copy_in (Some (Answered payloads terminal)) = None

abbrev pub open_in : Option Slot → Bool
open_in None = false
open_in (Some slot) = is_open slot

none_either_way : (b : Bool) → ◌≡◌ {A = Option (List ℕ)} None (if b then None else None)
none_either_way true = refl
none_either_way false = refl

pub copy_is : (places : Places) (inbox : List (ℕ × List ℕ)) (plain : PlainClient) (rid : ℕ) → HoldsRequests places inbox plain → copy_in (slot_at places rid) ≡ copy plain rid
copy_is places inbox plain rid h = by (found places inbox plain rid h)
  where
    slot_copy : (x : Made) (o : Option Taken) → copy_in (Some (slot_by plain.setup x o)) ≡ (if is_some o then None else Some (bytes_of x))
    slot_copy x None = refl
    slot_copy x (Some answer) = refl

    by : Found places plain rid → copy_in (slot_at places rid) ≡ (if is_some (taken plain rid) then None else option_map bytes_of (request_at plain rid))
    by (inl (missing, slot)) = ap copy_in slot ∙ none_either_way (is_some (taken plain rid)) ∙ ap (λ (o : Option Made). if is_some (taken plain rid) then None else option_map bytes_of o) (sym missing)
    by (inr (inl spent)) = ap copy_in spent.slot ∙ sym (ap (λ b. if b then None else option_map bytes_of (request_at plain rid)) spent.has_answer)
    by (inr (inr kept)) = ap copy_in kept.slot ∙ slot_copy kept.request (taken plain rid) ∙ ap (λ (o : Option Made). if is_some (taken plain rid) then None else option_map bytes_of o) (sym kept.made)

pub open_in_is : (places : Places) (inbox : List (ℕ × List ℕ)) (plain : PlainClient) (rid : ℕ) → HoldsRequests places inbox plain → is_some (request_at plain rid) ≡ true → open_in (slot_at places rid) ≡ not (is_some (taken plain rid))
open_in_is places inbox plain rid h made = by (found places inbox plain rid h)
  where
    slot_open : (x : Made) (o : Option Taken) → open_in (Some (slot_by plain.setup x o)) ≡ not (is_some o)
    slot_open x None = refl
    slot_open x (Some answer) = refl

    by : Found places plain rid → open_in (slot_at places rid) ≡ not (is_some (taken plain rid))
    by (inl (missing, slot)) =
        let none : is_some (request_at plain rid) ≡ false = ap is_some missing in
        absurd (cc)
    by (inr (inl spent)) = ap open_in spent.slot ∙ sym (ap not spent.has_answer)
    by (inr (inr kept)) = ap open_in kept.slot ∙ slot_open kept.request (taken plain rid)

-- A request was made with each id from the first up to the next, and with no other.

some-slice_get : {X : Type 0} (xs : List X) (k : ℕ) → k < length xs → is_some (slice_get xs k) ≡ true
some-slice_get [] k within = absurd (omega arith)
some-slice_get (x ∷ xs) zero within = refl
some-slice_get (x ∷ xs) (suc k) within = some-slice_get xs k (omega arith)

pub made_is : (plain : PlainClient) (rid : ℕ) → AreFrom plain.setup.first plain.requests → plain.setup.first ≤ rid → rid < next_id plain → is_some (request_at plain rid) ≡ true
made_is plain rid ids low high =
    let same : plain.setup.first + (rid - plain.setup.first) ≡ rid = omega arith in
    ap (λ n. is_some (request_at plain n)) (sym same) ∙ ap is_some (here_found plain.setup.first (rid - plain.setup.first) plain.requests ids)
    ∙ some-slice_get plain.requests (rid - plain.setup.first) (omega arith)

pub unmade_low : (plain : PlainClient) (rid : ℕ) → AreFrom plain.setup.first plain.requests → rid < plain.setup.first → is_some (request_at plain rid) ≡ false
unmade_low plain rid ids low = ap is_some (lower_missing plain.setup.first rid plain.requests ids low)

pub unmade_high : (plain : PlainClient) (rid : ℕ) → AreFrom plain.setup.first plain.requests → next_id plain ≤ rid → is_some (request_at plain rid) ≡ false
unmade_high plain rid ids high =
    let same : plain.setup.first + (rid - plain.setup.first) ≡ rid = omega arith in
    ap (λ n. is_some (request_at plain n)) (sym same) ∙ ap is_some (here_found plain.setup.first (rid - plain.setup.first) plain.requests ids)
    ∙ ap is_some (slice_get_past plain.requests (rid - plain.setup.first) (omega arith))

-- What may be handed out is what is left of the spent requests, and what comes next.

goes_past : (c : PlainClient) (xs ys : List Made) → All (λ request. goes_on c request ≡ true) xs → take_while (goes_on c) (xs ++ ys) ≡ xs ++ take_while (goes_on c) ys
goes_past c [] ys on = refl
goes_past c (x ∷ xs) ys on =
    take_while-cons (goes_on c) x (xs ++ ys) ∙ ap (λ b. cond b (x ∷ take_while (goes_on c) (xs ++ ys)) []) (All-head (λ request. goes_on c request ≡ true) x xs on)
    ∙ ap (λ (rest : List Made). x ∷ rest) (goes_past c xs ys (All-tail (λ request. goes_on c request ≡ true) x xs on))

stops_here : (c : PlainClient) (xs : List Made) → comes_next (map (slot_of c) xs) ≡ false → take_while (goes_on c) xs ≡ []
stops_here c [] stays = refl
stops_here c (x ∷ xs) stays =
    take_while-cons (goes_on c) x xs ∙ ap (λ b. cond b (x ∷ take_while (goes_on c) xs) []) (stays_slot c x (map (slot_of c) xs) stays)

pub deliverable_is : {places : Places} {inbox : List (ℕ × List ℕ)} {plain : PlainClient} → (h : HoldsRequests places inbox plain)
    → deliverable plain ≡ flat_map (payloads_for plain) h.spent ++ flat_map (payloads_for plain) (take_while (goes_on plain) h.rest)
deliverable_is {plain = plain} h =
    ap (λ (xs : List Made). flat_map (payloads_for plain) (take_while (goes_on plain) xs)) h.requests_are
    ∙ ap (λ (xs : List Made). flat_map (payloads_for plain) xs) (goes_past plain h.spent h.rest h.went_on)
    ∙ flat_map-append (payloads_for plain) h.spent (take_while (goes_on plain) h.rest)

get-drop : {X : Type 0} (n : ℕ) (xs : List X) → slice_get (drop n xs) 0 ≡ slice_get xs n
get-drop zero xs = refl
get-drop (suc n) [] = refl
get-drop (suc n) (x ∷ xs) = get-drop n xs

get-front : {X : Type 0} (xs ys : List X) (n : ℕ) → n < length xs → slice_get (xs ++ ys) n ≡ slice_get xs n
get-front [] ys n within = absurd (omega arith)
get-front (x ∷ xs) ys zero within = refl
get-front (x ∷ xs) ys (suc n) within = get-front xs ys n (omega arith)

-- the first payload that is left is the next one
pub payload_is : {places : Places} {inbox : List (ℕ × List ℕ)} {plain : PlainClient} → HoldsRequests places inbox plain → (inbox ≡ [] → comes_next places.slots ≡ false)
    → slice_get inbox 0 ≡ slice_get (deliverable plain) plain.handed_out
payload_is {places = places} {inbox = inbox} {plain = plain} h stops = elim (cases_lt plain.handed_out (length left)) [
  | inl some ↦
      ap (λ (xs : List (ℕ × List ℕ)). slice_get xs 0) h.inbox_is ∙ get-drop plain.handed_out left
      ∙ sym (ap (λ (xs : List (ℕ × List ℕ)). slice_get xs plain.handed_out) (deliverable_is h) ∙ get-front left (flat_map (payloads_for plain) (take_while (goes_on plain) h.rest)) plain.handed_out some)
  | inr all ↦
      let none : inbox ≡ [] = h.inbox_is ∙ drop_all plain.handed_out left all in
      let rest : take_while (goes_on plain) h.rest ≡ [] = stops_here plain h.rest (ap comes_next (sym h.slots_are) ∙ stops none) in
      let whole : deliverable plain ≡ left = deliverable_is h ∙ ap (λ (xs : List Made). left ++ flat_map (payloads_for plain) xs) rest ∙ append-nil left in
      ap (λ (xs : List (ℕ × List ℕ)). slice_get xs 0) none ∙ sym (ap (λ (xs : List (ℕ × List ℕ)). slice_get xs plain.handed_out) whole ∙ slice_get_past left plain.handed_out all)
]
  where
    left : List (ℕ × List ℕ)
    left = flat_map (payloads_for plain) h.spent

pub made_test : (plain : PlainClient) (rid next : ℕ) → AreFrom plain.setup.first plain.requests → plain.setup.first ≤ rid → next ≡ next_id plain → nat_lt rid next ≡ is_some (request_at plain rid)
made_test plain rid next ids low is = elim (cases_lt rid next) [
  | inl below ↦
      let test : nat_lt rid next ≡ true = grind (arith, nat_tests, below) in
      test ∙ sym (made_is plain rid ids low (omega (arith, is)))
  | inr above ↦
      let test : nat_lt rid next ≡ false = grind (arith, nat_tests, above) in
      test ∙ sym (unmade_high plain rid ids (omega (arith, is)))
]
