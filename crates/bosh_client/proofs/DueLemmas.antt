-- When a request of a client is due, and what its keys are after it.
use Rattle.std.proofs.Common.{◌≡◌, ℕ, ◌+◌, ◌-◌, ◌*◌, ◌/◌, ◌%◌, ◌<◌, ◌≤◌, ◌^◌, inl, inr, Bool, true, false, ◌&&◌, ◌||◌, List, [], ◌∷◌, ◌++◌, length, Some, None, refl, sym, ◌∙◌, ap, subst, arith}
use Rattle.std.specs.Prelude.{Option, ◌==◌, nat_lt, is_some, slice_get, if◌then◌else◌}
use Rattle.std.specs.List.{All}
use Rattle.std.specs.Option.{option_map}
use Rattle.std.proofs.Math.Nat.{div-le_self, mod-lt}
use Rattle.std.proofs.lemmas.Bool.{cases_lt}
use Rattle.std.proofs.lemmas.Bool.Decides.{nat_tests}
use Rattle.std.proofs.lemmas.List.{length-map}
use Rattle.std.proofs.lemmas.Nat.{div-add-mod', div-mul-add, mod-mul-add}
use Rattle.std.proofs.lemmas.List.Elements.{All-head, All-tail}
use Rattle.bosh_types.specs.ById.{at_id}
use Rattle.bosh_client.specs.declared.agreed.Agreed.{Agreed}
use Rattle.bosh_client.specs.declared.outgoing.Outgoing.{Outgoing}
use Rattle.bosh_client.specs.declared.setup.ClientSetup.{ClientSetup}
use Rattle.bosh_client.specs.KeyPlace.{KeyPlace, keys_turned, next_place, sequence_after}
use Rattle.bosh_client.specs.Machine.{has_rested, is_due_of, most_open, open_requests}
use Rattle.bosh_client.specs.Places.{Places}
use Rattle.bosh_client.specs.PlainClient.{Made, Taken, PlainClient, goes_on, id_of, next_id, taken}
use Rattle.bosh_client.specs.Requests.{agreed, agreed_by}
use Rattle.bosh_client.specs.Setup.{is_setup}
use Rattle.bosh_client.specs.StandsFor.{AreFrom, HoldsKeys, HoldsRequests, place_of, slot_of}
use Rattle.bosh_client.proofs.RequestLemmas.{went_on_slot}
use Rattle.bosh_client.proofs.SetupLemmas.{keys_range}

pub due_first : (plain : PlainClient) (a : Agreed) (now : ℕ) (queue : List Outgoing) (item : Outgoing) → slice_get queue 0 ≡ Some item → is_due_of plain a queue now ≡ nat_lt (open_requests plain) (most_open a item)
due_first plain a now [] item first = absurd (cc)
due_first plain a now (x ∷ xs) item first =
    let same : x ≡ item = cc in
    ap (λ (i : Outgoing). nat_lt (open_requests plain) (most_open a i)) same

pub due_empty : (plain : PlainClient) (a : Agreed) (now : ℕ) (queue : List Outgoing) → slice_get queue 0 ≡ None → is_due_of plain a queue now ≡ ((open_requests plain == 0) && has_rested plain a now)
due_empty plain a now [] none = refl
due_empty plain a now (x ∷ xs) none = absurd (cc)

-- before the creation's answer no request is of no more use
pub unspent : {places : Places} {inbox : List (ℕ × List ℕ)} {plain : PlainClient} → HoldsRequests places inbox plain → agreed plain ≡ None → length places.slots ≡ length plain.requests
unspent {places = places} {plain = plain} h none = by h.spent h.requests_are h.went_on
  where
    never : (o : Option Taken) → is_some o ≡ true → option_map (λ (t : Taken). agreed_by plain.setup t.tells) o ≡ None → ⊥
    never None has absent = cc
    never (Some t) has absent = cc

    by : (spent : List Made) → plain.requests ≡ spent ++ h.rest → All (λ request. goes_on plain request ≡ true) spent → length places.slots ≡ length plain.requests
    by [] requests on = ap length h.slots_are ∙ length-map h.rest (slot_of plain) ∙ sym (ap length requests)
    by (x ∷ xs) requests on =
        let id : id_of x ≡ plain.setup.first = (subst (λ (all : List Made). AreFrom plain.setup.first all) requests h.ids).0 in
        let has : is_some (taken plain plain.setup.first) ≡ true =
        ap (λ n. is_some (taken plain n)) (sym id) ∙ (went_on_slot plain x (All-head (λ request. goes_on plain request ≡ true) x xs on)).3 in
        absurd (never (taken plain plain.setup.first) has none)

pub known_lower : (answers : List (ℕ × Taken)) (rid n : ℕ) (t : Taken) → at_id answers rid ≡ Some t → All (λ (a : ℕ × Taken). a.0 < n) answers → rid < n
known_lower [] rid n t has known = absurd (cc)
known_lower (answer ∷ answers) rid n t has known =
    by (answer.0 == rid) refl has (λ later. known_lower answers rid n t later (All-tail (λ (a : ℕ × Taken). a.0 < n) answer answers known))
  where
    by : (b : Bool) → (answer.0 == rid) ≡ b → (if b then Some answer.1 else at_id answers rid) ≡ Some t → (at_id answers rid ≡ Some t → rid < n) → rid < n
    by true is has rest =
        let lower : answer.0 < n = All-head (λ (a : ℕ × Taken). a.0 < n) answer answers known in
        let same : answer.0 ≡ rid = grind (arith, nat_tests) in
        omega arith
    by false is has rest = rest has

pub some_is : {X : Type 0} (o : Option X) → is_some o ≡ true → (x : X) × (o ≡ Some x)
some_is None is = absurd (cc)
some_is (Some x) is = (x, refl)

pub or_neither : (a b : Bool) → a ≡ false → b ≡ false → (a || b) ≡ false
or_neither true b first second = first
or_neither false b first second = second

-- The key after a key.

module _ (seed : List ℕ) (keys later : ℕ) where
  sequence_goes_on : (m q r : ℕ) → r + 1 < m → later ≡ q * m + r → (later + 1) / m ≡ q
  sequence_goes_on m q r within is = ap (λ n. n / m) (omega (arith, is)) ∙ div-mul-add q m (r + 1) within

  number_goes_on : (m q r : ℕ) → r + 1 < m → later ≡ q * m + r → (later + 1) % m ≡ r + 1
  number_goes_on m q r within is = ap (λ n. n % m) (omega (arith, is)) ∙ mod-mul-add q m (r + 1) within

  sequence_begins : (m q r : ℕ) → r + 1 ≡ m → later ≡ q * m + r → (later + 1) / m ≡ q + 1
  sequence_begins m q r last is =
      let whole : later + 1 ≡ (q + 1) * m + 0 = omega (arith, is, last) in
      ap (λ n. n / m) whole ∙ div-mul-add (q + 1) m 0 (omega arith)

  number_begins : (m q r : ℕ) → r + 1 ≡ m → later ≡ q * m + r → (later + 1) % m ≡ 0
  number_begins m q r last is =
      let whole : later + 1 ≡ (q + 1) * m + 0 = omega (arith, is, last) in
      ap (λ n. n % m) whole ∙ mod-mul-add (q + 1) m 0 (omega arith)

place_step : (setup : ClientSetup) (later : ℕ) → 2 ≤ setup.keys → later + 1 < 2 ^ 64 → next_place (place_of setup later) ≡ place_of setup (later + 1)
place_step setup later some small = elim (cases_lt (r + 1) m) [
  | inl below ↦
      let test : (m - r == 1) ≡ false = grind (arith, nat_tests, below) in
      let left : m - r - 1 ≡ m - (r + 1) = omega arith in
      step_no test ∙ same q (m - r - 1) (sym (sequence_goes_on setup.seed setup.keys later m q r below is)) (left ∙ ap (λ n. m - n) (sym (number_goes_on setup.seed setup.keys later m q r below is)))
  | inr past ↦
      let last : r + 1 ≡ m = omega (arith, past, rest) in
      let test : (m - r == 1) ≡ true = grind (arith, nat_tests, last) in
      let next : sequence_after q ≡ q + 1 = omega (arith, small, div-le_self later m) in
      let whole : m ≡ m - 0 = omega arith in
      step_yes test
      ∙ same (sequence_after q) m (next ∙ sym (sequence_begins setup.seed setup.keys later m q r last is)) (whole ∙ ap (λ n. m - n) (sym (number_begins setup.seed setup.keys later m q r last is)))
]
  where
    m : ℕ
    m = setup.keys - 1

    q : ℕ
    q = later / m

    r : ℕ
    r = later % m

    rest : r < m
    rest = mod-lt later (omega (arith, some))

    is : later ≡ q * m + r
    is = sym (div-add-mod' later m)

    same : (sequence number : ℕ) → sequence ≡ (later + 1) / m → number ≡ m - (later + 1) % m
        → (let place : KeyPlace = record { seed = setup.seed; keys = setup.keys; sequence = sequence; number = number } in place) ≡ place_of setup (later + 1)
    same sequence number first second = λ i. record { seed = setup.seed; keys = setup.keys; sequence = first i; number = second i }

    step_no : (m - r == 1) ≡ false → next_place (place_of setup later) ≡ record (place_of setup later) { number = m - r - 1 }
    step_no test = ap (λ b. if b then record (place_of setup later) { sequence = sequence_after q; number = m } else record (place_of setup later) { number = m - r - 1 }) test

    step_yes : (m - r == 1) ≡ true → next_place (place_of setup later) ≡ record (place_of setup later) { sequence = sequence_after q; number = m }
    step_yes test = ap (λ b. if b then record (place_of setup later) { sequence = sequence_after q; number = m } else record (place_of setup later) { number = m - r - 1 }) test

pub keys_step : (setup : ClientSetup) (later : ℕ) (keys : Option KeyPlace) → is_setup setup ≡ true → later + 1 < 2 ^ 64 → HoldsKeys keys setup later → HoldsKeys (keys_turned keys) setup (later + 1)
keys_step setup later None is small holds = holds
keys_step setup later (Some place) is small holds = (holds.0, ap next_place holds.1 ∙ place_step setup later (keys_range setup is holds.0).0 small)

-- What a request acknowledges.

pub ack_absent : (acks test : Bool) (n : ℕ) → test ≡ false → None ≡ (if acks && test then Some n else None)
ack_absent true true n is = absurd (cc)
ack_absent true false n is = refl
ack_absent false test n is = refl

pub ack_there : (acks test : Bool) (n m : ℕ) → acks ≡ true → test ≡ true → n ≡ m → Some n ≡ (if acks && test then Some m else None)
ack_there true true n m both is same = ap Some same
ack_there true false n m both is same = absurd (cc)
ack_there false test n m both is same = absurd (cc)

pub later_some : {places : Places} {inbox : List (ℕ × List ℕ)} {plain : PlainClient} (a : Agreed) → HoldsRequests places inbox plain → agreed plain ≡ Some a → 1 ≤ length plain.requests
later_some {plain = plain} a h is = by (taken plain plain.setup.first) refl is
  where
    by : (o : Option Taken) → taken plain plain.setup.first ≡ o → option_map (λ (t : Taken). agreed_by plain.setup t.tells) o ≡ Some a → 1 ≤ length plain.requests
    by None has is = absurd (cc)
    by (Some t) has is = omega (arith, known_lower plain.answers plain.setup.first (next_id plain) t has h.known)

pub same_some : {X : Type 0} {x y : X} → Some x ≡ Some y → x ≡ y
same_some is = cc
