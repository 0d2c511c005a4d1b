-- Whether the client took an answer, and whether all events come in time.
use Rattle.std.proofs.Common.{◌≡◌, ◌↔◌, Bor, ℕ, zero, suc, ◌+◌, ◌<◌, ◌≤◌, ◌==◌, ◌&&◌, Bool, true, false, not, cond, List, [], ◌∷◌, ◌++◌, length, drop, get_or, add-one, refl, sym, ◌∙◌, ap, subst, arith, if◌then◌else◌, inl, inr}
use Rattle.std.specs.Prelude.{Option, None, Some, All, IfSome, IsTrue, is_none, is_some}
use Rattle.std.specs.Option.{option_copied, option_map}
use Rattle.std.proofs.Math.Seq.{drop-cons}
use Rattle.std.proofs.lemmas.Bool.{cases_lt}
use Rattle.std.proofs.lemmas.Bool.Decides.{nat_tests}
use Rattle.std.proofs.lemmas.List.{length-map}
use Rattle.std.proofs.lemmas.List.Elements.{All-append, All-cons, All-head, All-nil, All-tail}
use Rattle.bosh_types.specs.ById.{at_id}
use Rattle.bosh_client.specs.declared.client.Client.{Client}
use Rattle.bosh_client.specs.declared.setup.ClientSetup.{ClientSetup}
use Rattle.bosh_client.specs.Machine.{copy}
use Rattle.bosh_client.specs.PlainClient.{Made, PlainClient, Taken, bytes_of, next_id, request_at, taken}
use Rattle.bosh_client.specs.StandsFor.{StandsFor}
use Rattle.bosh_client.proofs.FoundLemmas.{made_is}
use Rattle.world_laws.specs.declared.event.WorldEvent.{WorldEvent}
use Rattle.world_laws.specs.Setup.{IsAllowed}
use Rattle.world_laws.specs.Sound.{IsSound}
use Rattle.world_laws.specs.Steps.{after, step}
use Rattle.world_laws.specs.Timely.{IsTimely, is_in_time, is_timely}
use Rattle.world_laws.specs.World.{PlainWorld}
use Rattle.world_laws.proofs.StoodLemmas.{answers_first}
use Rattle.two_ends.specs.declared.world.World.{World}
use Rattle.two_ends.specs.Asked.{AreFromFirst}
use Rattle.two_ends.specs.Worlds.{IsRest, IsWorld}
use Rattle.two_ends.proofs.CopyLemmas.{client_ids}

-- What the client took.

known_ids : (client : Client) (c : PlainClient) → StandsFor client c → All (λ (answer : ℕ × Taken). answer.0 < next_id c) c.answers
unfolding StandsFor
known_ids client c is = (is.requests).known

not_among : (answers : List (ℕ × Taken)) (rid first next : ℕ) → All (λ (answer : ℕ × Taken). first ≤ answer.0) answers → All (λ (answer : ℕ × Taken). answer.0 < next) answers
    → (first ≤ rid → next ≤ rid) → at_id answers rid ≡ None
not_among [] rid first next low high past = refl
not_among (answer ∷ answers) rid first next low high past =
    elsewhere answer.0 (at_id answers rid) (All-head (λ (a : ℕ × Taken). first ≤ a.0) answer answers low) (All-head (λ (a : ℕ × Taken). a.0 < next) answer answers high)
    ∙ not_among answers rid first next (All-tail (λ (a : ℕ × Taken). first ≤ a.0) answer answers low) (All-tail (λ (a : ℕ × Taken). a.0 < next) answer answers high) past
  where
    elsewhere : (id : ℕ) (rest : Option Taken) → first ≤ id → id < next → cond (id == rid) (Some answer.1) rest ≡ rest
    elsewhere id rest above under = elim (cases_lt rid first) [
      | inl below ↦ grind (arith, nat_tests, below, above)
      | inr within ↦
          let far = past within in
          grind (arith, nat_tests, far, under)
    ]

sent_count : (world : World) (w : PlainWorld) → IsRest world w → length world.sent.items ≡ length w.client.requests
sent_count world w is = ap length is.sent_are ∙ length-map w.client.requests bytes_of

-- what was never made was not answered
pub unmade_untaken : (world : World) (w : PlainWorld) → IsWorld world w → AreFromFirst w.client → (rid : ℕ) → (world.first ≤ rid → world.first + length world.sent.items ≤ rid) → false ≡ is_some (taken w.client rid)
unmade_untaken world w is from rid past =
    let rest = is.plain.rest in
    let none = not_among w.client.answers rid w.client.setup.first (next_id w.client) from (known_ids world.client w.client rest.client)
    (λ low. omega (arith, past (omega (arith, rest.first_is, low)), rest.first_is, sent_count world w rest)) in
    sym (ap is_some none)

-- of what was made there is a copy exactly where it was not answered
copy_tells : (c : PlainClient) (rid : ℕ) → is_some (request_at c rid) ≡ true → is_none (copy c rid) ≡ is_some (taken c rid)
copy_tells c rid made = by (is_some (taken c rid)) (request_at c rid) made
  where
    by : (b : Bool) (o : Option Made) → is_some o ≡ true → is_none (if b then None else option_map bytes_of o) ≡ b
    by true o made = refl
    by false None made = absurd (cc)
    by false (Some request) made = refl

pub made_taken : (world : World) (w : PlainWorld) → IsWorld world w → (rid place : ℕ) → rid ≡ world.first + place → place < length world.sent.items → is_none (copy w.client rid) ≡ is_some (taken w.client rid)
made_taken world w is rid place there within =
    let rest = is.plain.rest in
    copy_tells w.client rid
    (made_is w.client rid (client_ids world.client w.client rest.client) (omega (arith, there, rest.first_is)) (omega (arith, there, rest.first_is, within, sent_count world w rest)))

-- All events.

after_push : (w : PlainWorld) (done : List WorldEvent) (event : WorldEvent) → after w (done ++ event ∷ []) ≡ (step (after w done) event).after
after_push w [] event = refl
after_push w (first ∷ done) event = after_push (step w first).after done event

-- these events came in time, and whether all do is whether the rest does
pub record IsSoFar (world : World) (w : PlainWorld) (events rest : List WorldEvent) : Type 0 where
  pub done : List WorldEvent
  pub world_is : IsWorld world (after w done)
  pub allowed : All IsAllowed done
  pub same : is_timely w events ≡ is_timely (after w done) rest

pub so_far_none : (world : World) (w : PlainWorld) (events : List WorldEvent) → IsWorld world w → IsSoFar world w events events
so_far_none world w events is = record { done = []; world_is = is; allowed = All-nil IsAllowed; same = refl }

pub so_far_more : (world next : World) (w : PlainWorld) (events rest : List WorldEvent) (event : WorldEvent) → IsAllowed event → (on : IsSoFar world w events (event ∷ rest)) → is_in_time (after w on.done) event ≡ true
    → IsWorld next (step (after w on.done) event).after → IsSoFar next w events rest
so_far_more world next w events rest event allowed on early is = record {
  done = on.done ++ event ∷ [];
  world_is = subst (λ (v : PlainWorld). IsWorld next v) (sym (after_push w on.done event)) is;
  allowed = All-append IsAllowed on.done (event ∷ []) on.allowed (All-cons IsAllowed event [] allowed (All-nil IsAllowed));
  same =
      on.same ∙ ap (λ (b : Bool). b && is_timely (step (after w on.done) event).after rest) early
      ∙ ap (λ (v : PlainWorld). is_timely v rest) (sym (after_push w on.done event));
}

pub so_far_late : (world : World) (w : PlainWorld) (events rest : List WorldEvent) (event : WorldEvent) → (on : IsSoFar world w events (event ∷ rest)) → is_in_time (after w on.done) event ≡ false → false ≡ is_timely w events
so_far_late world w events rest event on late = sym (on.same ∙ ap (λ (b : Bool). b && is_timely (step (after w on.done) event).after rest) late)

pub so_far_all : (world : World) (w : PlainWorld) (events : List WorldEvent) → IsSoFar world w events [] → true ≡ is_timely w events
so_far_all world w events on = sym on.same

-- the event at a place, and those after it
pub event_place : (events : List WorldEvent) (i : ℕ) (first : WorldEvent) → i < length events → first ≡ get_or events i first → drop i events ≡ first ∷ drop (i + 1) events
event_place events i first within is =
    drop-cons events i first within
    ∙ ap (λ p. p ∷ drop (suc i) events) (sym is)
    ∙ ap (λ next. first ∷ drop next events) (sym (add-one i))

pub none_past : (events : List WorldEvent) (n : ℕ) → length events ≤ n → drop n events ≡ []
none_past [] zero all = refl
none_past [] (suc n) all = refl
none_past (first ∷ events) zero all = absurd (omega arith)
none_past (first ∷ events) (suc n) all = none_past events n (omega arith)

-- What the calls say.

pub from_first : (setup : ClientSetup) (w : PlainWorld) → IsSound setup w → AreFromFirst w.client
from_first setup w h = answers_first setup (h.begins.first).0 w.client h.client

-- the place that a look-up found
pub some_place : (o : Option ℕ) (P : ℕ → Type 0) → is_some o ≡ true → IfSome o P → (place : ℕ) × P place
some_place None P has is = absurd (cc)
some_place (Some place) P has is = (place, is)

pub no_place : (o : Option ℕ) → is_some o ≡ false → o ≡ None
no_place None is = refl
no_place (Some place) is = absurd (cc)

pub no_copy : (o : Option (Bor (List ℕ))) (p : Option (List ℕ)) (b : Bool) → is_some o ≡ not b → option_copied o ≡ p → b ≡ is_none p
no_copy None p true none same = ap is_none same
no_copy None p false none same = absurd (cc)
no_copy (Some x) p true none same = absurd (cc)
no_copy (Some x) p false none same = ap is_none same

-- what equals the test says whether they are timely
pub tells_timely : (answer : Bool) (w : PlainWorld) (events : List WorldEvent) → answer ≡ is_timely w events → ((is_timely w events ≡ true) ↔ IsTimely w events) → IsTrue answer ↔ IsTimely w events
tells_timely answer w events same test = (λ is. test.0 (sym same ∙ is), λ is. same ∙ test.1 is)
