-- The requests of a client: those that are of no more use, and the others.
use Rattle.std.proofs.Common.{◌≡◌, ℕ, zero, suc, ◌+◌, ◌-◌, ◌≤◌, Bool, true, false, List, [], ◌∷◌, ◌++◌, map, length, drop, Some, None, refl, sym, ◌∙◌, ap, subst, arith, length-append, append_assoc, append-nil}
use Rattle.std.specs.Prelude.{Option, ◌==◌, not, is_some}
use Rattle.std.specs.List.{All, flat_map}
use Rattle.std.proofs.lemmas.Bool.Decides.{nat_tests}
use Rattle.std.proofs.lemmas.Grind.{flat_map-append}
use Rattle.std.proofs.lemmas.List.Elements.{All-append, All-nil, All-cons}
use Rattle.bosh_client.specs.declared.exchanges.Slot.{Slot}
use Rattle.bosh_client.specs.declared.exchanges.Slot.TheVariants.{Answered}
use Rattle.bosh_client.specs.Places.{Places, comes_next}
use Rattle.bosh_client.specs.PlainClient.{Made, Taken, PlainClient, goes_on, id_of, lies_on, on_stream, payloads_for, taken}
use Rattle.bosh_client.specs.StandsFor.{AreFrom, HoldsRequests, slot_by, slot_of}

-- Ids in order.

pub from-push : (rid : ℕ) (xs : List Made) (x : Made) → AreFrom rid xs → id_of x ≡ rid + length xs → AreFrom rid (xs ++ x ∷ [])
from-push rid [] x are is = (omega (arith, is), tt)
from-push rid (y ∷ ys) x are is = (are.0, from-push (rid + 1) ys x are.1 (omega (arith, is)))

pub from-drop : (rid : ℕ) (xs ys : List Made) → AreFrom rid (xs ++ ys) → AreFrom (rid + length xs) ys
from-drop rid [] ys are =
    let same : rid ≡ rid + 0 = omega arith in
    subst (λ (n : ℕ). AreFrom n ys) same are
from-drop rid (x ∷ xs) ys are =
    let same : rid + 1 + length xs ≡ rid + length (x ∷ xs) = omega arith in
    subst (λ (n : ℕ). AreFrom n ys) same (from-drop (rid + 1) xs ys are.1)

-- What is known of an answer.

-- a request whose session goes on after it has an answer, which isn't terminal
pub went_on_slot : (c : PlainClient) (x : Made) → goes_on c x ≡ true → (payloads : List (ℕ × List ℕ)) × (slot_of c x ≡ Answered payloads false) × (payloads_for c x ≡ payloads) × (is_some (taken c (id_of x)) ≡ true)
went_on_slot c x on = by (taken c (id_of x)) on
  where
    open_end : (answer : Taken) → not (is_some answer.tells.end) ≡ true → is_some answer.tells.end ≡ false
    open_end answer is = elim (is_some answer.tells.end) as (λ b. not b ≡ true → b ≡ false) [ true ↦ λ h. absurd (cc) | false ↦ λ h. refl ] is

    by : (o : Option Taken) → (elim o as (λ _. Bool) [ None ↦ false | Some answer ↦ not (is_some answer.tells.end) ]) ≡ true
        → (payloads : List (ℕ × List ℕ)) × (slot_by c.setup x o ≡ Answered payloads false) × ((elim o as (λ _. List (ℕ × List ℕ)) [ None ↦ [] | Some answer ↦ on_stream (lies_on c.setup (id_of x) answer.tells) answer.tells.payloads ]) ≡ payloads) × (is_some o ≡ true)
    by None on = absurd (cc)
    by (Some answer) on =
        let payloads = on_stream (lies_on c.setup (id_of x) answer.tells) answer.tells.payloads in
        (payloads, ap (λ b. Answered payloads b) (open_end answer on), refl, refl)

-- a request that is remembered with an answer that isn't terminal has it
pub answered_slot : (c : PlainClient) (x : Made) (payloads : List (ℕ × List ℕ)) → Answered payloads false ≡ slot_of c x → (goes_on c x ≡ true) × (payloads_for c x ≡ payloads)
answered_slot c x payloads slot = by (taken c (id_of x)) slot
  where
    by : (o : Option Taken) → Answered payloads false ≡ slot_by c.setup x o
        → ((elim o as (λ _. Bool) [ None ↦ false | Some answer ↦ not (is_some answer.tells.end) ]) ≡ true) × ((elim o as (λ _. List (ℕ × List ℕ)) [ None ↦ [] | Some answer ↦ on_stream (lies_on c.setup (id_of x) answer.tells) answer.tells.payloads ]) ≡ payloads)
    by None slot = absurd (cc)
    by (Some answer) slot =
        let end : false ≡ is_some answer.tells.end = cc in
        (ap not (sym end), cc)

-- one of which nothing comes next has none, or a terminal one
pub stays_slot : (c : PlainClient) (x : Made) (slots : List Slot) → comes_next (slot_of c x ∷ slots) ≡ false → goes_on c x ≡ false
stays_slot c x slots stays = by (taken c (id_of x)) stays
  where
    by : (o : Option Taken) → comes_next (slot_by c.setup x o ∷ slots) ≡ false → (elim o as (λ _. Bool) [ None ↦ false | Some answer ↦ not (is_some answer.tells.end) ]) ≡ false
    by None stays = refl
    by (Some answer) stays = stays

-- The first of the others is of no more use once its payloads are those to be handed out.

drop-all : {X : Type 0} (n : ℕ) (xs : List X) → [] ≡ drop n xs → n ≤ length xs → n ≡ length xs
drop-all zero [] none within = refl
drop-all zero (x ∷ xs) none within = absurd (cc)
drop-all (suc n) [] none within = absurd (omega arith)
drop-all (suc n) (x ∷ xs) none within = omega (arith, drop-all n xs none (omega arith))

drop-past : {X : Type 0} (n : ℕ) (xs ys : List X) → n ≡ length xs → ys ≡ drop n (xs ++ ys)
drop-past zero [] ys is = refl
drop-past zero (x ∷ xs) ys is = absurd (omega arith)
drop-past (suc n) [] ys is = absurd (omega arith)
drop-past (suc n) (x ∷ xs) ys is = drop-past n xs ys (omega arith)

All-push : {X : Type 0} (P : X → Type 0) (xs : List X) (x : X) → All P xs → P x → All P (xs ++ x ∷ [])
All-push P xs x are is = All-append P xs (x ∷ []) are (All-cons P x [] is (All-nil P))

pub moved : (places next : Places) (payloads : List (ℕ × List ℕ)) (plain : PlainClient) → places ≡ record { first = next.first - 1; slots = Answered payloads false ∷ next.slots } → next.first ≡ places.first + 1
    → HoldsRequests places [] plain → HoldsRequests next payloads plain
moved places next payloads plain is first h = by h.rest h.requests_are (sym (ap (λ (p : Places). p.slots) is) ∙ h.slots_are)
  where
    by : (rest : List Made) → plain.requests ≡ h.spent ++ rest → Answered payloads false ∷ next.slots ≡ map (slot_of plain) rest → HoldsRequests next payloads plain
    by [] requests slots = absurd (cc)
    by (x ∷ xs) requests slots =
        let slot : Answered payloads false ≡ slot_of plain x = cc in
        let others : next.slots ≡ map (slot_of plain) xs = cc in
        let own = answered_slot plain x payloads slot in
        let handed = drop-all plain.handed_out (flat_map (payloads_for plain) h.spent) h.inbox_is h.within in
        let more : flat_map (payloads_for plain) (h.spent ++ x ∷ []) ≡ flat_map (payloads_for plain) h.spent ++ payloads =
        flat_map-append (payloads_for plain) h.spent (x ∷ []) ∙ ap (λ ps. flat_map (payloads_for plain) h.spent ++ ps) (append-nil (payloads_for plain x) ∙ own.1) in
        record {
          spent = h.spent ++ x ∷ [];
          rest = xs;
          requests_are = requests ∙ sym (append_assoc h.spent (x ∷ []) xs);
          ids = h.ids;
          first_is = omega (arith, first, h.first_is, length-append h.spent (x ∷ []));
          went_on = All-push (λ request. goes_on plain request ≡ true) h.spent x h.went_on own.0;
          slots_are = others;
          within = omega (arith, h.within, ap length more, length-append (flat_map (payloads_for plain) h.spent) payloads);
          inbox_is = drop-past plain.handed_out (flat_map (payloads_for plain) h.spent) payloads handed ∙ ap (λ ps. drop plain.handed_out ps) (sym more);
          known = h.known;
        }

pub none_left : {X : Type 0} (xs : List X) → (length xs == 0) ≡ true → xs ≡ []
none_left [] is = refl
none_left (x ∷ xs) is = absurd (grind (arith, nat_tests))
