-- How many of the first requests have an answer.
use Rattle.std.proofs.Common.{◌≡◌, ℕ, zero, suc, ◌+◌, ◌<◌, ◌≤◌, Bool, true, false, List, [], ◌∷◌, ◌++◌, length, get_or, set, refl, ap, arith}
use Rattle.bosh_client.specs.declared.exchanges.Slot.{Slot}
use Rattle.bosh_client.specs.declared.exchanges.Slot.TheVariants.{Answered, Open}
use Rattle.bosh_client.specs.Places.{answered_front, is_open}

pub answered_within : (slots : List Slot) → answered_front slots ≤ length slots
answered_within [] = omega arith
answered_within (Open body ∷ slots) = omega arith
answered_within (Answered payloads terminal ∷ slots) = omega (arith, answered_within slots)

-- a request without an answer that comes last changes nothing
pub answered-push : (slots : List Slot) (body : List ℕ) → answered_front (slots ++ Open body ∷ []) ≡ answered_front slots
answered-push [] body = refl
answered-push (Open own ∷ slots) body = refl
answered-push (Answered payloads terminal ∷ slots) body = ap suc (answered-push slots body)

-- a request without an answer ends them
pub open_ends : (slots : List Slot) (n : ℕ) (slot : Slot) → n < length slots → slot ≡ get_or slots n slot → is_open slot ≡ true → answered_front slots ≤ n
open_ends [] n slot within here is = absurd (omega arith)
open_ends (Open body ∷ slots) n slot within here is = omega arith
open_ends (Answered payloads terminal ∷ slots) zero slot within here is = absurd (cc)
open_ends (Answered payloads terminal ∷ slots) (suc n) slot within here is = omega (arith, open_ends slots n slot (omega arith) here is)

-- an answer goes on with them
pub answer_goes_on : (slots : List Slot) (n : ℕ) (slot : Slot) → n < length slots → n ≤ answered_front slots → slot ≡ get_or slots n slot → is_open slot ≡ false → n + 1 ≤ answered_front slots
answer_goes_on [] n slot within known here is = absurd (omega arith)
answer_goes_on (Open body ∷ slots) zero slot within known here is = absurd (cc)
answer_goes_on (Open body ∷ slots) (suc n) slot within known here is = absurd (omega arith)
answer_goes_on (Answered payloads terminal ∷ slots) zero slot within known here is = omega arith
answer_goes_on (Answered payloads terminal ∷ slots) (suc n) slot within known here is =
    omega (arith, answer_goes_on slots n slot (omega arith) (omega arith) here is)

-- an answer more keeps them
pub answered-set : (slots : List Slot) (n : ℕ) (payloads : List (ℕ × List ℕ)) (terminal : Bool) → answered_front slots ≤ answered_front (set slots n (Answered payloads terminal))
answered-set [] n payloads terminal = omega arith
answered-set (slot ∷ slots) zero payloads terminal = by slot
  where
    by : (own : Slot) → answered_front (own ∷ slots) ≤ suc (answered_front slots)
    by (Open body) = omega arith
    by (Answered other ended) = omega arith
answered-set (Open body ∷ slots) (suc n) payloads terminal = omega arith
answered-set (Answered other ended ∷ slots) (suc n) payloads terminal = omega (arith, answered-set slots n payloads terminal)
