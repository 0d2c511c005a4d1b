-- The requests from one id on, as a client remembers them.
use Rattle.std.specs.Prelude.{◌≡◌, ℕ, suc, ◌+◌, ◌-◌, ◌≤◌, nat_lt, Bool, true, false, not, List, [], ◌∷◌, length, Option, None, slice_get, slice_set, if◌then◌else◌}
use Rattle.bosh_types.specs.Rid.{greatest_rid}
use Rattle.bosh_client.specs.declared.exchanges.Slot.{Slot}
use Rattle.bosh_client.specs.declared.exchanges.Slot.TheVariants.{Answered, Open}

-- the id of the first, and one request for each id
pub record Places : Type 0 where
  pub first : ℕ
  pub slots : List Slot

abbrev pub is_open : Slot → Bool
is_open (Open body) = true
is_open (Answered payloads terminal) = false

-- how many of the first have an answer
abbrev pub answered_front : List Slot → ℕ
answered_front [] = 0
answered_front (Open body ∷ slots) = 0
answered_front (Answered payloads terminal ∷ slots) = suc (answered_front slots)

-- the ids are request ids, but for the one after the last; it is known how many of the first have an answer
pub record IsPlaced (first : ℕ) (slots : List Slot) (answered : ℕ) : Type 0 where
  pub some : 1 ≤ first
  pub within : first + length slots ≤ greatest_rid + 1
  pub answered_is : answered ≡ answered_front slots

-- the request with this id
abbrev pub slot_at : Places → ℕ → Option Slot
slot_at p rid = if nat_lt rid p.first then None else slice_get p.slots (rid - p.first)

-- it is this from now on
abbrev pub filled : Places → ℕ → Slot → Places
filled p rid slot = if nat_lt rid p.first then p else record p { slots = slice_set p.slots (rid - p.first) slot }

-- the first has an answer that isn't terminal
abbrev pub comes_next : List Slot → Bool
comes_next [] = false
comes_next (Open body ∷ slots) = false
comes_next (Answered payloads terminal ∷ slots) = not terminal
