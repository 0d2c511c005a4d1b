-- The plain window: everything that was placed in it, and how far it was taken, XEP-0124 section 14.2.
use Rattle.std.specs.Prelude.{◌≡◌, ℕ, ◌+◌, ◌<◌, ◌≤◌, ◌==◌, nat_le, nat_lt, not, Bool, if◌then◌else◌, List, [], ◌∷◌, ◌++◌, Option, Some, None, IsSome, ⊤}
use Rattle.std.specs.List.{filter}
use Rattle.bosh_types.specs.ById.{at_id}
use Rattle.bosh_types.specs.Rid.{greatest_rid}
use Rattle.rid_window.specs.declared.window.Placed.{Placed}
use Rattle.rid_window.specs.declared.window.Placed.TheVariants.{Done, Below, Repeat, Above}

-- every id and item that were placed, in that order; the lowest id not taken, none after the greatest; how many ids
-- from that one on have a place
pub record PlainWindow (T : Type 0) : Type 0 where
  pub placed : List (ℕ × T)
  pub next : Option ℕ
  pub width : ℕ

-- an id is below where it was taken
abbrev pub IsBelow : Option ℕ → ℕ → Type 0
IsBelow None rid = ⊤
IsBelow (Some next) rid = rid < next

-- it was not taken, and the window reaches it
abbrev pub IsWithin : Option ℕ → ℕ → ℕ → Type 0
IsWithin None reach rid = ⊥
IsWithin (Some next) reach rid = (next ≤ rid) × (rid < next + reach)

-- it was not taken, and the window doesn't reach it
abbrev pub IsAbove : Option ℕ → ℕ → ℕ → Type 0
IsAbove None reach rid = ⊥
IsAbove (Some next) reach rid = next + reach ≤ rid

-- it was not taken
abbrev pub IsOpen : Option ℕ → ℕ → Type 0
IsOpen None rid = ⊥
IsOpen (Some next) rid = next ≤ rid

-- how many ids the window reaches: one more for an item that is extra
abbrev pub reach : ℕ → Bool → ℕ
reach width extra = if extra then width + 1 else width

-- the request id after this one, none after the greatest
abbrev pub id_after : ℕ → Option ℕ
id_after rid = if nat_lt rid greatest_rid then Some (rid + 1) else None

module _ {T : Type 0} where
  -- a window from this id on, in which nothing was placed
  abbrev pub new_window : ℕ → ℕ → PlainWindow T
  new_window first width = record { placed = []; next = Some first; width = width }

  -- what each answer to a placing says; no two of them hold together
  abbrev pub PlaceSays : PlainWindow T → ℕ → Bool → T → Placed T → Type 0
  PlaceSays plain rid extra item Done =
      IsWithin plain.next (reach plain.width extra) rid × (at_id plain.placed rid ≡ None)
  PlaceSays plain rid extra item (Below back) = (back ≡ item) × IsBelow plain.next rid
  PlaceSays plain rid extra item (Repeat back) =
      (back ≡ item) × IsOpen plain.next rid × IsSome (at_id plain.placed rid)
  PlaceSays plain rid extra item (Above back) =
      (back ≡ item) × IsAbove plain.next (reach plain.width extra) rid × (at_id plain.placed rid ≡ None)

  -- an item that found its place is placed, and no other
  abbrev pub after_place : PlainWindow T → ℕ → T → Placed T → PlainWindow T
  after_place plain rid item Done = record plain { placed = plain.placed ++ (rid, item) ∷ [] }
  after_place plain rid item (Below back) = plain
  after_place plain rid item (Repeat back) = plain
  after_place plain rid item (Above back) = plain

  -- the id with its item, if it has one
  abbrev pub with_item : ℕ → Option T → Option (ℕ × T)
  with_item rid None = None
  with_item rid (Some item) = Some (rid, item)

  -- the lowest id not taken with its item, where that was placed
  abbrev pub ready_at : Option ℕ → List (ℕ × T) → Option (ℕ × T)
  ready_at None pairs = None
  ready_at (Some next) pairs = with_item next (at_id pairs next)

  -- the item of the lowest id not taken, where that was placed
  abbrev pub item_at : Option ℕ → List (ℕ × T) → Option T
  item_at None pairs = None
  item_at (Some next) pairs = at_id pairs next

  abbrev pub first_item : PlainWindow T → Option T
  first_item plain = item_at plain.next plain.placed

  -- nothing was placed that wasn't taken
  abbrev pub IsClear : PlainWindow T → Type 0
  IsClear plain = (rid : ℕ) → IsOpen plain.next rid → at_id plain.placed rid ≡ None

  -- the item that is next in the order of ids
  abbrev pub ready : PlainWindow T → Option (ℕ × T)
  ready plain = ready_at plain.next plain.placed

  -- the lowest id not taken, once this was taken
  abbrev pub next_after : PlainWindow T → Option (ℕ × T) → Option ℕ
  next_after plain None = plain.next
  next_after plain (Some pair) = id_after pair.0

  -- the item that is next was taken, if there is one
  abbrev pub after_ready : PlainWindow T → PlainWindow T
  after_ready plain = record plain { next = next_after plain (ready plain) }

  -- the pairs of all other ids
  abbrev pub without_id : List (ℕ × T) → ℕ → List (ℕ × T)
  without_id pairs rid = filter (λ pair. not (pair.0 == rid)) pairs

  -- what stands at an id that was not taken
  abbrev pub open_at : Option ℕ → List (ℕ × T) → ℕ → Option T
  open_at None pairs rid = None
  open_at (Some next) pairs rid = if nat_le next rid then at_id pairs rid else None

  -- nothing was placed at an id that was not taken
  abbrev pub emptied_at : Option ℕ → List (ℕ × T) → ℕ → List (ℕ × T)
  emptied_at None pairs rid = pairs
  emptied_at (Some next) pairs rid = if nat_le next rid then without_id pairs rid else pairs

  -- the item that an id has, where it was not taken
  abbrev pub open_item : PlainWindow T → ℕ → Option T
  open_item plain rid = open_at plain.next plain.placed rid

  -- what was placed at the id counts as not placed, where it was not taken
  abbrev pub after_strike : PlainWindow T → ℕ → PlainWindow T
  after_strike plain rid = record plain { placed = emptied_at plain.next plain.placed rid }
