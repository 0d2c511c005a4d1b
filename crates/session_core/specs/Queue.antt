-- The server's items that wait, and how they are counted.
use Rattle.std.specs.Prelude.{◌≡◌, ℕ, ◌+◌, ◌≤◌, ◌&&◌, Bool, nat_lt, nat_le, List, [], ◌∷◌, Option, Some, None, length}
use Rattle.bosh_types.specs.Limits.{most_waiting, waiting_bytes}
use Rattle.bosh_types.specs.declared.ending.Closing.{Closing}
use Rattle.stream_names.specs.Streams.{is_among, those}
use Rattle.session_core.specs.declared.outward.Outward.{Outward}
use Rattle.session_core.specs.declared.outward.Outward.TheVariants.{Stanza, Close}
use Rattle.session_core.specs.Outward.{size_of_all}

-- the items in order, and the streams that the server closed
pub record Queue : Type 0 where
  pub items : List Outward
  pub closed : List ℕ

-- a stanza of so many bytes may wait too
abbrev pub has_room_for : List Outward → ℕ → Bool
has_room_for items size = nat_lt (length items) most_waiting && nat_le (size_of_all items + size) waiting_bytes

-- the closing that comes first, where one does
abbrev pub first_closing : List Outward → Option (ℕ × Closing)
first_closing [] = None
first_closing (Stanza stream bytes ∷ items) = None
first_closing (Close stream closing ∷ items) = Some (stream, closing)

-- the sum of their bytes stands beside the items; they are few, and one more for each stream that was closed; these
-- stand in the order of their numbers
pub record IsCounted (items : List Outward) (bytes : ℕ) (closed : List ℕ) : Type 0 where
  pub sum_is : bytes ≡ size_of_all items
  pub small : bytes ≤ waiting_bytes
  pub few : length items ≤ most_waiting + length closed
  pub in_order : those (is_among closed) ≡ closed
