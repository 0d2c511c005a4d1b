-- What is owed on wires: on those that aren't held, to be given; on those that are, to be kept until they are resumed.
use Rattle.std.specs.Prelude.{◌≡◌, ℕ, ◌-◌, ◌==◌, ◌&&◌, nat_lt, nat_le, Bool, true, false, not, is_some, List, [], ◌∷◌, ◌++◌, length, filter, sum_by, All, Option, Some, if◌then◌else◌}
use Rattle.std.specs.List.{count_by}
use Rattle.std.specs.BTreeMap.{BTreeMap, get}
use Rattle.std.specs.Ordering.{nat_cmp}
use Rattle.bosh_types.specs.Limits.{most_waiting, waiting_bytes}
use Rattle.bosh_types.specs.declared.ending.Closing.TheVariants.{RemoteConnectionFailed}
use Rattle.xmpp_backend.specs.Told.{has_wire, with_wire, without_wire}
use Rattle.xmpp_backend.specs.declared.backend.Given.{Given}
use Rattle.xmpp_backend.specs.declared.backend.Given.TheVariants as given
use Rattle.xmpp_backend.specs.declared.hold.Hold.{Hold}
use Rattle.xmpp_backend.specs.declared.hold.Place.{Place}
use Rattle.xmpp_backend.specs.declared.hold.Place.TheVariants as places

-- something that is owed, and the wire on which it is
abbrev pub Due : Type 0
Due = ℕ × Given

-- a stanza, and the wire on which it is owed
abbrev pub OwedText : Type 0
OwedText = ℕ × List ℕ

-- the wires that are open, in the order in which they were opened; those that are held; what is owed on others than these, in the
-- order in which it is given; and what is kept for these
pub record Dues : Type 0 where
  pub wires : List ℕ
  pub held : List ℕ
  pub owed : List Due
  pub kept : List Due

abbrev pub is_on : ℕ → Due → Bool
is_on wire due = due.0 == wire

abbrev pub bytes_of : Given → ℕ
bytes_of (given.Stanza text) = length text
bytes_of (given.Closed closing) = 0

abbrev pub bytes_on : ℕ → Due → ℕ
bytes_on wire due = if is_on wire due then bytes_of due.1 else 0

-- of what may wait for a client, how many items and bytes are left beside what is kept for a wire
abbrev pub items_left : ℕ → List Due → ℕ
items_left wire kept = most_waiting - count_by (is_on wire) kept

abbrev pub bytes_left : ℕ → List Due → ℕ
bytes_left wire kept = waiting_bytes - sum_by (bytes_on wire) kept

-- a stanza of so many bytes may be kept too
abbrev pub has_room : ℕ → ℕ → List Due → Bool
has_room wire bytes kept = nat_lt 0 (items_left wire kept) && nat_le bytes (bytes_left wire kept)

-- what becomes of a stanza of so many bytes that is for a wire
abbrev pub place_on : ℕ → ℕ → Dues → Place
place_on wire bytes dues =
    if has_wire wire dues.wires
    then (if has_wire wire dues.held then (if has_room wire bytes dues.kept then places.Kept else places.Refused) else places.Owed)
    else places.Nowhere

-- it is owed, or kept where the wire is held; where there is no room for it the wire is closed as failed, after all that is kept
abbrev pub put_at : Place → ℕ → List ℕ → Dues → Dues
put_at places.Nowhere wire text dues = dues
put_at places.Owed wire text dues = record dues { owed = dues.owed ++ (wire, given.Stanza text) ∷ [] }
put_at places.Kept wire text dues = record dues { kept = dues.kept ++ (wire, given.Stanza text) ∷ [] }
put_at places.Refused wire text dues =
    record dues { kept = dues.kept ++ (wire, given.Closed RemoteConnectionFailed) ∷ []; wires = without_wire wire dues.wires }

abbrev pub owes : OwedText → Dues → Dues
owes stanza dues = put_at (place_on stanza.0 (length stanza.1) dues) stanza.0 stanza.1 dues

-- one after the other
abbrev pub owes_all : List OwedText → Dues → Dues
owes_all [] dues = dues
owes_all (stanza ∷ stanzas) dues = owes_all stanzas (owes stanza dues)

-- what is owed on the wire is kept from now on
abbrev pub held_from : ℕ → Dues → Dues
held_from wire dues = record dues {
  held = with_wire wire dues.held;
  owed = filter (λ due. not (is_on wire due)) dues.owed;
  kept = dues.kept ++ filter (is_on wire) dues.owed;
}

-- what was kept for the wire is owed after all else, in its order
abbrev pub resumed_from : ℕ → Dues → Dues
resumed_from wire dues = record dues {
  held = without_wire wire dues.held;
  owed = dues.owed ++ filter (is_on wire) dues.kept;
  kept = filter (λ due. not (is_on wire due)) dues.kept;
}

-- the wire is open, and isn't held
abbrev pub opened_from : ℕ → Dues → Dues
opened_from wire dues = record (resumed_from wire dues) { wires = with_wire wire dues.wires }

-- nothing is owed or kept on the wire, which is neither open nor held
abbrev pub closed_from : ℕ → Dues → Dues
closed_from wire dues = record {
  wires = without_wire wire dues.wires;
  held = without_wire wire dues.held;
  owed = filter (λ due. not (is_on wire due)) dues.owed;
  kept = filter (λ due. not (is_on wire due)) dues.kept;
}

-- a wire was held, or is no longer; one after the other
abbrev pub held_by : List ℕ → List (ℕ × Bool) → List ℕ
held_by held [] = held
held_by held ((wire, holds) ∷ entries) = held_by (if holds then with_wire wire held else without_wire wire held) entries

-- dues, and for how many more there is memory
pub record Stocked : Type 0 where
  pub dues : Dues
  pub room : ℕ

abbrev pub hold_of : BTreeMap ℕ Hold → ℕ → Option Hold
hold_of holds wire = get nat_cmp holds wire

-- what is noted of the open wires is so, and nothing is owed on a wire that is held
pub record IsSound (holds : BTreeMap ℕ Hold) (dues : Dues) : Type 0 where
  pub tied : (wire : ℕ) → is_some (hold_of holds wire) ≡ has_wire wire dues.wires
  pub flags : (wire : ℕ) (hold : Hold) → hold_of holds wire ≡ Some hold → hold.held ≡ has_wire wire dues.held
  pub items : (wire : ℕ) (hold : Hold) → hold_of holds wire ≡ Some hold → hold.held ≡ true → hold.items ≡ items_left wire dues.kept
  pub bytes : (wire : ℕ) (hold : Hold) → hold_of holds wire ≡ Some hold → hold.held ≡ true → hold.bytes ≡ bytes_left wire dues.kept
  pub unheld : All (λ due. has_wire due.0 dues.held ≡ false) dues.owed
