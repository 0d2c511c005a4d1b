-- The sums of a world, counted by what is seen of its events.
use Rattle.std.specs.Prelude.{◌≡◌, ℕ, ◌+◌, ◌-◌, ◌^◌, min, Bool, true, false, List, [], ◌∷◌, length, Option, None, Some, if◌then◌else◌}
use Rattle.std.specs.List.{count_by}
use Rattle.two_ends.specs.declared.sums.Sums.{Sums}
use Rattle.world_laws.specs.declared.event.WorldEvent.{WorldEvent}
use Rattle.world_laws.specs.declared.event.WorldEvent.TheVariants as events
use Rattle.world_laws.specs.declared.seen.SeenItem.{SeenItem}
use Rattle.world_laws.specs.declared.seen.SeenItem.TheVariants as seen
use Rattle.world_laws.specs.Manager.{PlainManager}
use Rattle.world_laws.specs.Sums.{PlainSums, is_inward_stanza}

-- a count stands still at its type's end
abbrev pub counted : ℕ → ℕ
counted n = min n (2 ^ 64 - 1)

-- the sums that only grow
pub record IsCounted (sums : Sums) (plain : PlainSums) : Type 0 where
  pub put_is : sums.put ≡ counted plain.put
  pub inward_is : sums.inward ≡ counted plain.inward
  pub given_is : sums.given ≡ counted plain.given
  pub got_is : sums.got ≡ counted plain.got

-- and all five
pub record IsSums (sums : Sums) (plain : PlainSums) : Type 0 where
  pub counted_are : IsCounted sums plain
  pub queued_is : sums.queued ≡ plain.queued

-- the stanzas that an event brings to the client, and those that it brings to the manager from the server
abbrev pub put_by : WorldEvent → ℕ
put_by (events.Put stanza) = 1
put_by (events.PutOn stream stanza) = 1
put_by _ = 0

abbrev pub given_by : WorldEvent → ℕ
given_by (events.Give stanza) = 1
given_by (events.GiveOn stream stanza) = 1
given_by _ = 0

-- the greeting is given where the session was created
abbrev pub given_since : Option PlainManager → Option PlainManager → List (List ℕ) → ℕ → ℕ
given_since None (Some m) greeting given = length greeting
given_since None None greeting given = given
given_since (Some before) manager greeting given = given

abbrev pub given_now : Bool → Bool → ℕ → ℕ → ℕ
given_now was_open is_open greeting given = if was_open then given else if is_open then greeting else given

-- what was refused is seen at once
abbrev pub is_refusal : SeenItem → Bool
is_refusal (seen.RefusedFull line) = true
is_refusal (seen.RefusedOver line) = true
is_refusal (seen.RefusedNone line) = true
is_refusal seen.RefusedLong = true
is_refusal _ = false

abbrev pub is_refused : List SeenItem → Bool
is_refused [] = false
is_refused (item ∷ items) = is_refusal item

abbrev pub unless_refused : List SeenItem → ℕ → ℕ
unless_refused items count = if is_refused items then 0 else count

abbrev pub is_passed_stanza : SeenItem → Bool
is_passed_stanza (seen.In item) = is_inward_stanza item
is_passed_stanza _ = false

abbrev pub is_got : SeenItem → Bool
is_got (seen.Got stanza) = true
is_got (seen.GotOn stream stanza) = true
is_got _ = false

-- the sums after an event that brought so many, of which this was seen
abbrev pub grown : PlainSums → ℕ → ℕ → List SeenItem → PlainSums
grown sums put given items = record sums {
  put = sums.put + unless_refused items put;
  inward = sums.inward + count_by is_passed_stanza items;
  given = sums.given + unless_refused items given;
  got = sums.got + count_by is_got items;
}
