-- What the server gives, and what one answer takes of it.
use Rattle.std.specs.Prelude.{ℕ, ◌==◌, Bool, true, false, List, [], ◌∷◌, Option, Some, None, length, sum_by}
use Rattle.std.specs.List.{list_all}
use Rattle.session_core.specs.declared.outward.Outward.{Outward}
use Rattle.session_core.specs.declared.outward.Outward.TheVariants.{Stanza, Close}
pub use Rattle.session_core.specs.declared.outward.Front.{Front}
pub use Rattle.session_core.specs.declared.outward.Front.TheVariants.{OfStanzas, OfClosing}

-- the items of a front
abbrev pub items_in : Front → List Outward
items_in (OfStanzas items) = items
items_in (OfClosing stream closing) = Close stream closing ∷ []

abbrev pub is_close : Outward → Bool
is_close (Stanza stream bytes) = false
is_close (Close stream closing) = true

-- the stream of an item
abbrev pub stream_in : Outward → ℕ
stream_in (Stanza stream bytes) = stream
stream_in (Close stream closing) = stream

-- it closes this stream
abbrev pub is_close_of : ℕ → Outward → Bool
is_close_of stream (Stanza other bytes) = false
is_close_of stream (Close other closing) = other == stream

-- a front is the closing of this stream
abbrev pub takes_closing : ℕ → Front → Bool
takes_closing stream (OfStanzas items) = false
takes_closing stream (OfClosing other closing) = other == stream

-- the stream of the first of these
abbrev pub first_stream : List Outward → Option ℕ
first_stream [] = None
first_stream (item ∷ items) = Some (stream_in item)

-- they lie on one stream
abbrev pub lie_on_one : List Outward → Bool
lie_on_one [] = true
lie_on_one (item ∷ items) = list_all (λ other. stream_in other == stream_in item) items

-- the bytes of a stanza; a closing has none
abbrev pub size_of : Outward → ℕ
size_of (Stanza stream bytes) = length bytes
size_of (Close stream closing) = 0

abbrev pub size_of_all : List Outward → ℕ
size_of_all items = sum_by size_of items

-- the stanzas among these
abbrev pub stanzas_in : List Outward → List (List ℕ)
stanzas_in [] = []
stanzas_in (Stanza stream bytes ∷ items) = bytes ∷ stanzas_in items
stanzas_in (Close stream closing ∷ items) = stanzas_in items
