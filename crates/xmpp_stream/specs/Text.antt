-- What is written on a stream: headers, stanzas and the end tag (RFC 6120 section 4).
use Rattle.std.specs.Prelude.{ℕ, Bool, true, false, List, [], ◌∷◌, ◌++◌, codes}
use Rattle.bosh_types.specs.declared.inward.Inward.{Inward}
use Rattle.bosh_types.specs.declared.inward.Inward.TheVariants.{Item, Restart, Open, Close}
use Rattle.body_writer.specs.Attribute.{escaped}

-- what stands in a header before the name of its host, and after it
unfoldable pub header_front : List ℕ
header_front = codes "<?xml version='1.0'?><stream:stream to='"

unfoldable pub header_back : List ℕ
header_back = codes "' version='1.0' xmlns='jabber:client' xmlns:stream='http://etherx.jabber.org/streams'>"

-- the header of a stream to the host of this name, which is escaped as a value between apostrophes (RFC 6120 section 4.7)
abbrev pub header : List ℕ → List ℕ
header to = header_front ++ (escaped to ++ header_back)

-- an item: a stanza as its bytes, and a header for a restart. What concerns other streams has no text
abbrev pub item_text : List ℕ → Inward → List ℕ
item_text to (Item stream text) = text
item_text to (Restart stream) = header to
item_text to (Open stream other) = []
item_text to (Close stream) = []

-- the items that are passed on a stream, one after the other
abbrev pub items_text : List ℕ → List Inward → List ℕ
items_text to [] = []
items_text to (item ∷ items) = item_text to item ++ items_text to items

-- the end tag (RFC 6120 section 4.4)
unfoldable pub end_tag : List ℕ
end_tag = codes "</stream:stream>"

abbrev pub end_text : Bool → List ℕ
end_text true = end_tag
end_text false = []

-- all that is written on a stream to this host, which was closed or not
abbrev pub stream_text : List ℕ → List Inward → Bool → List ℕ
stream_text to items closed = header to ++ (items_text to items ++ end_text closed)
