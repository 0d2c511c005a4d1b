-- Attributes one by one, as they are written between apostrophes, with the values that they spell.
use Rattle.std.specs.Prelude.{ℕ, List, [], ◌∷◌, ◌++◌, Option, None, Some, codes}
use Rattle.std.specs.Fmt.{decimal}
use Rattle.body_cutter.specs.Built.{Written}
use Rattle.stream_names.specs.Streams.{name_of}
use Rattle.body_writer.specs.Attribute.{attribute, escaped}

-- a value that is written as it is
abbrev pub value_row : List ℕ → List ℕ → Written
value_row name value = record { name = name; spelling = value; value = value }

-- a number in plain decimal
abbrev pub number_row : List ℕ → ℕ → Written
number_row name number = value_row name (decimal number)

-- any text, with references
abbrev pub text_row : List ℕ → List ℕ → Written
text_row name text = record { name = name; spelling = escaped text; value = text }

-- rows one after the other, as a text
abbrev pub rows_text : List Written → List ℕ
rows_text [] = []
rows_text (row ∷ rows) = attribute row.name row.spelling ++ rows_text rows

-- the namespace of each body (XEP-0124 section 6), of the attributes that XEP-0206 adds, and of streams
abbrev pub httpbind_row : Written
httpbind_row = value_row (codes "xmlns") (codes "http://jabber.org/protocol/httpbind")

abbrev pub xbosh_row : Written
xbosh_row = value_row (codes "xmlns:xmpp") (codes "urn:xmpp:xbosh")

abbrev pub stream_row : Written
stream_row = value_row (codes "xmlns:stream") (codes "http://etherx.jabber.org/streams")

-- the version of XMPP, XEP-0206 section 4
abbrev pub xmpp_version_row : Written
xmpp_version_row = value_row (codes "xmpp:version") (codes "1.0")

-- the stream that a body is for, XEP-0124 section 16
unfoldable pub named_rows : Option ℕ → List Written
named_rows None = []
named_rows (Some stream) = value_row (codes "stream") (name_of stream) ∷ []
