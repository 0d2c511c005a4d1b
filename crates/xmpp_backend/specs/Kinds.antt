-- What an echo and a room owe for an item.
use Rattle.std.specs.Prelude.{ℕ, List, [], ◌∷◌, Option, Some, None, codes, map, if◌then◌else◌}
use Rattle.bosh_types.specs.declared.inward.Inward.{Inward}
use Rattle.bosh_types.specs.declared.inward.Inward.TheVariants.{Item, Restart, Open, Close}
use Rattle.body_cutter.specs.Cutting.{is_stanza}
use Rattle.xmpp_backend.specs.Dues.{OwedText}
use Rattle.xmpp_backend.specs.Owing.{Owing, is_open}

-- what a server gives where a stream is restarted, with no feature in it (RFC 6120 section 4.3.2)
unfoldable pub features : List ℕ
features = codes "<stream:features/>"

-- the stanza of an item, where it is one
abbrev pub stanza_of : Inward → Option (List ℕ)
stanza_of (Item stream text) = if is_stanza text then Some text else None
stanza_of (Restart stream) = None
stanza_of (Open stream to) = None
stanza_of (Close stream) = None

-- what an echo gives for an item: its stanza, and the features for a restart
abbrev pub echo_of : Inward → Option (List ℕ)
echo_of (Item stream text) = stanza_of (Item stream text)
echo_of (Restart stream) = Some features
echo_of (Open stream to) = None
echo_of (Close stream) = None

-- a text on one wire, where there is one
abbrev pub on_one : ℕ → Option (List ℕ) → List OwedText
on_one wire None = []
on_one wire (Some text) = (wire, text) ∷ []

-- a text on all these wires, where there is one
abbrev pub on_all : List ℕ → Option (List ℕ) → List OwedText
on_all wires None = []
on_all wires (Some text) = map (λ wire. (wire, text)) wires

-- for an item that is passed on an open wire an echo owes what it gives, on that wire, and for another one nothing
abbrev pub echo_on : Owing → ℕ → Inward → Option (List ℕ)
echo_on owing wire item = if is_open owing wire then echo_of item else None

-- for an item that is passed on an open wire a room owes its stanza on each open wire, and for another one nothing
abbrev pub shared_on : Owing → ℕ → Inward → List OwedText
shared_on owing wire item = if is_open owing wire then on_all owing.dues.wires (stanza_of item) else []
