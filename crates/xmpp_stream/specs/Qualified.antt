-- What comes on a stream has its namespace from the stream's header: an element that stands alone is given it (RFC 6120
-- section 4.8.2).
use Rattle.std.specs.Prelude.{ℕ, Bool, true, false, ◌+◌, ◌==◌, ◌&&◌, ◌||◌, not, List, [], ◌∷◌, ◌++◌, take, drop, codes, nat_eq, Option, None, Some, if◌then◌else◌}
use Rattle.std.specs.List.{list_any, starts_with}
use Rattle.body_cutter.specs.Chars.{is_space}
use Rattle.body_cutter.specs.Viable.{ends_name}
use Rattle.xmpp_stream.specs.Tag.{ends_tag, first_is, quote_after}

-- how many bytes stand before the end of the name with which an element begins, its `<` among them, where so many stood before
unfoldable pub name_length : ℕ → List ℕ → ℕ
name_length at [] = at
name_length at (b ∷ text) = if ends_name b then at else name_length (at + 1) text

-- the name has a prefix (Namespaces in XML 1.0 section 4)
abbrev pub is_prefixed : List ℕ → Bool
is_prefixed element = list_any (λ b. b == 58) (take (name_length 0 element) element)

-- a text begins with the attribute `xmlns`
unfoldable pub begins_namespace : List ℕ → Bool
begins_namespace text = starts_with nat_eq text (codes "xmlns") && first_is (λ b. is_space b || b == 61) (drop 5 text)

-- the attribute stands after this byte, which is white space outside of all values
abbrev pub stands_after : Option ℕ → ℕ → List ℕ → Bool
stands_after None b text = is_space b && begins_namespace text
stands_after (Some quote) b text = false

-- the start tag has an attribute `xmlns`, in what follows; a value with this quote is open
unfoldable pub has_namespace : Option ℕ → List ℕ → Bool
has_namespace quote [] = false
has_namespace quote (b ∷ text) =
    if ends_tag quote b then false else if stands_after quote b text then true else has_namespace (quote_after quote b) text

-- the attribute that is put in
unfoldable pub namespace_text : List ℕ
namespace_text = codes " xmlns='jabber:client'"

-- an element without a prefix and without a namespace of its own
unfoldable pub is_bare : List ℕ → Bool
is_bare element = not (is_prefixed element) && not (has_namespace None element)

-- the namespace after the element's name
unfoldable pub with_namespace : List ℕ → List ℕ
with_namespace element = (take (name_length 0 element) element ++ namespace_text) ++ drop (name_length 0 element) element

-- an element of a stream, as it stands alone
unfoldable pub qualified : List ℕ → List ℕ
qualified element = if is_bare element then with_namespace element else element
