-- What a text of the grammar says: the attributes of a body and its children, and what the limits are of.
use Rattle.std.specs.Prelude.{ℕ, Bool, ◌+◌, ◌-◌, ◌==◌, ◌&&◌, max, List, [], ◌∷◌, ◌++◌, length, encode_utf8, if◌then◌else◌}
use Rattle.body_cutter.specs.declared.parts.Attr.{Attr}
use Rattle.body_cutter.specs.declared.parts.Span.{Span}
use Rattle.body_cutter.specs.Chars.{is_space}
use Rattle.body_cutter.specs.Grammar.{Digits, HexDigits, ReferenceRest, Value, TagRest, Element, Content, Children, BodyRest, SpacedBody, Document, Single, begins_with}

-- where a piece lies in a text of this length, told by the text from its start on and the text after it
abbrev pub between : ℕ → List ℕ → List ℕ → Span
between len from after = record { start = len - length from; end = len - length after }

-- the number that digits spell
unfoldable pub decimal_number : {value : ℕ} {text rest : List ℕ} → Digits value text rest → ℕ
decimal_number {value} (Digits.ends a) = value
decimal_number (Digits.more e d) = decimal_number d

unfoldable pub hex_number : {value : ℕ} {text rest : List ℕ} → HexDigits value text rest → ℕ
hex_number {value} (HexDigits.ends a) = value
hex_number (HexDigits.more e d) = hex_number d

-- the character that a reference stands for (XML 1.0 sections 4.1 and 4.6)
unfoldable pub character_of : {text rest : List ℕ} → ReferenceRest text rest → ℕ
character_of ReferenceRest.lt = 60
character_of ReferenceRest.gt = 62
character_of ReferenceRest.amp = 38
character_of ReferenceRest.apos = 39
character_of ReferenceRest.quot = 34
character_of (ReferenceRest.decimal e d) = decimal_number d
character_of (ReferenceRest.hex e d) = hex_number d

-- what a raw byte of a value stands for, before this text: a CR before a LF for nothing, and other white space for a space
-- (XML 1.0 sections 2.11 and 3.3.3)
unfoldable pub normalised : ℕ → List ℕ → List ℕ
normalised b text = if b == 13 && begins_with (10 ∷ []) text then [] else if is_space b then 32 ∷ [] else b ∷ []

-- the value that an attribute has
unfoldable pub value_of : {quote : ℕ} {text rest : List ℕ} → Value quote text rest → List ℕ
value_of Value.ends = []
value_of (Value.char {b = b} {text = text} e v) = normalised b text ++ value_of v
value_of (Value.reference r v) = encode_utf8 (character_of r) ++ value_of v

-- the attributes of a tag, in order, where the whole text has this length
unfoldable pub attributes_of : ℕ → {seen : List (List ℕ)} {spaced is_empty : Bool} {text rest : List ℕ} → TagRest seen spaced is_empty text rest → List Attr
attributes_of len TagRest.empty = []
attributes_of len TagRest.opens = []
attributes_of len (TagRest.space e t) = attributes_of len t
attributes_of len (TagRest.attribute {text = text} {before_equals = after_name} n fresh before after q v t) =
    record { name = between len text after_name; value = value_of v } ∷ attributes_of len t

-- how many attributes a tag has
unfoldable pub count_of : {seen : List (List ℕ)} {spaced is_empty : Bool} {text rest : List ℕ} → TagRest seen spaced is_empty text rest → ℕ
count_of TagRest.empty = 0
count_of TagRest.opens = 0
count_of (TagRest.space e t) = count_of t
count_of (TagRest.attribute n fresh before after q v t) = count_of t + 1

unfoldable mutual
  -- the most attributes that a tag of an element has
  pub most_in_element : {text rest : List ℕ} → Element text rest → ℕ
  most_in_element (Element.empty_element n t) = count_of t
  most_in_element (Element.full_element n t c e) = max (count_of t) (most_in_content c)

  pub most_in_content : {text rest : List ℕ} → Content text rest → ℕ
  most_in_content Content.no_content = 0
  most_in_content (Content.child_element x c) = max (most_in_element x) (most_in_content c)
  most_in_content (Content.reference r c) = most_in_content c
  most_in_content (Content.char d e c) = most_in_content c
  most_in_content (Content.section s c) = most_in_content c

unfoldable mutual
  -- how many elements lie in one another, with this one
  pub depth_of : {text rest : List ℕ} → Element text rest → ℕ
  depth_of (Element.empty_element n t) = 1
  depth_of (Element.full_element n t c e) = depth_of_content c + 1

  pub depth_of_content : {text rest : List ℕ} → Content text rest → ℕ
  depth_of_content Content.no_content = 0
  depth_of_content (Content.child_element x c) = max (depth_of x) (depth_of_content c)
  depth_of_content (Content.reference r c) = depth_of_content c
  depth_of_content (Content.char d e c) = depth_of_content c
  depth_of_content (Content.section s c) = depth_of_content c

-- where the children lie, from the `<` of each to its last `>`
unfoldable pub children_of : ℕ → {text rest : List ℕ} → Children text rest → List Span
children_of len Children.none = []
children_of len (Children.space e c) = children_of len c
children_of len (Children.child {text = text} {after = after} x c) = between len (60 ∷ text) after ∷ children_of len c

unfoldable pub most_in_children : {text rest : List ℕ} → Children text rest → ℕ
most_in_children Children.none = 0
most_in_children (Children.space e c) = most_in_children c
most_in_children (Children.child x c) = max (most_in_element x) (most_in_children c)

-- how deep an element lies: a child 1 deep, and an element in it one deeper
unfoldable pub depth_of_children : {text rest : List ℕ} → Children text rest → ℕ
depth_of_children Children.none = 0
depth_of_children (Children.space e c) = depth_of_children c
depth_of_children (Children.child x c) = max (depth_of x) (depth_of_children c)

-- the parts of a text: the body's attributes with their values, its children, the most attributes of a tag, and the depth
pub record Parts : Type 0 where
  pub attributes : List Attr
  pub children : List Span
  pub most_attributes : ℕ
  pub depth : ℕ

unfoldable pub body_parts : ℕ → {text rest : List ℕ} → BodyRest text rest → Parts
body_parts len (BodyRest.empty t) = record { attributes = attributes_of len t; children = []; most_attributes = count_of t; depth = 0 }
body_parts len (BodyRest.full t c e) = record {
  attributes = attributes_of len t;
  children = children_of len c;
  most_attributes = max (count_of t) (most_in_children c);
  depth = depth_of_children c;
}

unfoldable pub spaced_parts : ℕ → {text : List ℕ} → SpacedBody text → Parts
spaced_parts len (SpacedBody.spaced s b e) = body_parts len b

-- the parts of a body's text
unfoldable pub document_parts : ℕ → {text : List ℕ} → Document text → Parts
document_parts len (Document.plain b) = spaced_parts len b
document_parts len (Document.declared e d b) = spaced_parts len b

-- the parts of a stanza by itself: it has no body
unfoldable pub single_parts : {text : List ℕ} → Single text → Parts
single_parts (Single.single x) = record { attributes = []; children = []; most_attributes = most_in_element x; depth = depth_of x }
