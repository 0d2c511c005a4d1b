-- The grammar of a body's text and of a stanza, a profile of XML 1.0. Each form relates the text from where it begins to
-- the text after it: in `Spaces text rest` the text is white space and then the rest.
use Rattle.std.specs.Prelude.{◌≡◌, ℕ, Bool, true, false, ◌+◌, ◌*◌, ◌-◌, ◌&&◌, ◌||◌, ◌==◌, not, List, [], ◌∷◌, codes, Some}
use Rattle.body_cutter.specs.Chars.{is_space, is_digit, is_char_byte, is_name_start, is_name_byte, is_allowed}
use Rattle.body_cutter.specs.References.{hex_digit}
use Rattle.body_cutter.specs.Names.{has_name, with_name}

-- white space, which may be empty
pub data Spaces : List ℕ → List ℕ → Type 0 where
  none : {rest : List ℕ} → Spaces rest rest
  more : {b : ℕ} {text rest : List ℕ} → is_space b ≡ true → Spaces text rest → Spaces (b ∷ text) rest

-- bytes that go on with a name
pub data NameRest : List ℕ → List ℕ → List ℕ → Type 0 where
  none : {rest : List ℕ} → NameRest [] rest rest
  more : {b : ℕ} {name text rest : List ℕ} → is_name_byte b ≡ true → NameRest name text rest → NameRest (b ∷ name) (b ∷ text) rest

-- a name, and its bytes (XML 1.0 section 2.3, with every character from U+0080 on)
pub data Name : List ℕ → List ℕ → List ℕ → Type 0 where
  begins : {b : ℕ} {name text rest : List ℕ} → is_name_start b ≡ true → NameRest name text rest → Name (b ∷ name) (b ∷ text) rest

-- these very bytes
pub data Exactly : List ℕ → List ℕ → List ℕ → Type 0 where
  none : {rest : List ℕ} → Exactly [] rest rest
  more : {b : ℕ} {bytes text rest : List ℕ} → Exactly bytes text rest → Exactly (b ∷ bytes) (b ∷ text) rest

-- the digits of a number that has this value so far, and the `;` after them, if the number is an allowed character
pub data Digits : ℕ → List ℕ → List ℕ → Type 0 where
  ends : {value : ℕ} {rest : List ℕ} → is_allowed value ≡ true → Digits value (59 ∷ rest) rest
  more : {value b : ℕ} {text rest : List ℕ} → is_digit b ≡ true → Digits (value * 10 + (b - 48)) text rest → Digits value (b ∷ text) rest

pub data HexDigits : ℕ → List ℕ → List ℕ → Type 0 where
  ends : {value : ℕ} {rest : List ℕ} → is_allowed value ≡ true → HexDigits value (59 ∷ rest) rest
  more : {value b digit : ℕ} {text rest : List ℕ} → hex_digit b ≡ Some digit → HexDigits (value * 16 + digit) text rest → HexDigits value (b ∷ text) rest

-- what follows the `&` of a reference: `lt;`, `gt;`, `amp;`, `apos;`, `quot;` or a number (XML 1.0 sections 4.1 and 4.6)
pub data ReferenceRest : List ℕ → List ℕ → Type 0 where
  lt : {rest : List ℕ} → ReferenceRest (108 ∷ 116 ∷ 59 ∷ rest) rest
  gt : {rest : List ℕ} → ReferenceRest (103 ∷ 116 ∷ 59 ∷ rest) rest
  amp : {rest : List ℕ} → ReferenceRest (97 ∷ 109 ∷ 112 ∷ 59 ∷ rest) rest
  apos : {rest : List ℕ} → ReferenceRest (97 ∷ 112 ∷ 111 ∷ 115 ∷ 59 ∷ rest) rest
  quot : {rest : List ℕ} → ReferenceRest (113 ∷ 117 ∷ 111 ∷ 116 ∷ 59 ∷ rest) rest
  decimal : {b : ℕ} {text rest : List ℕ} → is_digit b ≡ true → Digits (b - 48) text rest → ReferenceRest (35 ∷ b ∷ text) rest
  hex : {b digit : ℕ} {text rest : List ℕ} → hex_digit b ≡ Some digit → HexDigits digit text rest → ReferenceRest (35 ∷ 120 ∷ b ∷ text) rest

-- a quote
abbrev pub is_quote : ℕ → Bool
is_quote b = b == 39 || b == 34

-- a byte of a value that stands for itself: no `<`, no `&` and not the value's quote
abbrev pub is_value_byte : ℕ → ℕ → Bool
is_value_byte quote b = is_char_byte b && (not (b == quote) && (not (b == 60) && not (b == 38)))

-- a byte of character data: no `<` and no `&`
abbrev pub is_data_byte : ℕ → Bool
is_data_byte b = is_char_byte b && (not (b == 60) && not (b == 38))

-- whether a text begins with these bytes
abbrev pub begins_with : List ℕ → List ℕ → Bool
begins_with [] text = true
begins_with (x ∷ bytes) [] = false
begins_with (x ∷ bytes) (b ∷ text) = b == x && begins_with bytes text

-- whether a text begins with `]]>`
abbrev pub ends_section : List ℕ → Bool
ends_section text = begins_with (93 ∷ 93 ∷ 62 ∷ []) text

-- whether a text begins with `?>`
abbrev pub ends_declaration : List ℕ → Bool
ends_declaration text = begins_with (63 ∷ 62 ∷ []) text

-- a value after its first quote, with its last (XML 1.0 section 2.3)
pub data Value (quote : ℕ) : List ℕ → List ℕ → Type 0 where
  ends : {rest : List ℕ} → Value quote (quote ∷ rest) rest
  char : {b : ℕ} {text rest : List ℕ} → is_value_byte quote b ≡ true → Value quote text rest → Value quote (b ∷ text) rest
  reference : {text after rest : List ℕ} → ReferenceRest text after → Value quote after rest → Value quote (38 ∷ text) rest

-- what follows the name of a start tag or a value, where these names were seen: `spaced` after white space, `is_empty` for an
-- empty element. No tag has two attributes of one name (XML 1.0 section 3.1)
pub data TagRest : List (List ℕ) → Bool → Bool → List ℕ → List ℕ → Type 0 where
  empty : {seen : List (List ℕ)} {spaced : Bool} {rest : List ℕ} → TagRest seen spaced true (47 ∷ 62 ∷ rest) rest
  opens : {seen : List (List ℕ)} {spaced : Bool} {rest : List ℕ} → TagRest seen spaced false (62 ∷ rest) rest
  space : {seen : List (List ℕ)} {spaced is_empty : Bool} {b : ℕ} {text rest : List ℕ} →
      is_space b ≡ true → TagRest seen true is_empty text rest → TagRest seen spaced is_empty (b ∷ text) rest
  attribute : {seen : List (List ℕ)} {is_empty : Bool} {name text before_equals after_equals value after rest : List ℕ} {quote : ℕ} →
      Name name text before_equals → has_name seen name ≡ false → Spaces before_equals (61 ∷ after_equals) →
      Spaces after_equals (quote ∷ value) → is_quote quote ≡ true → Value quote value after →
      TagRest (with_name seen name) false is_empty after rest → TagRest seen true is_empty text rest

-- a CDATA section after `<![CDATA[`, with its `]]>`, the first one (XML 1.0 section 2.7)
pub data Section : List ℕ → List ℕ → Type 0 where
  ends : {rest : List ℕ} → Section (93 ∷ 93 ∷ 62 ∷ rest) rest
  char : {b : ℕ} {text rest : List ℕ} → is_char_byte b ≡ true → ends_section (b ∷ text) ≡ false → Section text rest → Section (b ∷ text) rest

-- an end tag after `</`
pub data EndTag (name : List ℕ) : List ℕ → List ℕ → Type 0 where
  ends : {text after rest : List ℕ} → Exactly name text after → Spaces after (62 ∷ rest) → EndTag name text rest

mutual
  -- an element after its `<` (XML 1.0 section 3)
  pub data Element : List ℕ → List ℕ → Type 0 where
    empty_element : {name text after rest : List ℕ} → Name name text after → TagRest [] false true after rest → Element text rest
    full_element : {name text after inner close rest : List ℕ} → Name name text after → TagRest [] false false after inner →
        Content inner (60 ∷ 47 ∷ close) → EndTag name close rest → Element text rest

  -- the content of a child: elements, references, character data without `]]>` and CDATA sections (XML 1.0 section 3.1)
  pub data Content : List ℕ → List ℕ → Type 0 where
    no_content : {rest : List ℕ} → Content rest rest
    child_element : {text after rest : List ℕ} → Element text after → Content after rest → Content (60 ∷ text) rest
    reference : {text after rest : List ℕ} → ReferenceRest text after → Content after rest → Content (38 ∷ text) rest
    char : {b : ℕ} {text rest : List ℕ} → is_data_byte b ≡ true → ends_section (b ∷ text) ≡ false → Content text rest → Content (b ∷ text) rest
    section : {text after rest : List ℕ} → Section text after → Content after rest → Content (60 ∷ 33 ∷ 91 ∷ 67 ∷ 68 ∷ 65 ∷ 84 ∷ 65 ∷ 91 ∷ text) rest

-- the body's own content: white space and children
pub data Children : List ℕ → List ℕ → Type 0 where
  none : {rest : List ℕ} → Children rest rest
  space : {b : ℕ} {text rest : List ℕ} → is_space b ≡ true → Children text rest → Children (b ∷ text) rest
  child : {text after rest : List ℕ} → Element text after → Children after rest → Children (60 ∷ text) rest

-- the body after `<body` (XEP-0124 section 6)
pub data BodyRest : List ℕ → List ℕ → Type 0 where
  empty : {text rest : List ℕ} → TagRest [] false true text rest → BodyRest text rest
  full : {text inner close rest : List ℕ} → TagRest [] false false text inner → Children inner (60 ∷ 47 ∷ close) → EndTag (codes "body") close rest → BodyRest text rest

-- a declaration after `<?xml` and white space, up to the first `?>`
pub data DeclarationRest : List ℕ → List ℕ → Type 0 where
  ends : {rest : List ℕ} → DeclarationRest (63 ∷ 62 ∷ rest) rest
  char : {b : ℕ} {text rest : List ℕ} → is_char_byte b ≡ true → ends_declaration (b ∷ text) ≡ false → DeclarationRest text rest → DeclarationRest (b ∷ text) rest

-- white space, the body and white space
pub data SpacedBody : List ℕ → Type 0 where
  spaced : {text inner after : List ℕ} → Spaces text (60 ∷ 98 ∷ 111 ∷ 100 ∷ 121 ∷ inner) → BodyRest inner after → Spaces after [] → SpacedBody text

-- the structure of a body's text: a declaration at the very start or none, white space, the body, white space
pub data Document : List ℕ → Type 0 where
  plain : {text : List ℕ} → SpacedBody text → Document text
  declared : {b : ℕ} {text after : List ℕ} → is_space b ≡ true → DeclarationRest text after → SpacedBody after →
      Document (60 ∷ 63 ∷ 120 ∷ 109 ∷ 108 ∷ b ∷ text)

-- the structure of a stanza by itself
pub data Single : List ℕ → Type 0 where
  single : {text : List ℕ} → Element text [] → Single (60 ∷ text)
