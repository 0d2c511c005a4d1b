-- How a line of a log is written.
use Rattle.std.specs.Prelude.{ℕ, ◌+◌, ◌/◌, ◌%◌, ◌==◌, nat_le, nat_lt, Bool, false, List, [], ◌∷◌, ◌++◌, if◌then◌else◌}
use Rattle.std.specs.Char.{is_ascii_graphic}
use Rattle.std.specs.Fmt.{decimal}
use Rattle.std.specs.List.{list_all}
use Rattle.serve_log.specs.declared.field.Field.{Field}
use Rattle.serve_log.specs.declared.field.Value.{Value}
use Rattle.serve_log.specs.declared.field.Value.TheVariants.{Count, Text}

-- a byte that stands for itself without quotes: what is seen of ASCII, but `"` and a backslash
abbrev pub is_plain : ℕ → Bool
is_plain byte = if byte == 34 then false else if byte == 92 then false else is_ascii_graphic byte

-- a byte that no line ends at
abbrev pub is_seen : ℕ → Bool
is_seen byte = nat_le 32 byte

-- a text that does
abbrev pub is_plain_word : List ℕ → Bool
is_plain_word [] = false
is_plain_word (byte ∷ text) = list_all is_plain (byte ∷ text)

-- a hexadecimal digit
abbrev pub hex_of : ℕ → ℕ
hex_of digit = if nat_lt digit 10 then 48 + digit else 87 + digit

-- a byte within quotes: a backslash before `"` and itself, `\xHH` for what isn't seen of ASCII but the space, and all else itself
unfoldable pub escaped : ℕ → List ℕ
escaped byte =
    if byte == 34 then 92 ∷ 34 ∷ [] else
    if byte == 92 then 92 ∷ 92 ∷ [] else
    if nat_lt byte 32 then 92 ∷ 120 ∷ hex_of (byte / 16) ∷ hex_of (byte % 16) ∷ [] else
    if byte == 127 then 92 ∷ 120 ∷ 55 ∷ 102 ∷ [] else byte ∷ []

abbrev pub all_escaped : List ℕ → List ℕ
all_escaped [] = []
all_escaped (byte ∷ text) = escaped byte ++ all_escaped text

-- a text as a value
unfoldable pub shown_text : List ℕ → List ℕ
shown_text text = if is_plain_word text then text else 34 ∷ (all_escaped text ++ 34 ∷ [])

unfoldable pub value_text : Value → List ℕ
value_text (Text text) = shown_text text.now
value_text (Count count) = decimal count

unfoldable pub field_text : Field → List ℕ
field_text field = field.name.now ++ 61 ∷ value_text field.value

-- fields, each after a space
abbrev pub fields_text : List Field → List ℕ
fields_text [] = []
fields_text (field ∷ fields) = 32 ∷ field_text field ++ fields_text fields

-- a line: its first field, the others, and a line feed
abbrev pub line_text : Field → List Field → List ℕ
line_text first others = field_text first ++ (fields_text others ++ 10 ∷ [])
