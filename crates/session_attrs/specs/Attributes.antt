-- The attributes of a body by their names, which are compared as written, prefix included.
use Rattle.std.specs.Prelude.{ℕ, Bool, ◌&&◌, nat_le, List, length, slice_range, Option}
use Rattle.std.specs.List.{find}
use Rattle.std.specs.Option.{option_map}
use Rattle.std.specs.Str.{bytes_eq}
use Rattle.body_cutter.specs.declared.parts.Attr.{Attr}
use Rattle.body_cutter.specs.declared.parts.Span.{Span}

-- whether these bytes of the text are there
abbrev pub is_within : List ℕ → Span → Bool
is_within text span = nat_le span.start span.end && nat_le span.end (length text)

-- whether the attribute has this name in the text
unfoldable pub is_named : List ℕ → List ℕ → Attr → Bool
is_named text name attr = is_within text attr.name && bytes_eq (slice_range text attr.name.start attr.name.end) name

-- the value of the first attribute with this name
unfoldable pub value_of : List ℕ → List Attr → List ℕ → Option (List ℕ)
value_of text attrs name = option_map (λ attr. attr.value) (find (is_named text name) attrs)
