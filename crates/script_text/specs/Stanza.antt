-- Stanzas and rows of stanzas, as scripts have them.
use Rattle.std.specs.Prelude.{ℕ, ◌+◌, ◌==◌, ◌&&◌, Bool, List, [], ◌∷◌, ◌++◌, map, length, Option, Some, None, codes, if◌then◌else◌}
use Rattle.std.specs.Result.{result_ok}
use Rattle.body_cutter.specs.declared.parts.Cut.{Cut}
use Rattle.body_cutter.specs.declared.parts.Span.{Span}
use Rattle.body_cutter.specs.Cutting.{body_cut_of}
use Rattle.body_cutter.specs.Pieces.{bytes_at}
use Rattle.session_attrs.specs.Serving.{may_greet}

-- the parts of a body, where the text is one
abbrev pub parts_of : List ℕ → Option Cut
parts_of text = result_ok (body_cut_of text)

-- the bytes of the text at each of these places
abbrev pub slices_of : List ℕ → List Span → List (List ℕ)
slices_of text spans = map (bytes_at text) spans

-- the spans stand side by side from this place to that
abbrev pub is_row : ℕ → List Span → ℕ → Bool
is_row start [] end = start == end
is_row start (span ∷ spans) end = (span.start == start) && is_row span.end spans end

-- the text as the content of a body
abbrev pub within_body : List ℕ → List ℕ
within_body text = codes "<body>" ++ text ++ codes "</body>"

-- its children, where they stand side by side and are all of it, and one answer may take them
abbrev pub greeting_in : List (List ℕ) → Option (List (List ℕ))
greeting_in stanzas = if may_greet stanzas then Some stanzas else None

abbrev pub row_in : List ℕ → Option Cut → Option (List (List ℕ))
row_in text None = None
row_in text (Some cut) = if is_row 6 cut.children (6 + length text) then greeting_in (slices_of (within_body text) cut.children) else None

-- the stanzas of a greeting: a row of at most 1024 with nothing between, and of at most 1,000,000 bytes
unfoldable pub row_of : List ℕ → Option (List (List ℕ))
row_of text = row_in text (parts_of (within_body text))
