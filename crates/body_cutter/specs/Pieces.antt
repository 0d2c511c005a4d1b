-- Pieces of a text that stand by themselves.
use Rattle.std.specs.Prelude.{ℕ, ◌≤◌, List, [], length, slice_range}
use Rattle.body_cutter.specs.declared.parts.Attr.{Attr}
use Rattle.body_cutter.specs.declared.parts.Span.{Span}
use Rattle.body_cutter.specs.Grammar.{Name}
use Rattle.body_cutter.specs.Parts.{Parts}
use Rattle.body_cutter.specs.BodyText.{HasElementParts}

-- the bytes of a text that lie here
abbrev pub bytes_at : List ℕ → Span → List ℕ
bytes_at text span = slice_range text span.start span.end

-- a piece of a text that is an element by itself, with no more attributes in a tag than the text has, and no deeper
pub record IsPiece (text : List ℕ) (parts : Parts) (span : Span) : Type 0 where
  pub within : span.end ≤ length text
  pub own : Parts
  pub is : HasElementParts (bytes_at text span) own
  pub most_attributes : own.most_attributes ≤ parts.most_attributes
  pub depth : own.depth ≤ parts.depth

-- an attribute whose name is a name that stands in the text
pub record IsNamed (text : List ℕ) (attr : Attr) : Type 0 where
  pub within : attr.name.end ≤ length text
  pub is : Name (bytes_at text attr.name) (bytes_at text attr.name) []
