-- The names of open elements and of a tag's attributes.
use Rattle.std.specs.Prelude.{ℕ, Bool, true, false, List, [], ◌∷◌, ◌+◌, Option, None, Some, slice_get}
use Rattle.std.specs.List.{list_any}
use Rattle.std.specs.Ordering.{nat_cmp, is_eq}
use Rattle.std.specs.Cmp.Lexicographic.{slice_cmp}
use Rattle.std.specs.BTreeSet.{insert_key}
use Rattle.body_cutter.specs.declared.place.Kind.{Kind}
use Rattle.body_cutter.specs.declared.place.Kind.TheVariants as kinds
use Rattle.body_cutter.specs.declared.place.Around.{Around}
use Rattle.body_cutter.specs.declared.place.Around.TheVariants.{NoBody, NoStanza, Body, Child}

-- whether no element is open
abbrev pub is_empty : List (List ℕ) → Bool
is_empty [] = true
is_empty (name ∷ outer) = false

-- which elements are open, by their names
unfoldable pub around : Kind → List (List ℕ) → Around
around kinds.Body [] = NoBody
around kinds.Body (name ∷ []) = Body
around kinds.Body (name ∷ outer ∷ others) = Child
around kinds.Stanza [] = NoStanza
around kinds.Stanza (name ∷ outer) = Child

-- a byte of a name, and how many bytes of it there are with this one
abbrev pub with_count : ℕ → Option ℕ → Option (ℕ × ℕ)
with_count count None = None
with_count count (Some b) = Some (b, count + 1)

-- what is due of the innermost name after so many bytes
unfoldable pub due : List (List ℕ) → ℕ → Option (ℕ × ℕ)
due [] count = None
due (name ∷ outer) count = with_count count (slice_get name count)

-- without the innermost
abbrev pub without_first : List (List ℕ) → List (List ℕ)
without_first [] = []
without_first (name ∷ outer) = outer

-- whether a set of names has this one
unfoldable pub has_name : List (List ℕ) → List ℕ → Bool
has_name names name = list_any (λ other. is_eq (slice_cmp nat_cmp name other)) names

-- the set with this name too
unfoldable pub with_name : List (List ℕ) → List ℕ → List (List ℕ)
with_name names name = insert_key (slice_cmp nat_cmp) names name
