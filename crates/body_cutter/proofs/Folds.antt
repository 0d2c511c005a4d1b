-- What the reader keeps of each form of the grammar, in its own order.
use Rattle.std.proofs.Common.{ℕ, Bool, true, false, ◌||◌, ◌&&◌, ◌-◌, List, [], ◌∷◌, ◌++◌, length}
use Rattle.std.specs.Prelude.{◌==◌, nat_lt, encode_utf8, if◌then◌else◌}
use Rattle.body_cutter.specs.declared.parts.Span.{Span}
use Rattle.body_cutter.specs.declared.place.Kind.{Kind}
use Rattle.body_cutter.specs.Names.{with_name}
use Rattle.body_cutter.specs.Reader.{deepest}
use Rattle.body_cutter.specs.Grammar.{Value, TagRest, Element, Content, Children}
use Rattle.body_cutter.specs.Parts.{between, character_of}
use Rattle.body_cutter.proofs.Flow.{Kept}

-- more of a value, if it is one of the body's
abbrev pub grown : Bool → List ℕ → Kept → Kept
grown true bytes k = record k { value = k.value ++ bytes }
grown false bytes k = k

-- one attribute more, if it is one of the body's
abbrev pub attributed : Bool → Span → Kept → Kept
attributed true name k = record k { attrs = k.attrs ++ record { name = name; value = k.value } ∷ []; value = [] }
attributed false name k = k

-- one child more, if it is one
abbrev pub closed : Bool → ℕ → Kept → Kept
closed true end k = record k { children = k.children ++ record { start = k.child_start; end = end } ∷ [] }
closed false end k = k

-- with the names of a tag's attributes
abbrev pub counted : List (List ℕ) → Kept → Kept
counted seen k = record k { too_many_attributes = k.too_many_attributes || nat_lt 32 (length seen) }

-- with these elements open
abbrev pub deepened : Kind → List (List ℕ) → Kept → Kept
deepened kind elements k = record k { too_deep = k.too_deep || nat_lt (deepest kind) (length elements) }

abbrev pub marked : ℕ → Kept → Kept
marked start k = record k { child_start = start }

-- which way a raw byte of a value goes
abbrev pub by_way : Bool → Bool → Bool → Kept → Kept → Kept → Kept → Kept
by_way dropped cr space a b c d = if dropped then a else if cr then b else if space then c else d

unfoldable pub value_kept : Bool → {quote : ℕ} {text rest : List ℕ} → Value quote text rest → Bool → Kept → Kept
value_kept body Value.ends after_cr k = k
value_kept body (Value.char {b = b} e v) after_cr k =
    by_way (b == 10 && after_cr) (b == 13) (b == 10 || b == 9) (value_kept body v false k) (value_kept body v true (grown body (32 ∷ []) k))
    (value_kept body v false (grown body (32 ∷ []) k)) (value_kept body v false (grown body (b ∷ []) k))
value_kept body (Value.reference r v) after_cr k = value_kept body v false (grown body (encode_utf8 (character_of r)) k)

unfoldable pub tag_kept : Bool → ℕ → {seen : List (List ℕ)} {spaced is_empty : Bool} {text rest : List ℕ} → TagRest seen spaced is_empty text rest → Kept → Kept
tag_kept body len TagRest.empty k = k
tag_kept body len TagRest.opens k = k
tag_kept body len (TagRest.space e t) k = tag_kept body len t k
tag_kept body len (TagRest.attribute {seen = seen} {name = name} {text = text} {before_equals = after_name} n fresh before after q v t) k =
    tag_kept body len t (attributed body (between len text after_name) (value_kept body v false (counted (with_name seen name) k)))

unfoldable mutual
  pub element_kept : {text rest : List ℕ} → Element text rest → Kind → ℕ → List (List ℕ) → Kept → Kept
  element_kept (Element.empty_element {name = name} n t) kind len outer k = tag_kept false len t (deepened kind (name ∷ outer) k)
  element_kept (Element.full_element {name = name} n t c e) kind len outer k = content_kept c kind len (name ∷ outer) (tag_kept false len t (deepened kind (name ∷ outer) k))

  pub content_kept : {text rest : List ℕ} → Content text rest → Kind → ℕ → List (List ℕ) → Kept → Kept
  content_kept Content.no_content kind len elements k = k
  content_kept (Content.child_element x c) kind len elements k = content_kept c kind len elements (element_kept x kind len elements k)
  content_kept (Content.reference r c) kind len elements k = content_kept c kind len elements k
  content_kept (Content.char d e c) kind len elements k = content_kept c kind len elements k
  content_kept (Content.section s c) kind len elements k = content_kept c kind len elements k

unfoldable pub children_kept : Kind → ℕ → List (List ℕ) → {text rest : List ℕ} → Children text rest → Kept → Kept
children_kept kind len elements Children.none k = k
children_kept kind len elements (Children.space e c) k = children_kept kind len elements c k
children_kept kind len elements (Children.child {text = text} {after = after} x c) k =
    children_kept kind len elements c (closed true (len - length after) (element_kept x kind len elements (marked (len - length (60 ∷ text)) k)))
