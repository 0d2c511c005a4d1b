-- The reader: what it keeps, and what each byte makes of it.
use Rattle.std.specs.Prelude.{ℕ, Bool, true, false, ◌+◌, ◌||◌, nat_lt, List, [], ◌∷◌, ◌++◌, length, encode_utf8, Option, None, Some, if◌then◌else◌}
use Rattle.body_cutter.specs.declared.place.Place.{Place}
use Rattle.body_cutter.specs.declared.place.Place.TheVariants.{Start, First, DeclarationWord, Declaration, Prolog, BodyWord, StanzaStart, Content, Opened, SectionWord, Section, EndName, EndSpace, TagName, TagSpace, TagSlash, AttrName, AttrEquals, AttrQuote, Value, AfterValue}
use Rattle.body_cutter.specs.declared.place.Wide.{Wide}
use Rattle.body_cutter.specs.declared.place.Wide.TheVariants.{Whole}
use Rattle.body_cutter.specs.declared.place.Reference.{Reference}
use Rattle.body_cutter.specs.declared.place.ReferenceMove.{ReferenceMove}
use Rattle.body_cutter.specs.declared.place.ReferenceMove.TheVariants.{More, Done}
use Rattle.body_cutter.specs.declared.place.Kind.{Kind}
use Rattle.body_cutter.specs.declared.place.Kind.TheVariants as kinds
use Rattle.body_cutter.specs.declared.place.Around.{Around}
use Rattle.body_cutter.specs.declared.place.Around.TheVariants.{Body}
use Rattle.body_cutter.specs.declared.place.Act.{Act}
use Rattle.body_cutter.specs.declared.place.Act.TheVariants.{Pass, Mark, BeginName, GrowName, OpenElement, EndAttrName, ValueByte, ValueChar, EndAttr, CloseElement}
use Rattle.body_cutter.specs.declared.place.Move.{Move}
use Rattle.body_cutter.specs.declared.parts.Attr.{Attr}
use Rattle.body_cutter.specs.declared.parts.Span.{Span}
use Rattle.body_cutter.specs.Chars.{wide_next}
use Rattle.body_cutter.specs.References.{reference_next}
use Rattle.body_cutter.specs.Names.{around, due, has_name, with_name, without_first}
use Rattle.body_cutter.specs.Tables.{start_next, first_next, declaration_word_next, declaration_next, prolog_next, body_word_next, content_next, opened_next, section_word_next, section_next, end_name_next, end_space_next, tag_name_next, tag_space_next, tag_slash_next, attr_name_next, attr_equals_next, attr_quote_next, value_next, after_value_next, stanza_start_next}

-- what the reader keeps
pub record State : Type 0 where
  -- a body, or a stanza by itself
  pub kind : Kind
  pub place : Place
  -- what of the last character is still to come
  pub wide : Wide
  -- the reference that is being read
  pub reference : Option Reference
  -- the names of the open elements, the innermost first
  pub elements : List (List ℕ)
  -- the name that is being read, and where it lies
  pub name : List ℕ
  pub name_start : ℕ
  pub name_end : ℕ
  -- the names of the tag's attributes
  pub seen : List (List ℕ)
  -- the value of the body's attribute that is being read
  pub value : List ℕ
  -- the body's attributes and children so far
  pub attrs : List Attr
  pub child_start : ℕ
  pub children : List Span
  -- a tag had more than 32 attributes; an element lay more than 64 deep
  pub too_many_attributes : Bool
  pub too_deep : Bool

-- where a byte leads after a whole character
unfoldable pub place_next : Place → Around → Option (ℕ × ℕ) → ℕ → Option Move
place_next Start around due b = start_next b
place_next First around due b = first_next b
place_next (DeclarationWord count) around due b = declaration_word_next count b
place_next (Declaration after_mark) around due b = declaration_next after_mark b
place_next Prolog around due b = prolog_next b
place_next (BodyWord count) around due b = body_word_next count b
place_next StanzaStart around due b = stanza_start_next b
place_next (Content brackets) around due b = content_next around brackets b
place_next Opened around due b = opened_next around b
place_next (SectionWord count) around due b = section_word_next count b
place_next (Section brackets) around due b = section_next brackets b
place_next (EndName count) around due b = end_name_next due b
place_next EndSpace around due b = end_space_next b
place_next TagName around due b = tag_name_next b
place_next TagSpace around due b = tag_space_next b
place_next TagSlash around due b = tag_slash_next b
place_next AttrName around due b = attr_name_next b
place_next AttrEquals around due b = attr_equals_next b
place_next AttrQuote around due b = attr_quote_next b
place_next (Value quote after_cr) around due b = value_next quote after_cr b
place_next AfterValue around due b = after_value_next b

-- how many bytes of the innermost name an end tag has
unfoldable pub matched : Place → ℕ
matched (EndName count) = count
matched _ = 0

abbrev pub reference_moved : Place → Option ReferenceMove → Option Move
reference_moved place None = None
reference_moved place (Some (More reference)) = Some (record { place = place; reference = Some reference; act = Pass })
reference_moved place (Some (Done character)) = Some (record { place = place; reference = None; act = ValueChar character })

-- where a byte leads
unfoldable pub move_of : Place → Option Reference → Around → Option (ℕ × ℕ) → ℕ → Option Move
move_of place None around due b = place_next place around due b
move_of place (Some reference) around due b = reference_moved place (reference_next reference b)

-- whether these are the body's attributes
unfoldable pub is_body_tag : Around → Bool
is_body_tag Body = true
is_body_tag _ = false

-- with these bytes at the end of the value, if it is one of the body's
unfoldable pub with_value : State → List ℕ → State
with_value s bytes = if is_body_tag (around s.kind s.elements) then record s { value = s.value ++ bytes } else s

-- how many elements may be open: a child lies 1 deep, and the body 0
abbrev pub deepest : Kind → ℕ
deepest kinds.Body = 65
deepest kinds.Stanza = 64

-- with one more element open
unfoldable pub with_element : State → State
with_element s =
    let elements = s.name ∷ s.elements in
    record s { elements = elements; name = []; seen = []; too_deep = s.too_deep || nat_lt (deepest s.kind) (length elements) }

-- with one more name of an attribute
unfoldable pub with_attr_name : State → ℕ → State
with_attr_name s at =
    let seen = with_name s.seen s.name in
    record s { name = []; name_end = at; seen = seen; too_many_attributes = s.too_many_attributes || nat_lt 32 (length seen) }

-- with one more attribute, if it is one of the body's
unfoldable pub with_attr : State → State
with_attr s =
    if is_body_tag (around s.kind s.elements) then record s {
      attrs = s.attrs ++ record { name = record { start = s.name_start; end = s.name_end }; value = s.value } ∷ [];
      value = [];
    } else s

-- with one element less, which may be a child
unfoldable pub without_element : State → ℕ → State
without_element s at =
    let elements = without_first s.elements in
    if is_body_tag (around s.kind elements) then record s { elements = elements; children = s.children ++ record { start = s.child_start; end = at + 1 } ∷ [] }
    else record s { elements = elements }

-- with the first byte of a name
unfoldable pub with_name_begun : State → ℕ → ℕ → State
with_name_begun s at b = record s { name = b ∷ []; name_start = at }

-- with one byte more of a name
unfoldable pub with_name_grown : State → ℕ → State
with_name_grown s b = record s { name = s.name ++ b ∷ [] }

-- an attribute's name ends, which no other attribute of the tag has
unfoldable pub attr_named : State → ℕ → Option State
attr_named s at = if has_name s.seen s.name then None else Some (with_attr_name s at)

-- what a byte at this place does
unfoldable pub acted : Act → State → ℕ → ℕ → Option State
acted Pass s at b = Some s
acted Mark s at b = Some (record s { child_start = at })
acted BeginName s at b = Some (with_name_begun s at b)
acted GrowName s at b = Some (with_name_grown s b)
acted OpenElement s at b = Some (with_element s)
acted EndAttrName s at b = attr_named s at
acted ValueByte s at b = Some (with_value s (b ∷ []))
acted (ValueChar character) s at b = Some (with_value s (encode_utf8 character))
acted EndAttr s at b = Some (with_attr s)
acted CloseElement s at b = Some (without_element s at)

abbrev pub placed : Wide → Move → Option State → Option State
placed wide move None = None
placed wide move (Some s) = Some (record s { place = move.place; reference = move.reference; wide = wide })

abbrev pub moved : Option Wide → Option Move → State → ℕ → ℕ → Option State
moved None move s at b = None
moved (Some wide) None s at b = None
moved (Some wide) (Some move) s at b = placed wide move (acted move.act s at b)

-- where a byte leads from a state
unfoldable pub next_move : State → ℕ → Option Move
next_move s b = move_of s.place s.reference (around s.kind s.elements) (due s.elements (matched s.place)) b

-- the state after the byte b, which lies at this place; none where no text goes on so
unfoldable pub step : State → ℕ → ℕ → Option State
step s at b = moved (wide_next s.wide b) (next_move s b) s at b

-- before the first byte
unfoldable pub first_state : Kind → Place → State
first_state kind place = record {
  kind = kind;
  place = place;
  wide = Whole;
  reference = None;
  elements = [];
  name = [];
  name_start = 0;
  name_end = 0;
  seen = [];
  value = [];
  attrs = [];
  child_start = 0;
  children = [];
  too_many_attributes = false;
  too_deep = false;
}
