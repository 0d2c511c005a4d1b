-- Where each byte leads, by the place before it.
use Rattle.std.specs.Prelude.{ℕ, Bool, true, false, ◌+◌, ◌&&◌, ◌||◌, ◌==◌, nat_lt, Option, None, Some, if◌then◌else◌}
use Rattle.body_cutter.specs.declared.place.Place.{Place}
use Rattle.body_cutter.specs.declared.place.Place.TheVariants.{First, DeclarationWord, Declaration, Prolog, BodyWord, Content, Opened, SectionWord, Section, EndName, EndSpace, TagName, TagSpace, TagSlash, AttrName, AttrEquals, AttrQuote, Value, AfterValue}
use Rattle.body_cutter.specs.declared.place.Reference.TheVariants.{Begun}
use Rattle.body_cutter.specs.declared.place.Around.{Around}
use Rattle.body_cutter.specs.declared.place.Around.TheVariants.{NoBody, NoStanza, Body, Child}
use Rattle.body_cutter.specs.declared.place.Act.{Act}
use Rattle.body_cutter.specs.declared.place.Act.TheVariants.{Pass, Mark, BeginName, GrowName, OpenElement, EndAttrName, ValueByte, ValueChar, EndAttr, CloseElement}
use Rattle.body_cutter.specs.declared.place.Move.{Move}
use Rattle.body_cutter.specs.Chars.{is_space, is_char_byte, is_name_start, is_name_byte}

-- a move after a whole character
abbrev pub goes : Place → Act → Option Move
goes place act = Some (record { place = place; reference = None; act = act })

abbrev pub goes_if : Bool → Place → Act → Option Move
goes_if can place act = if can then goes place act else None

-- at the first byte
unfoldable pub start_next : ℕ → Option Move
start_next b = if b == 60 then goes First Pass else goes_if (is_space b) Prolog Pass

-- after a `<` that is the first byte
unfoldable pub first_next : ℕ → Option Move
first_next b = if b == 63 then goes (DeclarationWord 0) Pass else goes_if (b == 98) (BodyWord 1) GrowName

-- the letter of `xml` at this place
unfoldable pub xml_letter : ℕ → ℕ
xml_letter count = if count == 0 then 120 else if count == 1 then 109 else 108

-- after `<?` and letters of `xml`
unfoldable pub declaration_word_next : ℕ → ℕ → Option Move
declaration_word_next count b =
    if nat_lt count 3 then goes_if (b == xml_letter count) (DeclarationWord (count + 1)) Pass
    else goes_if (is_space b) (Declaration false) Pass

-- in the declaration, up to the first `?>`
unfoldable pub declaration_next : Bool → ℕ → Option Move
declaration_next after_mark b =
    if after_mark && b == 62 then goes Prolog Pass else goes_if (is_char_byte b) (Declaration (b == 63)) Pass

-- before the body's `<`
unfoldable pub prolog_next : ℕ → Option Move
prolog_next b = if b == 60 then goes (BodyWord 0) Pass else goes_if (is_space b) Prolog Pass

-- the letter of `body` at this place
unfoldable pub body_letter : ℕ → ℕ
body_letter count = if count == 0 then 98 else if count == 1 then 111 else if count == 2 then 100 else 121

-- after the name of a start tag
unfoldable pub name_ended : ℕ → Option Move
name_ended b =
    if b == 47 then goes TagSlash OpenElement else if b == 62 then goes (Content 0) OpenElement
    else goes_if (is_space b) TagSpace OpenElement

-- after the body's `<` and letters of `body`
unfoldable pub body_word_next : ℕ → ℕ → Option Move
body_word_next count b =
    if nat_lt count 4 then goes_if (b == body_letter count) (BodyWord (count + 1)) GrowName else name_ended b

-- in the name of a start tag
unfoldable pub tag_name_next : ℕ → Option Move
tag_name_next b = if is_name_byte b then goes TagName GrowName else name_ended b

-- after white space in a tag
unfoldable pub tag_space_next : ℕ → Option Move
tag_space_next b =
    if b == 47 then goes TagSlash Pass else if b == 62 then goes (Content 0) Pass
    else if is_space b then goes TagSpace Pass else goes_if (is_name_start b) AttrName BeginName

-- in the name of an attribute
unfoldable pub attr_name_next : ℕ → Option Move
attr_name_next b =
    if b == 61 then goes AttrQuote EndAttrName else if is_space b then goes AttrEquals EndAttrName
    else goes_if (is_name_byte b) AttrName GrowName

-- in the white space before `=`
unfoldable pub attr_equals_next : ℕ → Option Move
attr_equals_next b = if b == 61 then goes AttrQuote Pass else goes_if (is_space b) AttrEquals Pass

-- after `=`
unfoldable pub attr_quote_next : ℕ → Option Move
attr_quote_next b =
    if b == 39 then goes (Value 39 false) Pass else if b == 34 then goes (Value 34 false) Pass
    else goes_if (is_space b) AttrQuote Pass

-- after a `&`
abbrev pub begins_reference : Place → Option Move
begins_reference place = Some (record { place = place; reference = Some Begun; act = Pass })

-- a character of a value that stands for itself, or for a space (XML 1.0 sections 2.11 and 3.3.3)
unfoldable pub value_plain : ℕ → Bool → ℕ → Option Move
value_plain quote after_cr b =
    if b == 10 && after_cr then goes (Value quote false) Pass else if b == 13 then goes (Value quote true) (ValueChar 32)
    else if b == 10 || b == 9 then goes (Value quote false) (ValueChar 32)
    else goes_if (is_char_byte b) (Value quote false) ValueByte

-- in a value
unfoldable pub value_next : ℕ → Bool → ℕ → Option Move
value_next quote after_cr b =
    if b == quote then goes AfterValue EndAttr else if b == 60 then None
    else if b == 38 then begins_reference (Value quote false) else value_plain quote after_cr b

-- after a value's last quote
unfoldable pub after_value_next : ℕ → Option Move
after_value_next b =
    if b == 47 then goes TagSlash Pass else if b == 62 then goes (Content 0) Pass else goes_if (is_space b) TagSpace Pass

-- after the `/` of an empty element
unfoldable pub tag_slash_next : ℕ → Option Move
tag_slash_next b = goes_if (b == 62) (Content 0) CloseElement

-- before the `<` of a stanza by itself
unfoldable pub stanza_start_next : ℕ → Option Move
stanza_start_next b = goes_if (b == 60) Opened Pass

-- one `]` more, of which two are counted
unfoldable pub more_brackets : ℕ → ℕ
more_brackets count = if count == 0 then 1 else 2

-- in a child's content, where `]]>` may not stand (XML 1.0 section 2.4)
unfoldable pub child_content_next : ℕ → ℕ → Option Move
child_content_next brackets b =
    if b == 60 then goes Opened Pass else if b == 38 then begins_reference (Content 0)
    else if b == 93 then goes (Content (more_brackets brackets)) Pass
    else if b == 62 && brackets == 2 then None else goes_if (is_char_byte b) (Content 0) Pass

-- in the body's own content: white space and children
unfoldable pub body_content_next : ℕ → Option Move
body_content_next b = if b == 60 then goes Opened Mark else goes_if (is_space b) (Content 0) Pass

-- between tags
unfoldable pub content_next : Around → ℕ → ℕ → Option Move
content_next NoBody brackets b = goes_if (is_space b) (Content 0) Pass
content_next NoStanza brackets b = None
content_next Body brackets b = body_content_next b
content_next Child brackets b = child_content_next brackets b

-- after a `<` between children
unfoldable pub opened_in_body : ℕ → Option Move
opened_in_body b = if b == 47 then goes (EndName 0) Pass else goes_if (is_name_start b) TagName BeginName

-- after a `<` in a child
unfoldable pub opened_in_child : ℕ → Option Move
opened_in_child b = if b == 33 then goes (SectionWord 0) Pass else opened_in_body b

-- after a `<` in content
unfoldable pub opened_next : Around → ℕ → Option Move
opened_next NoBody b = goes_if (is_name_start b) TagName BeginName
opened_next NoStanza b = goes_if (is_name_start b) TagName BeginName
opened_next Body b = opened_in_body b
opened_next Child b = opened_in_child b

-- the byte of `[CDATA[` at this place
unfoldable pub section_letter : ℕ → ℕ
section_letter count =
    if count == 1 then 67 else if count == 2 then 68 else if count == 3 then 65 else if count == 4 then 84
    else if count == 5 then 65 else 91

-- after `<!` and bytes of `[CDATA[`
unfoldable pub section_word_next : ℕ → ℕ → Option Move
section_word_next count b =
    if nat_lt count 6 then goes_if (b == section_letter count) (SectionWord (count + 1)) Pass
    else goes_if (b == 91) (Section 0) Pass

-- in a CDATA section, up to the first `]]>`
unfoldable pub section_next : ℕ → ℕ → Option Move
section_next brackets b =
    if b == 93 then goes (Section (more_brackets brackets)) Pass
    else if b == 62 && brackets == 2 then goes (Content 0) Pass else goes_if (is_char_byte b) (Section 0) Pass

-- after the name of an end tag
unfoldable pub end_space_next : ℕ → Option Move
end_space_next b = if b == 62 then goes (Content 0) CloseElement else goes_if (is_space b) EndSpace Pass

-- in an end tag: the byte of the name that is due, and after the name white space or `>`
unfoldable pub end_name_next : Option (ℕ × ℕ) → ℕ → Option Move
end_name_next None b = end_space_next b
end_name_next (Some next) b = goes_if (b == next.0) (EndName next.1) Pass
