-- Each byte of a text of the grammar is one of an allowed character.
use Rattle.std.proofs.Common.{◌≡◌, ℕ, Bool, true, List, refl, arith}
use Rattle.std.specs.Prelude.{Some}
use Rattle.std.proofs.lemmas.Bool.{and_parts}
use Rattle.std.proofs.lemmas.Bool.Decides.{nat_tests}
use Rattle.body_cutter.specs.Chars.{is_space, is_plain, is_letter, is_digit, begins_name_plainly, grows_name_plainly, is_name_start, is_name_byte, is_char_byte, is_allowed}
use Rattle.body_cutter.specs.References.{hex_digit}
use Rattle.body_cutter.specs.Grammar.{Spaces, NameRest, Name, Exactly, Digits, HexDigits, ReferenceRest, Value, TagRest, Section, EndTag, Element, Content, Children, BodyRest, DeclarationRest, SpacedBody, Document, Single, is_quote}
use Rattle.body_cutter.specs.BodyText.{IsBodyText, IsElementText}
use Rattle.body_cutter.specs.Utf8.{IsUtf8Of}
use Rattle.body_cutter.proofs.Utf8Allowed.{allowed_of, Chars, no_chars, char_before, chars_split}

space_char : (b : ℕ) → is_space b ≡ true → is_char_byte b ≡ true
unfolding is_space is_char_byte is_plain
space_char b h = grind (arith, nat_tests)

start_char : (b : ℕ) → is_name_start b ≡ true → is_char_byte b ≡ true
unfolding is_name_start begins_name_plainly is_letter is_char_byte is_plain
start_char b h = grind (arith, nat_tests)

name_char : (b : ℕ) → is_name_byte b ≡ true → is_char_byte b ≡ true
unfolding is_name_byte grows_name_plainly begins_name_plainly is_letter is_digit is_char_byte is_plain
name_char b h = grind (arith, nat_tests)

digit_char : (b : ℕ) → is_digit b ≡ true → is_char_byte b ≡ true
unfolding is_digit is_char_byte is_plain
digit_char b h = grind (arith, nat_tests)

hex_char : (b digit : ℕ) → hex_digit b ≡ Some digit → is_char_byte b ≡ true
unfolding hex_digit is_char_byte is_plain
hex_char b digit h = grind (arith, nat_tests)

quote_char : (b : ℕ) → is_quote b ≡ true → is_char_byte b ≡ true
unfolding is_char_byte is_plain
quote_char b h = grind (arith, nat_tests)

spaces_chars : {text rest : List ℕ} → Spaces text rest → Chars rest → Chars text
spaces_chars Spaces.none t = t
spaces_chars (Spaces.more {b = b} e s) t = char_before (space_char b e) (spaces_chars s t)

name_rest_chars : {name text rest : List ℕ} → NameRest name text rest → Chars rest → Chars text
name_rest_chars NameRest.none t = t
name_rest_chars (NameRest.more {b = b} e n) t = char_before (name_char b e) (name_rest_chars n t)

name_chars : {name text rest : List ℕ} → Name name text rest → Chars rest → Chars text
name_chars (Name.begins {b = b} e n) t = char_before (start_char b e) (name_rest_chars n t)

name_of : {name text rest : List ℕ} → Name name text rest → Chars name
name_of (Name.begins {b = b} e n) = char_before (start_char b e) (rest_of n)
  where
    rest_of : {name text rest : List ℕ} → NameRest name text rest → Chars name
    rest_of NameRest.none = no_chars
    rest_of (NameRest.more {b = b} e n) = char_before (name_char b e) (rest_of n)

exactly_chars : {name text rest : List ℕ} → Exactly name text rest → Chars name → Chars rest → Chars text
exactly_chars Exactly.none n t = t
exactly_chars (Exactly.more {b = b} x) n t = let p = chars_split n in char_before p.0 (exactly_chars x p.1 t)

digits_chars : {value : ℕ} {text rest : List ℕ} → Digits value text rest → Chars rest → Chars text
unfolding is_char_byte is_plain
digits_chars (Digits.ends a) t = char_before refl t
digits_chars (Digits.more {b = b} e d) t = char_before (digit_char b e) (digits_chars d t)

hex_chars : {value : ℕ} {text rest : List ℕ} → HexDigits value text rest → Chars rest → Chars text
unfolding is_char_byte is_plain
hex_chars (HexDigits.ends a) t = char_before refl t
hex_chars (HexDigits.more {b = b} {digit = digit} e d) t = char_before (hex_char b digit e) (hex_chars d t)

reference_chars : {text rest : List ℕ} → ReferenceRest text rest → Chars rest → Chars text
unfolding is_char_byte is_plain
reference_chars ReferenceRest.lt t = char_before refl (char_before refl (char_before refl t))
reference_chars ReferenceRest.gt t = char_before refl (char_before refl (char_before refl t))
reference_chars ReferenceRest.amp t = char_before refl (char_before refl (char_before refl (char_before refl t)))
reference_chars ReferenceRest.apos t = char_before refl (char_before refl (char_before refl (char_before refl (char_before refl t))))
reference_chars ReferenceRest.quot t = char_before refl (char_before refl (char_before refl (char_before refl (char_before refl t))))
reference_chars (ReferenceRest.decimal {b = b} e d) t = char_before refl (char_before (digit_char b e) (digits_chars d t))
reference_chars (ReferenceRest.hex {b = b} {digit = digit} e d) t = char_before refl (char_before refl (char_before (hex_char b digit e) (hex_chars d t)))

value_chars : {quote : ℕ} {text rest : List ℕ} → is_quote quote ≡ true → Value quote text rest → Chars rest → Chars text
unfolding is_char_byte is_plain
value_chars {quote} q Value.ends t = char_before (quote_char quote q) t
value_chars q (Value.char {b = b} e v) t = char_before (and_parts (is_char_byte b) _ e).0 (value_chars q v t)
value_chars q (Value.reference r v) t = char_before refl (reference_chars r (value_chars q v t))

tag_chars : {seen : List (List ℕ)} {spaced is_empty : Bool} {text rest : List ℕ} → TagRest seen spaced is_empty text rest → Chars rest → Chars text
unfolding is_char_byte is_plain
tag_chars TagRest.empty t = char_before refl (char_before refl t)
tag_chars TagRest.opens t = char_before refl t
tag_chars (TagRest.space {b = b} e r) t = char_before (space_char b e) (tag_chars r t)
tag_chars (TagRest.attribute {quote = quote} n fresh before after q v r) t =
    name_chars n (spaces_chars before (char_before refl (spaces_chars after (char_before (quote_char quote q) (value_chars q v (tag_chars r t))))))

section_chars : {text rest : List ℕ} → Section text rest → Chars rest → Chars text
unfolding is_char_byte is_plain
section_chars Section.ends t = char_before refl (char_before refl (char_before refl t))
section_chars (Section.char {b = b} e s r) t = char_before e (section_chars r t)

end_tag_chars : {name text rest : List ℕ} → EndTag name text rest → Chars name → Chars rest → Chars text
unfolding is_char_byte is_plain
end_tag_chars (EndTag.ends x s) n t = exactly_chars x n (spaces_chars s (char_before refl t))

mutual
  unfolding is_char_byte is_plain

  element_chars : {text rest : List ℕ} → Element text rest → Chars rest → Chars text
  element_chars (Element.empty_element n r) t = name_chars n (tag_chars r t)
  element_chars (Element.full_element n r c e) t =
      name_chars n (tag_chars r (content_chars c (char_before refl (char_before refl (end_tag_chars e (name_of n) t)))))

  content_chars : {text rest : List ℕ} → Content text rest → Chars rest → Chars text
  content_chars Content.no_content t = t
  content_chars (Content.child_element x c) t = char_before refl (element_chars x (content_chars c t))
  content_chars (Content.reference r c) t = char_before refl (reference_chars r (content_chars c t))
  content_chars (Content.char {b = b} d s c) t = char_before (and_parts (is_char_byte b) _ d).0 (content_chars c t)
  content_chars (Content.section s c) t =
      char_before refl (char_before refl (char_before refl (char_before refl (char_before refl (char_before refl (char_before refl (char_before refl (char_before refl
      (section_chars s (content_chars c t))))))))))

children_chars : {text rest : List ℕ} → Children text rest → Chars rest → Chars text
unfolding is_char_byte is_plain
children_chars Children.none t = t
children_chars (Children.space {b = b} e c) t = char_before (space_char b e) (children_chars c t)
children_chars (Children.child x c) t = char_before refl (element_chars x (children_chars c t))

body_chars : {text rest : List ℕ} → BodyRest text rest → Chars rest → Chars text
unfolding is_char_byte is_plain
body_chars (BodyRest.empty r) t = tag_chars r t
body_chars (BodyRest.full r c e) t =
    tag_chars r (children_chars c (char_before refl (char_before refl (end_tag_chars e (char_before refl (char_before refl (char_before refl (char_before refl no_chars)))) t))))

declaration_chars : {text rest : List ℕ} → DeclarationRest text rest → Chars rest → Chars text
unfolding is_char_byte is_plain
declaration_chars DeclarationRest.ends t = char_before refl (char_before refl t)
declaration_chars (DeclarationRest.char e s d) t = char_before e (declaration_chars d t)

spaced_chars : {text : List ℕ} → SpacedBody text → Chars text
unfolding is_char_byte is_plain
spaced_chars (SpacedBody.spaced s b e) =
    spaces_chars s (char_before refl (char_before refl (char_before refl (char_before refl (char_before refl (body_chars b (spaces_chars e no_chars)))))))

pub document_chars : {text : List ℕ} → Document text → Chars text
unfolding is_char_byte is_plain
document_chars (Document.plain s) = spaced_chars s
document_chars (Document.declared {b = b} e d s) =
    char_before refl (char_before refl (char_before refl (char_before refl (char_before refl (char_before (space_char b e) (declaration_chars d (spaced_chars s)))))))

pub single_chars : {text : List ℕ} → Single text → Chars text
unfolding is_char_byte is_plain
single_chars (Single.single x) = char_before refl (element_chars x no_chars)

-- a body's text and a stanza are of allowed characters
pub body_allowed : (text : List ℕ) → IsBodyText text → IsUtf8Of is_allowed text
body_allowed text h = allowed_of text h.0.1 (document_chars h.1)

pub element_allowed : (text : List ℕ) → IsElementText text → IsUtf8Of is_allowed text
element_allowed text h = allowed_of text h.0.1 (single_chars h.1)
