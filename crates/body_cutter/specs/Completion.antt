-- Bytes that complete a text from where the reader stands.
use Rattle.std.specs.Prelude.{ℕ, Bool, true, false, nat_lt, List, [], ◌∷◌, ◌++◌, drop, map, codes, Option, None, Some, if◌then◌else◌}
use Rattle.std.specs.List.{concat}
use Rattle.body_cutter.specs.declared.place.Place.{Place}
use Rattle.body_cutter.specs.declared.place.Place.TheVariants.{Start, First, DeclarationWord, Declaration, Prolog, BodyWord, StanzaStart, Content, Opened, SectionWord, Section, EndName, EndSpace, TagName, TagSpace, TagSlash, AttrName, AttrEquals, AttrQuote, Value, AfterValue}
use Rattle.body_cutter.specs.declared.place.Wide.{Wide}
use Rattle.body_cutter.specs.declared.place.Wide.TheVariants.{Whole, One, Two, Three, AfterE0, AfterEd, AfterEf, AfterEfBf, AfterF0, AfterF4}
use Rattle.body_cutter.specs.declared.place.Reference.{Reference}
use Rattle.body_cutter.specs.declared.place.Reference.TheVariants.{Begun, L, G, A, Am, Ap, Apo, Q, Qu, Quo, Named, Number, Decimal, HexMark, Hex}
use Rattle.body_cutter.specs.Chars.{is_allowed}
use Rattle.body_cutter.specs.Names.{without_first}
use Rattle.body_cutter.specs.Reader.{State}

-- the rest of a character
unfoldable pub wide_rest : Wide → List ℕ
wide_rest Whole = []
wide_rest One = 0x80 ∷ []
wide_rest Two = 0x80 ∷ 0x80 ∷ []
wide_rest Three = 0x80 ∷ 0x80 ∷ 0x80 ∷ []
wide_rest AfterE0 = 0xa0 ∷ 0x80 ∷ []
wide_rest AfterEd = 0x80 ∷ 0x80 ∷ []
wide_rest AfterEf = 0x80 ∷ 0x80 ∷ []
wide_rest AfterEfBf = 0x80 ∷ []
wide_rest AfterF0 = 0x90 ∷ 0x80 ∷ 0x80 ∷ []
wide_rest AfterF4 = 0x80 ∷ 0x80 ∷ 0x80 ∷ []

-- the rest of a number that has this value so far: digits, if it is no allowed character yet, and `;`
unfoldable pub number_rest : ℕ → List ℕ
number_rest value = if is_allowed value then codes ";" else if nat_lt value 32 then codes "99;" else codes "9;"

-- the rest of a reference
unfoldable pub reference_rest : Option Reference → List ℕ
reference_rest None = []
reference_rest (Some Begun) = codes "lt;"
reference_rest (Some L) = codes "t;"
reference_rest (Some G) = codes "t;"
reference_rest (Some A) = codes "mp;"
reference_rest (Some Am) = codes "p;"
reference_rest (Some Ap) = codes "os;"
reference_rest (Some Apo) = codes "s;"
reference_rest (Some Q) = codes "uot;"
reference_rest (Some Qu) = codes "ot;"
reference_rest (Some Quo) = codes "t;"
reference_rest (Some (Named value)) = codes ";"
reference_rest (Some Number) = codes "9;"
reference_rest (Some (Decimal value)) = number_rest value
reference_rest (Some HexMark) = codes "9;"
reference_rest (Some (Hex value)) = number_rest value

-- the rest of the name of an end tag that has so many bytes
unfoldable pub end_name_rest : List (List ℕ) → ℕ → List ℕ
end_name_rest [] count = []
end_name_rest (name ∷ outer) count = drop count name

-- a letter more than these names have bytes
unfoldable pub fresh_letters : List (List ℕ) → List ℕ
fresh_letters names = 97 ∷ map (λ _. 97) (concat names)

-- the rest of what has begun at a place, where these elements are open and the tag has these attributes: the body, if it has not
-- begun, or the tag, the section
unfoldable pub place_rest : Place → List (List ℕ) → List (List ℕ) → List ℕ
place_rest Start elements seen = codes "<body/>"
place_rest First elements seen = codes "body/>"
place_rest (DeclarationWord count) elements seen = drop count (codes "xml") ++ codes " ?><body/>"
place_rest (Declaration after_mark) elements seen = codes "?><body/>"
place_rest Prolog elements seen = codes "<body/>"
place_rest (BodyWord count) elements seen = drop count (codes "body") ++ codes "/>"
place_rest StanzaStart elements seen = codes "<a/>"
place_rest (Content brackets) elements seen = []
place_rest Opened elements seen = codes "a/>"
place_rest (SectionWord count) elements seen = drop count (codes "[CDATA") ++ codes "[]]>"
place_rest (Section brackets) elements seen = codes "]]>"
place_rest (EndName count) elements seen = end_name_rest elements count ++ codes ">"
place_rest EndSpace elements seen = codes ">"
place_rest TagName elements seen = codes "/>"
place_rest TagSpace elements seen = codes "/>"
place_rest TagSlash elements seen = codes ">"
place_rest AttrName elements seen = fresh_letters seen ++ codes "=''/>"
place_rest AttrEquals elements seen = codes "=''/>"
place_rest AttrQuote elements seen = codes "''/>"
place_rest (Value quote after_cr) elements seen = quote ∷ codes "/>"
place_rest AfterValue elements seen = codes "/>"

-- whether the tag that has begun at a place is that of the innermost open element, which ends with it
abbrev pub ends_innermost : Place → Bool
ends_innermost (EndName count) = true
ends_innermost EndSpace = true
ends_innermost TagSpace = true
ends_innermost TagSlash = true
ends_innermost AttrName = true
ends_innermost AttrEquals = true
ends_innermost AttrQuote = true
ends_innermost (Value quote after_cr) = true
ends_innermost AfterValue = true
ends_innermost _ = false

-- the end tags of these elements
unfoldable pub end_tags : List (List ℕ) → List ℕ
end_tags [] = []
end_tags (name ∷ outer) = codes "</" ++ (name ++ (62 ∷ end_tags outer))

-- the rest of the last character, which in the name of an end tag is that of the name
abbrev pub character_rest : Place → Wide → List ℕ
character_rest (EndName count) wide = []
character_rest _ wide = wide_rest wide

-- bytes that complete the text from a state: the rest of the reference and of the character, the rest of the tag or the
-- section, or the body where it has not begun, and the end tags of the open elements
unfoldable pub completion : State → List ℕ
completion s =
    reference_rest s.reference ++ (character_rest s.place s.wide ++ (place_rest s.place s.elements s.seen
    ++ end_tags (if ends_innermost s.place then without_first s.elements else s.elements)))
