-- For each state of the control, the texts that complete it, in the words of the grammar.
use Rattle.std.proofs.Common.{◌≡◌, ℕ, suc, zero, Bool, true, false, List, [], ◌∷◌, ◌++◌}
use Rattle.std.specs.Prelude.{None, Some}
use Rattle.body_cutter.specs.declared.place.Place.{Place}
use Rattle.body_cutter.specs.declared.place.Place.TheVariants.{Start, First, DeclarationWord, Declaration, Prolog, BodyWord, StanzaStart, Content as InContent, Opened, SectionWord, Section as InSection, EndName, EndSpace, TagName, TagSpace, TagSlash, AttrName, AttrEquals, AttrQuote, Value as InValue, AfterValue}
use Rattle.body_cutter.specs.declared.place.Reference.{Reference}
use Rattle.body_cutter.specs.declared.place.Reference.TheVariants.{Begun, L, G, A, Am, Ap, Apo, Q, Qu, Quo, Named, Number, Decimal, HexMark, Hex}
use Rattle.body_cutter.specs.declared.place.Kind.{Kind}
use Rattle.body_cutter.specs.declared.place.Kind.TheVariants as kinds
use Rattle.body_cutter.specs.Names.{has_name, with_name}
use Rattle.body_cutter.specs.Grammar.{Spaces, NameRest, Exactly, Digits, HexDigits, ReferenceRest, Value, TagRest, Section, EndTag, Content, Children, DeclarationRest, SpacedBody, Document, Single, is_quote}
use Rattle.body_cutter.proofs.Control.{Control}

-- what is said of a text before which this many `]` stand, of which two are counted
abbrev pub Counted : ℕ → (List ℕ → Type 0) → List ℕ → Type 0
Counted zero P text = P text
Counted (suc zero) P text = P (93 ∷ text)
Counted (suc (suc zero)) P text = P (93 ∷ 93 ∷ text)
Counted (suc (suc (suc n))) P text = Unit {0}

-- what completes the text where an element is open that isn't the body
abbrev pub ChildEnds : List ℕ → (List ℕ → Type 0) → List ℕ → Type 0
ChildEnds name P text = (close rest : List ℕ) × Content text (60 ∷ 47 ∷ close) × EndTag name close rest × P rest

-- what completes the text where these elements are open, between tags
abbrev pub Ends : Kind → List (List ℕ) → List ℕ → Type 0
Ends kinds.Body [] text = Spaces text []
Ends kinds.Body (name ∷ []) text = (close rest : List ℕ) × Children text (60 ∷ 47 ∷ close) × EndTag name close rest × Spaces rest []
Ends kinds.Body (name ∷ outer ∷ others) text = ChildEnds name (λ rest. Ends kinds.Body (outer ∷ others) rest) text
Ends kinds.Stanza [] text = text ≡ []
Ends kinds.Stanza (name ∷ others) text = ChildEnds name (λ rest. Ends kinds.Stanza others rest) text

-- after the start tag of an element, which may be empty
abbrev pub AfterTag : Kind → List ℕ → List (List ℕ) → Bool → List ℕ → Type 0
AfterTag kind name outer true text = Ends kind outer text
AfterTag kind name outer false text = Ends kind (name ∷ outer) text

-- in a start tag
abbrev pub InTag : Kind → List ℕ → List (List ℕ) → List (List ℕ) → Bool → List ℕ → Type 0
InTag kind name outer seen spaced text = (is_empty : Bool) × (rest : List ℕ) × TagRest seen spaced is_empty text rest × AfterTag kind name outer is_empty rest

-- before a quote
abbrev pub Quoted : Kind → List ℕ → List (List ℕ) → List (List ℕ) → List ℕ → Type 0
Quoted kind name outer seen text = (quote : ℕ) × (value after : List ℕ) × Spaces text (quote ∷ value) × (is_quote quote ≡ true) × Value quote value after × InTag kind name outer seen false after

-- the rest of a reference
abbrev pub RefRest : Reference → List ℕ → List ℕ → Type 0
RefRest Begun text rest = ReferenceRest text rest
RefRest L text rest = ReferenceRest (108 ∷ text) rest
RefRest G text rest = ReferenceRest (103 ∷ text) rest
RefRest A text rest = ReferenceRest (97 ∷ text) rest
RefRest Am text rest = ReferenceRest (97 ∷ 109 ∷ text) rest
RefRest Ap text rest = ReferenceRest (97 ∷ 112 ∷ text) rest
RefRest Apo text rest = ReferenceRest (97 ∷ 112 ∷ 111 ∷ text) rest
RefRest Q text rest = ReferenceRest (113 ∷ text) rest
RefRest Qu text rest = ReferenceRest (113 ∷ 117 ∷ text) rest
RefRest Quo text rest = ReferenceRest (113 ∷ 117 ∷ 111 ∷ text) rest
RefRest (Named value) text rest = text ≡ 59 ∷ rest
RefRest Number text rest = ReferenceRest (35 ∷ text) rest
RefRest (Decimal value) text rest = Digits value text rest
RefRest HexMark text rest = ReferenceRest (35 ∷ 120 ∷ text) rest
RefRest (Hex value) text rest = HexDigits value text rest

-- what is said of a body alone, and of a stanza alone
abbrev pub ForBody : Kind → Type 0 → Type 0
ForBody kinds.Body P = P
ForBody kinds.Stanza P = Unit {0}

abbrev pub ForStanza : Kind → Type 0 → Type 0
ForStanza kinds.Body P = Unit {0}
ForStanza kinds.Stanza P = P

-- what is said where an element is open, of its name and the names outside it
abbrev pub ForOpen : List (List ℕ) → (List ℕ → List (List ℕ) → Type 0) → Type 0
ForOpen [] P = Unit {0}
ForOpen (name ∷ outer) P = P name outer

-- what is said where a child is open
abbrev pub ForChild : Kind → List (List ℕ) → Type 0 → Type 0
ForChild kinds.Body [] P = Unit {0}
ForChild kinds.Body (name ∷ []) P = Unit {0}
ForChild kinds.Body (name ∷ outer ∷ others) P = P
ForChild kinds.Stanza [] P = Unit {0}
ForChild kinds.Stanza (name ∷ others) P = P

-- between tags, after this many `]`
abbrev pub EndsAfter : Kind → List (List ℕ) → ℕ → List ℕ → Type 0
EndsAfter kinds.Body [] count text = Ends kinds.Body [] text
EndsAfter kinds.Body (name ∷ []) count text = Ends kinds.Body (name ∷ []) text
EndsAfter kinds.Body (name ∷ outer ∷ others) count text = Counted count (λ t. Ends kinds.Body (name ∷ outer ∷ others) t) text
EndsAfter kinds.Stanza [] count text = Ends kinds.Stanza [] text
EndsAfter kinds.Stanza (name ∷ others) count text = Counted count (λ t. Ends kinds.Stanza (name ∷ others) t) text

-- after a `<` in content, or before a stanza's name
abbrev pub AfterLess : Kind → List (List ℕ) → List ℕ → Type 0
AfterLess kinds.Body [] text = Unit {0}
AfterLess kinds.Body (name ∷ outer) text = Ends kinds.Body (name ∷ outer) (60 ∷ text)
AfterLess kinds.Stanza [] text = Single (60 ∷ text)
AfterLess kinds.Stanza (name ∷ outer) text = Ends kinds.Stanza (name ∷ outer) (60 ∷ text)

-- after `<?` and letters of `xml`
abbrev pub AfterXml : ℕ → List ℕ → Type 0
AfterXml zero text = Document (60 ∷ 63 ∷ text)
AfterXml (suc zero) text = Document (60 ∷ 63 ∷ 120 ∷ text)
AfterXml (suc (suc zero)) text = Document (60 ∷ 63 ∷ 120 ∷ 109 ∷ text)
AfterXml (suc (suc (suc n))) text = Document (60 ∷ 63 ∷ 120 ∷ 109 ∷ 108 ∷ text)

-- after `<` and letters of `body`, where these are the name so far
abbrev pub AfterBody : ℕ → List ℕ → List ℕ → Type 0
AfterBody zero name text = name ≡ [] → SpacedBody (60 ∷ text)
AfterBody (suc zero) name text = name ≡ 98 ∷ [] → SpacedBody (60 ∷ 98 ∷ text)
AfterBody (suc (suc zero)) name text = name ≡ 98 ∷ 111 ∷ [] → SpacedBody (60 ∷ 98 ∷ 111 ∷ text)
AfterBody (suc (suc (suc zero))) name text = name ≡ 98 ∷ 111 ∷ 100 ∷ [] → SpacedBody (60 ∷ 98 ∷ 111 ∷ 100 ∷ text)
AfterBody (suc (suc (suc (suc n)))) name text = name ≡ 98 ∷ 111 ∷ 100 ∷ 121 ∷ [] → SpacedBody (60 ∷ 98 ∷ 111 ∷ 100 ∷ 121 ∷ text)

-- `<!` and bytes of `[CDATA[`
abbrev pub section_front : ℕ → List ℕ → List ℕ
section_front zero text = 60 ∷ 33 ∷ text
section_front (suc zero) text = 60 ∷ 33 ∷ 91 ∷ text
section_front (suc (suc zero)) text = 60 ∷ 33 ∷ 91 ∷ 67 ∷ text
section_front (suc (suc (suc zero))) text = 60 ∷ 33 ∷ 91 ∷ 67 ∷ 68 ∷ text
section_front (suc (suc (suc (suc zero)))) text = 60 ∷ 33 ∷ 91 ∷ 67 ∷ 68 ∷ 65 ∷ text
section_front (suc (suc (suc (suc (suc zero))))) text = 60 ∷ 33 ∷ 91 ∷ 67 ∷ 68 ∷ 65 ∷ 84 ∷ text
section_front (suc (suc (suc (suc (suc (suc n)))))) text = 60 ∷ 33 ∷ 91 ∷ 67 ∷ 68 ∷ 65 ∷ 84 ∷ 65 ∷ text

-- a name without so many bytes
abbrev pub left : ℕ → List ℕ → List ℕ
left zero name = name
left (suc n) [] = []
left (suc n) (b ∷ name) = left n name

-- an end tag, of whose name so many bytes were read
abbrev pub InEndName : Kind → ℕ → List ℕ → List (List ℕ) → List ℕ → Type 0
InEndName kind count name outer text = (after rest : List ℕ) × Exactly (left count name) text after × Spaces after (62 ∷ rest) × Ends kind outer rest

abbrev pub mark : Bool → List ℕ → List ℕ
mark true text = 63 ∷ text
mark false text = text

-- what completes a state, apart from a reference
abbrev pub At : Place → Kind → List (List ℕ) → List ℕ → List (List ℕ) → List ℕ → Type 0
At Start kind elements name seen text = ForBody kind (elements ≡ [] → name ≡ [] → Document text)
At First kind elements name seen text = ForBody kind (elements ≡ [] → name ≡ [] → Document (60 ∷ text))
At (DeclarationWord count) kind elements name seen text = ForBody kind (elements ≡ [] → name ≡ [] → AfterXml count text)
At (Declaration after_mark) kind elements name seen text = ForBody kind (elements ≡ [] → name ≡ [] → (after : List ℕ) × DeclarationRest (mark after_mark text) after × SpacedBody after)
At Prolog kind elements name seen text = ForBody kind (elements ≡ [] → name ≡ [] → SpacedBody text)
At (BodyWord count) kind elements name seen text = ForBody kind (elements ≡ [] → AfterBody count name text)
At StanzaStart kind elements name seen text = ForStanza kind (elements ≡ [] → Single text)
At (InContent count) kind elements name seen text = EndsAfter kind elements count text
At Opened kind elements name seen text = AfterLess kind elements text
At (SectionWord count) kind elements name seen text = ForChild kind elements (Ends kind elements (section_front count text))
At (InSection count) kind elements name seen text = ForChild kind elements (Counted count (λ t. (after : List ℕ) × Section t after × Ends kind elements after) text)
At (EndName count) kind elements name seen text = ForOpen elements (λ inner outer. InEndName kind count inner outer text)
At EndSpace kind elements name seen text = ForOpen elements (λ inner outer. (rest : List ℕ) × Spaces text (62 ∷ rest) × Ends kind outer rest)
At TagName kind elements name seen text = (more after : List ℕ) × NameRest more text after × InTag kind (name ++ more) elements [] false after
At TagSpace kind elements name seen text = ForOpen elements (λ inner outer. InTag kind inner outer seen true text)
At TagSlash kind elements name seen text = ForOpen elements (λ inner outer. (rest : List ℕ) × (text ≡ 62 ∷ rest) × Ends kind outer rest)
At AttrName kind elements name seen text = ForOpen elements (λ inner outer. (more before after : List ℕ) × NameRest more text before × (has_name seen (name ++ more) ≡ false) × Spaces before (61 ∷ after) × Quoted kind inner outer (with_name seen (name ++ more)) after)
At AttrEquals kind elements name seen text = ForOpen elements (λ inner outer. (after : List ℕ) × Spaces text (61 ∷ after) × Quoted kind inner outer seen after)
At AttrQuote kind elements name seen text = ForOpen elements (λ inner outer. Quoted kind inner outer seen text)
At (InValue quote after_cr) kind elements name seen text = ForOpen elements (λ inner outer. (after : List ℕ) × Value quote text after × InTag kind inner outer seen false after)
At AfterValue kind elements name seen text = ForOpen elements (λ inner outer. InTag kind inner outer seen false text)

-- what completes a state
abbrev pub Completes : Kind → Control → List ℕ → Type 0
Completes kind c text = elim c.reference [ None ↦ At c.place kind c.elements c.name c.seen text | Some reference ↦ (after : List ℕ) × RefRest reference text after × At c.place kind c.elements c.name c.seen after ]
