-- The texts of bodies and of stanzas with their parts, and what a refusal tells of a text.
use Rattle.std.specs.Prelude.{◌≡◌, ℕ, ◌+◌, ◌<◌, ◌≤◌, nat_lt, List, ◌++◌, length, take, IsTrue, IsUtf8, Option, Some, None, Result, if◌then◌else◌}
use Rattle.body_cutter.specs.declared.place.Wide.TheVariants.{Whole}
use Rattle.body_cutter.specs.declared.parts.Cut.{Cut}
use Rattle.body_cutter.specs.declared.parts.CutError.{CutError}
use Rattle.body_cutter.specs.declared.parts.CutError.TheVariants.{Memory, Refused}
use Rattle.body_cutter.specs.declared.parts.CutRefusal.{CutRefusal}
use Rattle.body_cutter.specs.declared.parts.CutRefusal.TheVariants.{TooLong, NotUtf8, NotBody, Forbidden, Malformed, TooManyAttributes, TooManyChildren, TooDeep}
use Rattle.body_cutter.specs.Chars.{ends_whole}
use Rattle.body_cutter.specs.Grammar.{Document, Single}
use Rattle.body_cutter.specs.Parts.{Parts, document_parts, single_parts}
use Rattle.body_cutter.specs.Refusal.{refusal_or}

-- a text of allowed characters (XML 1.0 section 2.2) in UTF-8
abbrev pub IsText : List ℕ → Type 0
IsText text = IsUtf8 text × IsTrue (ends_whole Whole text)

-- a body's text, whatever its limits
abbrev pub IsBodyText : List ℕ → Type 0
IsBodyText text = IsText text × Document text

-- an element by itself, whatever its limits
abbrev pub IsElementText : List ℕ → Type 0
IsElementText text = IsText text × Single text

-- the same with these parts
abbrev pub HasBodyParts : List ℕ → Parts → Type 0
HasBodyParts text parts = IsText text × (d : Document text) × (document_parts (length text) d ≡ parts)

abbrev pub HasElementParts : List ℕ → Parts → Type 0
HasElementParts text parts = IsText text × (x : Single text) × (single_parts x ≡ parts)

-- at most 32 attributes in each tag, at most 1024 children, and no element more than 64 deep
pub record IsWithinLimits (parts : Parts) : Type 0 where
  pub attributes : parts.most_attributes ≤ 32
  pub children : length parts.children ≤ 1024
  pub depth : parts.depth ≤ 64

-- the first limit that the parts pass
unfoldable pub limit_passed : Parts → Option CutRefusal
limit_passed parts =
    if nat_lt 32 parts.most_attributes then Some TooManyAttributes else if nat_lt 1024 (length parts.children) then Some TooManyChildren
    else if nat_lt 64 parts.depth then Some TooDeep else None

-- a body in these parts
abbrev pub cut_with : Parts → Cut
cut_with parts = record { attrs = parts.attributes; children = parts.children }

-- what a text with these parts gives: the parts, or the first limit that they pass
abbrev pub answer_of : Parts → Result Cut CutRefusal
answer_of parts = refusal_or (limit_passed parts) (cut_with parts)

-- the text of a body, and what it is cut into
abbrev pub IsBody : List ℕ → Cut → Type 0
IsBody text cut = (length text ≤ 1048576) × (parts : Parts) × HasBodyParts text parts × IsWithinLimits parts × (cut ≡ cut_with parts)

-- the text of a stanza
abbrev pub IsStanza : List ℕ → Type 0
IsStanza text = (length text ≤ 1000000) × (parts : Parts) × HasElementParts text parts × IsWithinLimits parts

-- UTF-8 of at most so many bytes
abbrev pub IsReadable : ℕ → List ℕ → Type 0
IsReadable longest text = (length text ≤ longest) × IsUtf8 text

-- no text of these begins as this one does up to the byte at this place
abbrev pub IsWrongAt : (List ℕ → Type 0) → ℕ → List ℕ → Type 0
IsWrongAt P place text = place < length text → (more : List ℕ) → P (take (place + 1) text ++ more) → ⊥

-- a text with parts of which this is said
abbrev pub WithParts : (List ℕ → Parts → Type 0) → List ℕ → (Parts → Type 0) → Type 0
WithParts Has text Q = (parts : Parts) × Has text parts × Q parts

-- what a refusal tells of a text, where P are the texts of the grammar, and Has tells their parts
abbrev pub RefusalTells : (List ℕ → Type 0) → (List ℕ → Parts → Type 0) → ℕ → CutRefusal → List ℕ → Type 0
RefusalTells P Has longest TooLong text = longest < length text
RefusalTells P Has longest NotUtf8 text = (length text ≤ longest) × (IsUtf8 text → ⊥)
RefusalTells P Has longest NotBody text = IsReadable longest text × (P text → ⊥)
RefusalTells P Has longest (Forbidden place) text = IsReadable longest text × (P text → ⊥) × IsWrongAt P place text
RefusalTells P Has longest (Malformed place) text = IsReadable longest text × (P text → ⊥) × IsWrongAt P place text
RefusalTells P Has longest TooManyAttributes text = (length text ≤ longest) × WithParts Has text (λ parts. 32 < parts.most_attributes)
RefusalTells P Has longest TooManyChildren text = (length text ≤ longest) × WithParts Has text (λ parts. (parts.most_attributes ≤ 32) × (1024 < length parts.children))
RefusalTells P Has longest TooDeep text = (length text ≤ longest) × WithParts Has text (λ parts. (parts.most_attributes ≤ 32) × (length parts.children ≤ 1024) × (64 < parts.depth))

-- what an error tells of a text; want of memory tells nothing
abbrev pub Tells : (List ℕ → Type 0) → (List ℕ → Parts → Type 0) → ℕ → CutError → List ℕ → Type 0
Tells P Has longest Memory text = Unit {0}
Tells P Has longest (Refused refusal) text = RefusalTells P Has longest refusal text
