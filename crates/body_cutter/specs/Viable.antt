-- The prefixes of a text that some bytes complete, and the rows of the table of refusals by the longest of these.
use Rattle.std.specs.Prelude.{◌≡◌, ℕ, Bool, true, false, ◌<◌, ◌≤◌, ◌||◌, ◌==◌, List, ◌∷◌, ◌++◌, length, take, codes}
use Rattle.body_cutter.specs.declared.parts.CutError.{CutError}
use Rattle.body_cutter.specs.declared.parts.CutError.TheVariants.{Memory, Refused}
use Rattle.body_cutter.specs.declared.parts.CutRefusal.{CutRefusal}
use Rattle.body_cutter.specs.declared.parts.CutRefusal.TheVariants.{NotBody, Forbidden, Malformed}
use Rattle.body_cutter.specs.Chars.{is_space}
use Rattle.body_cutter.specs.Grammar.{Spaces, DeclarationRest}
use Rattle.body_cutter.specs.Refusal.{Reading, Ended, Stopped, ends_in_section_start}

-- some bytes make a text of these of it
abbrev pub IsViable : (List ℕ → Type 0) → List ℕ → Type 0
IsViable P front = (more : List ℕ) × P (front ++ more)

-- whether the reader has a state after the bytes
abbrev pub has_state : Reading → Bool
has_state (Ended s) = true
has_state (Stopped at b s) = false

-- so many bytes has the longest prefix of the text that some bytes make a text of these
pub record IsLongestViable (P : List ℕ → Type 0) (place : ℕ) (text : List ℕ) : Type 0 where
  pub within : place ≤ length text
  pub viable : IsViable P (take place text)
  pub longest : (n : ℕ) → place < n → n ≤ length text → IsViable P (take n text) → ⊥

-- a byte that ends a name of a start tag: white space, `/` or `>`
abbrev pub ends_name : ℕ → Bool
ends_name b = is_space b || (b == 47 || b == 62)

-- a text that begins with white space and `<body` whose name is ended
pub data SpacedName : List ℕ → Type 0 where
  named : {b : ℕ} {text rest : List ℕ} → Spaces text (60 ∷ 98 ∷ 111 ∷ 100 ∷ 121 ∷ b ∷ rest) → ends_name b ≡ true → SpacedName text

-- a text in which, after a declaration or none and white space, the name of the body is ended
pub data NamesBody : List ℕ → Type 0 where
  plain : {text : List ℕ} → SpacedName text → NamesBody text
  declared : {b : ℕ} {text after : List ℕ} → is_space b ≡ true → DeclarationRest text after → SpacedName after →
      NamesBody (60 ∷ 63 ∷ 120 ∷ 109 ∷ 108 ∷ b ∷ text)

-- the text has no such piece
abbrev pub Without : List ℕ → List ℕ → Type 0
Without piece text = (front back : List ℕ) → text ≡ front ++ (piece ++ back) → ⊥

-- a CDATA section is open at the end of these bytes, where what was before it fits
pub record InSection (Fits : List ℕ → Type 0) (front : List ℕ) : Type 0 where
  pub before : List ℕ
  pub inside : List ℕ
  pub is : front ≡ before ++ (codes "<![CDATA[" ++ inside)
  pub fits : Fits before
  pub open_ : Without (codes "]]>") inside

-- a reference is open at the end of these bytes: after its `&`, which doesn't stand in a section, and before its `;`
pub record InReference (Fits : List ℕ → Type 0) (front : List ℕ) : Type 0 where
  pub before : List ℕ
  pub inside : List ℕ
  pub is : front ≡ before ++ (38 ∷ inside)
  pub fits : Fits before
  pub outside : InSection Fits before → ⊥
  pub open_ : Without (codes ";") inside

-- the bytes end with a `<` outside a CDATA section
pub record EndsOpened (Fits : List ℕ → Type 0) (front : List ℕ) : Type 0 where
  pub before : List ℕ
  pub is : front ≡ before ++ codes "<"
  pub outside : InSection Fits front → ⊥

-- a byte is forbidden after a prefix: the prefix ends inside a reference; or with a `<`, and `?` or `!` follows; or like a CDATA
-- section that has not begun
pub data IsForbiddenAfter (Fits : List ℕ → Type 0) (front : List ℕ) (b : ℕ) : Type 0 where
  reference : InReference Fits front → IsForbiddenAfter Fits front b
  markup : EndsOpened Fits front → (b == 63 || b == 33) ≡ true → IsForbiddenAfter Fits front b
  section : ends_in_section_start front ≡ true → IsForbiddenAfter Fits front b

-- the row of the table that a refusal for its place stands in, of a text that is none of P; Fits tells that the prefix has
-- ended the name of the body
pub data Row (P Fits : List ℕ → Type 0) (text : List ℕ) : CutRefusal → Type 0 where
  no_body : {place : ℕ} → IsLongestViable P place text → (Fits (take place text) → ⊥) → Row P Fits text NotBody
  forbidden : {place : ℕ} (b : ℕ) (rest : List ℕ) → IsLongestViable P place text → Fits (take place text) → text ≡ take place text ++ (b ∷ rest) →
      IsForbiddenAfter Fits (take place text) b → Row P Fits text (Forbidden place)
  malformed : {place : ℕ} → IsLongestViable P place text → Fits (take place text) →
      ((b : ℕ) (rest : List ℕ) → text ≡ take place text ++ (b ∷ rest) → IsForbiddenAfter Fits (take place text) b → ⊥) → Row P Fits text (Malformed place)

-- whether a refusal is for the place where a text goes wrong
abbrev pub is_for_place : CutRefusal → Bool
is_for_place NotBody = true
is_for_place (Forbidden place) = true
is_for_place (Malformed place) = true
is_for_place _ = false

-- what every prefix of a stanza fits
abbrev pub Anything : List ℕ → Type 0
Anything front = Unit {0}

-- what an error tells by its row, if it is for a place; want of memory tells nothing
abbrev pub TellsRow : (List ℕ → Type 0) → (List ℕ → Type 0) → CutError → List ℕ → Type 0
TellsRow P Fits Memory text = Unit {0}
TellsRow P Fits (Refused refusal) text = is_for_place refusal ≡ true → Row P Fits text refusal
