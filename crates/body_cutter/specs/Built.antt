-- Texts of bodies that are built of attributes and elements.
use Rattle.std.specs.Prelude.{◌≡◌, ℕ, ◌≤◌, false, List, [], ◌∷◌, ◌++◌, map, codes}
use Rattle.body_cutter.specs.Names.{has_name, with_name}
use Rattle.body_cutter.specs.Grammar.{Name, Value}
use Rattle.body_cutter.specs.Parts.{Parts, value_of}
use Rattle.body_cutter.specs.BodyText.{HasBodyParts, HasElementParts}
use Rattle.body_cutter.specs.Pieces.{bytes_at}

-- an attribute as it is written: its name, the bytes between its apostrophes, and the value that they spell
pub record Written : Type 0 where
  pub name : List ℕ
  pub spelling : List ℕ
  pub value : List ℕ

-- bytes that spell a value, whatever follows their apostrophe
abbrev pub Spells : List ℕ → List ℕ → Type 0
Spells spelling value = (rest : List ℕ) → (v : Value 39 (spelling ++ 39 ∷ rest) rest) × (value_of v ≡ value)

pub record IsWritten (attribute : Written) : Type 0 where
  pub name : Name attribute.name attribute.name []
  pub value : Spells attribute.spelling attribute.value

-- names of which none comes twice, and none is one of these
abbrev pub AreFresh : List (List ℕ) → List Written → Type 0
AreFresh seen [] = Unit {0}
AreFresh seen (attribute ∷ attributes) = (has_name seen attribute.name ≡ false) × AreFresh (with_name seen attribute.name) attributes

-- attributes, each after a space and with apostrophes, and what follows them
abbrev pub attributes_text : List Written → List ℕ → List ℕ
attributes_text [] rest = rest
attributes_text (attribute ∷ attributes) rest = 32 ∷ (attribute.name ++ (61 ∷ 39 ∷ (attribute.spelling ++ (39 ∷ attributes_text attributes rest))))

-- elements one after the other, and what follows them
abbrev pub elements_text : List (List ℕ) → List ℕ → List ℕ
elements_text [] rest = rest
elements_text (element ∷ elements) rest = element ++ elements_text elements rest

-- the end of the body's tag, its elements, and the end of the body
abbrev pub closing : List (List ℕ) → List ℕ
closing [] = codes "/>"
closing (element ∷ elements) = codes ">" ++ elements_text (element ∷ elements) (codes "</body>")

-- a body of these attributes and elements
abbrev pub built_text : List Written → List (List ℕ) → List ℕ
built_text attributes elements = codes "<body" ++ attributes_text attributes (closing elements)

-- an element by itself with at most so many attributes in a tag, and at most so deep
abbrev pub IsElementWithin : ℕ → ℕ → List ℕ → Type 0
IsElementWithin most depth text = (parts : Parts) × HasElementParts text parts × (parts.most_attributes ≤ most) × (parts.depth ≤ depth)

-- a body's text with these names and values, and these bytes as its children
pub record ReadsBack (text : List ℕ) (attributes : List Written) (elements : List (List ℕ)) (most depth : ℕ) : Type 0 where
  pub parts : Parts
  pub is : HasBodyParts text parts
  pub names : map (λ attribute. bytes_at text attribute.name) parts.attributes ≡ map (λ attribute. attribute.name) attributes
  pub values : map (λ attribute. attribute.value) parts.attributes ≡ map (λ attribute. attribute.value) attributes
  pub children : map (λ child. bytes_at text child) parts.children ≡ elements
  pub most_attributes : parts.most_attributes ≤ most
  pub depth_within : parts.depth ≤ depth
