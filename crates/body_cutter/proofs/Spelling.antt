-- Bytes between apostrophes that spell a value, byte by byte.
use Rattle.std.proofs.Common.{◌≡◌, ◌∙◌, ℕ, Bool, true, false, List, [], ◌∷◌, ◌++◌, refl, ap}
use Rattle.std.proofs.lemmas.Bool.{eqb-true}
use Rattle.std.specs.Prelude.{◌==◌}
use Rattle.std.proofs.Math.Utf8.{encode}
use Rattle.body_cutter.specs.Chars.{is_space, is_digit, is_allowed}
use Rattle.body_cutter.specs.Grammar.{Digits, ReferenceRest, Value, is_value_byte}
use Rattle.body_cutter.specs.Parts.{decimal_number, character_of, normalised, value_of}
use Rattle.body_cutter.specs.Built.{Spells}

pub spells_nothing : Spells [] []
unfolding value_of
spells_nothing rest = (Value.ends, refl)

-- a byte that stands for itself
itself : (b : ℕ) (text : List ℕ) (t : Bool) → (b == 32) ≡ t → (b == 9) ≡ false → (b == 10) ≡ false → (b == 13) ≡ false → normalised b text ≡ b ∷ []
unfolding normalised is_space
itself b text true s t l r = rw (r, eqb-true b 32 s) refl
itself b text false s t l r = rw (r, s, t, l) refl

pub spells_itself : (spelling value : List ℕ) (b : ℕ) → is_value_byte 39 b ≡ true → (b == 9) ≡ false → (b == 10) ≡ false → (b == 13) ≡ false → Spells spelling value → Spells (b ∷ spelling) (b ∷ value)
unfolding value_of
spells_itself spelling value b e t l r k rest =
    let v = k rest in
    (Value.char e v.0, ap (λ (x : List ℕ). x ++ value_of v.0) (itself b (spelling ++ 39 ∷ rest) (b == 32) refl t l r) ∙ ap (λ (x : List ℕ). b ∷ x) v.1)

-- what has a meaning of its own there
module _ (spelling value : List ℕ) (k : Spells spelling value) where
  pub spells_ampersand : Spells (38 ∷ 97 ∷ 109 ∷ 112 ∷ 59 ∷ spelling) (38 ∷ value)
  unfolding value_of character_of encode
  spells_ampersand rest = let v = k rest in (Value.reference ReferenceRest.amp v.0, ap (λ (x : List ℕ). 38 ∷ x) v.1)

  pub spells_less : Spells (38 ∷ 108 ∷ 116 ∷ 59 ∷ spelling) (60 ∷ value)
  unfolding value_of character_of encode
  spells_less rest = let v = k rest in (Value.reference ReferenceRest.lt v.0, ap (λ (x : List ℕ). 60 ∷ x) v.1)

  pub spells_apostrophe : Spells (38 ∷ 97 ∷ 112 ∷ 111 ∷ 115 ∷ 59 ∷ spelling) (39 ∷ value)
  unfolding value_of character_of encode
  spells_apostrophe rest = let v = k rest in (Value.reference ReferenceRest.apos v.0, ap (λ (x : List ℕ). 39 ∷ x) v.1)

  pub spells_tab : Spells (38 ∷ 35 ∷ 57 ∷ 59 ∷ spelling) (9 ∷ value)
  unfolding value_of character_of decimal_number is_digit is_allowed encode
  spells_tab rest = let v = k rest in (Value.reference (ReferenceRest.decimal {b = 57} refl (Digits.ends refl)) v.0, ap (λ (x : List ℕ). 9 ∷ x) v.1)

  pub spells_lf : Spells (38 ∷ 35 ∷ 49 ∷ 48 ∷ 59 ∷ spelling) (10 ∷ value)
  unfolding value_of character_of decimal_number is_digit is_allowed encode
  spells_lf rest = let v = k rest in (Value.reference (ReferenceRest.decimal {b = 49} refl (Digits.more {b = 48} refl (Digits.ends refl))) v.0, ap (λ (x : List ℕ). 10 ∷ x) v.1)

  pub spells_cr : Spells (38 ∷ 35 ∷ 49 ∷ 51 ∷ 59 ∷ spelling) (13 ∷ value)
  unfolding value_of character_of decimal_number is_digit is_allowed encode
  spells_cr rest = let v = k rest in (Value.reference (ReferenceRest.decimal {b = 49} refl (Digits.more {b = 51} refl (Digits.ends refl))) v.0, ap (λ (x : List ℕ). 13 ∷ x) v.1)
