-- The table of refusals: each text that is refused stands in one row of it.
use Rattle.std.specs.Prelude.{◌≡◌, ℕ, true, List}
use Rattle.body_cutter.specs.declared.parts.CutRefusal.{CutRefusal}
use Rattle.body_cutter.specs.Parts.{Parts}
use Rattle.body_cutter.specs.BodyText.{IsBodyText, IsElementText, HasBodyParts, HasElementParts, RefusalTells}
use Rattle.body_cutter.specs.Viable.{Row, NamesBody, Anything, is_for_place}

-- the row of this refusal holds of the text, and none before it
pub record IsRefusedWith (P : List ℕ → Type 0) (Has : List ℕ → Parts → Type 0) (Fits : List ℕ → Type 0) (longest : ℕ) (text : List ℕ) (refusal : CutRefusal) : Type 0 where
  pub tells : RefusalTells P Has longest refusal text
  pub row : is_for_place refusal ≡ true → Row P Fits text refusal

-- a text is refused as a body
abbrev pub IsBodyRefusal : List ℕ → CutRefusal → Type 0
IsBodyRefusal text refusal = IsRefusedWith IsBodyText HasBodyParts NamesBody 1048576 text refusal

-- a text is refused as a stanza by itself
abbrev pub IsStanzaRefusal : List ℕ → CutRefusal → Type 0
IsStanzaRefusal text refusal = IsRefusedWith IsElementText HasElementParts Anything 1000000 text refusal
