-- What is shown of a text.
use Rattle.std.specs.Prelude.{◌≡◌, ℕ, ◌<◌, List, ◌++◌, length, Bool, true, false}

-- a front of the text is shown: all of it, or some bytes, where others are left
abbrev pub Shows : List ℕ → List ℕ → Bool → Type 0
Shows text shown true = shown ≡ text
Shows text shown false = (rest : List ℕ) × (text ≡ shown ++ rest) × (0 < length shown) × (0 < length rest)

-- a front of these bytes is shown behind those before
abbrev pub ShowsMore : List ℕ → List ℕ → List ℕ → Bool → Type 0
ShowsMore before shown bytes is_all = Shows (before ++ bytes) shown is_all
