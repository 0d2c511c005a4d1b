-- Attributes and the end of a body, as bytes.
use Rattle.std.specs.Prelude.{ℕ, List, [], ◌∷◌, ◌++◌, ◌==◌, if◌then◌else◌, codes}

-- a byte of a value: what has a meaning of its own between apostrophes, or would be read as a space, is a reference
unfoldable pub escaped_byte : ℕ → List ℕ
escaped_byte b =
    if b == 38 then codes "&amp;" else if b == 60 then codes "&lt;" else if b == 39 then codes "&apos;"
    else if b == 9 then codes "&#9;" else if b == 10 then codes "&#10;" else if b == 13 then codes "&#13;" else b ∷ []

abbrev pub escaped : List ℕ → List ℕ
escaped [] = []
escaped (b ∷ bytes) = escaped_byte b ++ escaped bytes

-- an attribute whose value needs no reference
unfoldable pub attribute : List ℕ → List ℕ → List ℕ
attribute name value = codes " " ++ name ++ codes "='" ++ value ++ codes "'"

-- texts without anything between
abbrev pub joined : List (List ℕ) → List ℕ
joined [] = []
joined (text ∷ texts) = text ++ joined texts

-- the payloads and the end of a body, after its attributes
unfoldable pub closed_with : List (List ℕ) → List ℕ
closed_with [] = codes "/>"
closed_with (payload ∷ payloads) = codes ">" ++ joined (payload ∷ payloads) ++ codes "</body>"
