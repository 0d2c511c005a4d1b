-- A key sequence, XEP-0124 section 15.3.
use Rattle.std.specs.Prelude.{ℕ, zero, suc, List, [], ◌∷◌}
use Rattle.hex.specs.Hex.{encode_lower}
use Rattle.sha1.specs.Sha1.{sha1}

-- the SHA-1 digest of a text, in lower-case hexadecimal
unfoldable pub hex_digest : List ℕ → List ℕ
hex_digest text = encode_lower (sha1 text)

-- key number 0 is the seed, and each further one the digest of the one before
abbrev pub key_of : List ℕ → ℕ → List ℕ
key_of seed zero = seed
key_of seed (suc number) = hex_digest (key_of seed number)

-- the keys from this number down to number 1
abbrev pub keys_down : List ℕ → ℕ → List (List ℕ)
keys_down seed zero = []
keys_down seed (suc number) = key_of seed (suc number) ∷ keys_down seed number
