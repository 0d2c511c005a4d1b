-- The keys of a key sequence, XEP-0124 section 15.3.
use Rattle.std.specs.Prelude.{ℕ, Bool, ◌≡◌, ◌&&◌, ◌||◌, nat_le, List, length}
use Rattle.std.specs.List.{AllPass}

-- a hexadecimal digit in lower case: `0` to `9` are 48 to 57, and `a` to `f` are 97 to 102
abbrev pub is_key_digit : ℕ → Bool
is_key_digit c = (nat_le 48 c && nat_le c 57) || (nat_le 97 c && nat_le c 102)

-- forty digits
abbrev pub IsKey : List ℕ → Type 0
IsKey text = (length text ≡ 40) × AllPass is_key_digit text
