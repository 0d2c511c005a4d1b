-- Names of sessions.
use Rattle.std.specs.Prelude.{◌≡◌, ℕ, ◌≤◌, List, [], ◌∷◌, ◌++◌, Bool, true, false, ◌||◌, ◌==◌, length, map, Result, Ok, Err}
use Rattle.std.specs.List.{list_all}
use Rattle.std.specs.Char.{is_ascii_alphanumeric, is_ascii_digit}
use Rattle.std.specs.declared.alloc.AllocError.{AllocError}

-- a letter, a digit or `-`
abbrev pub is_name_byte : ℕ → Bool
is_name_byte byte = is_ascii_alphanumeric byte || (byte == 45)

-- the last byte is a digit; of no bytes it is what was said before
abbrev pub last_is_digit : Bool → List ℕ → Bool
last_is_digit before [] = before
last_is_digit before (byte ∷ rest) = last_is_digit (is_ascii_digit byte) rest

-- the first part of a session's name, to which a decimal number is put: 1 to 32 letters, digits and `-`, the last no digit
pub record IsNamePart (name : List ℕ) : Type 0 where
  pub some : 1 ≤ length name
  pub few : length name ≤ 32
  pub allowed : list_all is_name_byte name ≡ true
  pub unnumbered : last_is_digit false name ≡ false

-- the greatest request id that is drawn as a first one
abbrev pub greatest_first : ℕ
greatest_first = 4294967296

-- one name more was given, or none for want of memory
abbrev pub Draws : List (List ℕ) → List (List ℕ) → Result (List ℕ) AllocError → Type 0
Draws old new (Ok name) = new ≡ old ++ name ∷ []
Draws old new (Err error) = new ≡ old

-- the names that a log of them has
abbrev pub drawn_in : List (List ℕ × Unit {0}) → List (List ℕ)
drawn_in logged = map (λ (pair : List ℕ × Unit {0}). pair.0) logged
