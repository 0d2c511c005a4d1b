-- The names of sessions.
use Rattle.std.specs.Prelude.{◌≡◌, ℕ, ◌≤◌, ◌<◌, ◌+◌, ◌++◌, List, length, drop, slice_index, true, false}
use Rattle.std.specs.Char.{is_ascii_digit}
use Rattle.std.specs.Fmt.{decimal}
use Rattle.server_ports.specs.Names.{IsNamePart}

-- opening numbers have at most 32 bits
abbrev pub highest_number : ℕ
highest_number = 4294967295

-- a session's name is the part that was drawn for it, and then its opening number in decimal
abbrev pub sid_of : List ℕ → ℕ → List ℕ
sid_of part number = part ++ decimal number

-- a name of the session with this opening number
abbrev pub IsSidOf : List ℕ → ℕ → Type 0
IsSidOf sid number = (part : List ℕ) × IsNamePart part × (sid ≡ sid_of part number)

-- these are all the digits at the end of a text
pub record EndsInDigits (text digits : List ℕ) : Type 0 where
  pub start : ℕ
  pub within : start ≤ length text
  pub digits_are : digits ≡ drop start text
  pub all : (k : ℕ) → start ≤ k → k < length text → is_ascii_digit (slice_index text k) ≡ true
  pub before : (k : ℕ) → k + 1 ≡ start → is_ascii_digit (slice_index text k) ≡ false
