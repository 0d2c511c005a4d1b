-- The digits at the end of a session's name, which are its opening number.
use Rattle.std.specs.Prelude.{◌≡◌, ℕ, ◌≤◌, ◌<◌, ◌+◌, List, length, drop, slice_index, true, false}
use Rattle.std.specs.Char.{is_ascii_digit}

-- these are all the digits at the end of a text
pub record EndsInDigits (text digits : List ℕ) : Type 0 where
  pub start : ℕ
  pub within : start ≤ length text
  pub digits_are : digits ≡ drop start text
  pub all : (k : ℕ) → start ≤ k → k < length text → is_ascii_digit (slice_index text k) ≡ true
  pub before : (k : ℕ) → k + 1 ≡ start → is_ascii_digit (slice_index text k) ≡ false
