-- Plain decimal numbers: how a text of digits is read.
use Rattle.std.specs.Prelude.{ℕ, Bool, Option, Some, None, List, [], ◌∷◌, ◌+◌, ◌*◌, ◌-◌, ◌&&◌, nat_lt, slice_index, if◌then◌else◌}
use Rattle.std.specs.Str.{all_ascii_digits}

-- the number that these digits write where they follow those of n
abbrev pub number_after : ℕ → List ℕ → ℕ
number_after n [] = n
number_after n (digit ∷ digits) = number_after (n * 10 + (digit - 48)) digits

-- one or more digits, the first of which isn't 0
abbrev pub is_positive_decimal : List ℕ → Bool
is_positive_decimal text = all_ascii_digits text && nat_lt 48 (slice_index text 0)

-- the positive number that the text writes, without a sign or a leading zero
abbrev pub positive_of : List ℕ → Option ℕ
positive_of text = if is_positive_decimal text then Some (number_after 0 text) else None
