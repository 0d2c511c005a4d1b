-- Numbers of 64 bits in plain decimal.
use Rattle.std.specs.Prelude.{ℕ, ◌^◌, nat_lt, List, Option, None, Some, codes, if◌then◌else◌}
use Rattle.std.specs.Str.{bytes_eq}
use Rattle.bosh_types.specs.Decimal.{positive_of}

-- the number, where 64 bits hold it
abbrev pub within_64 : Option ℕ → Option ℕ
within_64 None = None
within_64 (Some n) = if nat_lt n (2 ^ 64) then Some n else None

-- the number that the text writes, without a sign or a leading zero
unfoldable pub number_of : List ℕ → Option ℕ
number_of text = if bytes_eq text (codes "0") then Some 0 else within_64 (positive_of text)
