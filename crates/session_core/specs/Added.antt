-- How the stream that a request opened is remembered: by the place after its number, and 0 where there is none.
use Rattle.std.specs.Prelude.{ℕ, zero, suc, ◌≤◌, Option, Some, None}
use Rattle.bosh_types.specs.Limits.{most_streams}

abbrev pub number_at : ℕ → Option ℕ
number_at zero = None
number_at (suc number) = Some number

abbrev pub place_of : Option ℕ → ℕ
place_of None = zero
place_of (Some number) = suc number

abbrev pub IsPlace : ℕ → Type 0
IsPlace place = place ≤ most_streams
