-- What giving some of a text does.
use Rattle.std.specs.Prelude.{ℕ, ◌<◌, ◌+◌, ◌==◌, ◌&&◌, Bool, if◌then◌else◌, List, length, drop, slice_range, Option}
use Rattle.std.specs.Io.KnownBytes.{Appends, Keeps}
use Rattle.polled_http.specs.declared.giving.Given.{Given}
use Rattle.polled_http.specs.declared.giving.Given.TheVariants.{Upto, All, NotYet, Failed}

-- from a place on: the bytes up to a later one, behind which there are others; all that were left; or none
abbrev pub GivesFrom : List ℕ → ℕ → Option (List ℕ) → Option (List ℕ) → Given → Type 0
GivesFrom text place old new (Upto next) = (place < next) × (next < length text) × Appends old new (slice_range text place next)
GivesFrom text place old new All = Appends old new (drop place text)
GivesFrom text place old new NotYet = Keeps old new
GivesFrom text place old new Failed = Keeps old new

-- how far a text is given from a place on, where so many bytes were given of those that were shown
abbrev pub given_after : ℕ → Bool → ℕ → ℕ → Given
given_after shown is_all place count = if is_all && (count == shown) then All else Upto (place + count)
