-- How often a kind of line is written.
use Rattle.std.specs.Prelude.{ℕ, ◌+◌, nat_le, Bool, true, Option, None, Some}

-- a second has passed since the last line of the kind, in milliseconds; before the first it is as if it had
abbrev pub may_tell : Option ℕ → ℕ → Bool
may_tell None now = true
may_tell (Some told) now = nat_le (told + 1000) now
