-- The end of a text.
use Rattle.std.specs.Prelude.{ℕ, ◌-◌, List, length, drop}

-- the last eight bytes, which tell whether a text ends like an unfinished beginning of a CDATA section
abbrev pub last_bytes : List ℕ → List ℕ
last_bytes bytes = drop (length bytes - 8) bytes
