-- The names that sessions of a script have.
use Rattle.std.specs.Prelude.{ℕ, ◌&&◌, nat_le, Bool, List, length}

-- the name of a session has 1 to 64 bytes
abbrev pub is_sid : List ℕ → Bool
is_sid word = nat_le 1 (length word) && nat_le (length word) 64
