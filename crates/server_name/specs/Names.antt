-- Names of servers, and of sessions that begin with them.
use Rattle.std.specs.Prelude.{◌≡◌, ℕ, ◌≤◌, ◌-◌, ◌&&◌, nat_le, List, [], ◌∷◌, ◌++◌, Bool, true, false, Option, Some, None, drop, length, take, if◌then◌else◌}
use Rattle.std.specs.List.{list_all}
use Rattle.std.specs.Char.{is_ascii_alphabetic}
use Rattle.server_ports.specs.Names.{IsNamePart, is_name_byte}

-- a letter first, and then letters, digits and `-`
abbrev pub begins_as_name : List ℕ → Bool
begins_as_name [] = false
begins_as_name (first ∷ others) = is_ascii_alphabetic first && list_all is_name_byte others

-- the name of a server: of these 1 to 14
abbrev pub is_server_name : List ℕ → Bool
is_server_name text = nat_le (length text) 14 && begins_as_name text

-- the first bytes of these are one
pub record Fits (count : ℕ) (bytes : List ℕ) : Type 0 where
  pub few : count ≤ 14
  pub named : is_server_name (take count bytes) ≡ true

-- the name that a text is, where it is one
abbrev pub name_read : List ℕ → Option (List ℕ)
name_read text = if is_server_name text then Some text else None

-- the last bytes of a text, at most so many
abbrev pub last_of : ℕ → List ℕ → List ℕ
last_of most text = drop (length text - most) text

-- The first part of a session's name is that of its server, `-`, and what was drawn; of what has no room in 32 bytes the last bytes
pub record BeginsWith (name made : List ℕ) : Type 0 where
  pub drawn : List ℕ
  pub is_part : IsNamePart drawn
  pub is : made ≡ name ++ 45 ∷ last_of (31 - length name) drawn
