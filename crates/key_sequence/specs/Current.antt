-- Which key a request has to carry, XEP-0124 sections 15.4 and 15.5.
use Rattle.std.specs.Prelude.{ℕ, Bool, true, false, List, Option, Some, None}
use Rattle.std.specs.Str.{bytes_eq}
use Rattle.key_sequence.specs.Chain.{hex_digest}

-- in a session with keys, a request carries a key whose digest is the current one
abbrev pub fits : Option (List ℕ) → Option (List ℕ) → Bool
fits None key = true
fits (Some current) None = false
fits (Some current) (Some key) = bytes_eq (hex_digest key) current

-- the key that a further one has to lead to: what the request announces, else its own key
abbrev pub current_after : Option (List ℕ) → Option (List ℕ) → Option (List ℕ) → Option (List ℕ)
current_after None key newkey = None
current_after (Some current) key None = key
current_after (Some current) key (Some newkey) = Some newkey
