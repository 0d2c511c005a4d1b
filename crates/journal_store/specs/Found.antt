-- Bytes as they come.
use Rattle.std.specs.Prelude.{◌≡◌, ℕ, ◌<◌, List, ◌++◌}
use Rattle.std.proofs.Common.{get_or}

-- each is a byte
abbrev pub IsBytes : List ℕ → Type 0
IsBytes bytes = (i : ℕ) → get_or bytes i 0 < 256

-- these bytes stand first, and then the rest
pub record Takes (bytes front rest : List ℕ) : Type 0 where
  pub split : bytes ≡ front ++ rest
  pub behind : IsBytes rest
