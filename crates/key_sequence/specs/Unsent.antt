-- What a client still has of its key sequence.
use Rattle.std.specs.Prelude.{ℕ, List}

-- the key that announces the others, and the keys that are still to be sent, in that order
pub record Unsent : Type 0 where
  pub newkey : List ℕ
  pub left : List (List ℕ)
