-- What a session knows of acknowledgements.
use Rattle.std.specs.Prelude.{ℕ, Bool, Option}

-- whether its client acknowledges answers; the report that is due, as an id and the moment of its answer
pub record Reporting : Type 0 where
  pub on : Bool
  pub due : Option (ℕ × ℕ)
