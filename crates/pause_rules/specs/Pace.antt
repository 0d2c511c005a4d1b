-- What a session's deadlines depend on.
use Rattle.std.specs.Prelude.{ℕ}
use Rattle.bosh_types.specs.declared.terms.Terms.{Terms}

-- the terms, and the seconds of silence that the client is allowed now
pub record Pace : Type 0 where
  pub terms : Terms
  pub period : ℕ
