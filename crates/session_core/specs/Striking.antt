-- What the code that strikes copies needs to know of an id.
use Rattle.std.specs.Prelude.{◌≡◌, ℕ, ◌+◌, ◌≤◌}
use Rattle.session_core.specs.State.{PlainSession, last_of}

-- the id lies so many ids after the last one processed, within the window
pub record IsAhead (s : PlainSession) (ahead rid : ℕ) : Type 0 where
  pub some : 1 ≤ ahead
  pub few : ahead ≤ s.terms.requests + 1
  pub is : rid ≡ last_of s + ahead
