-- Taking more of a stream.
use Rattle.std.specs.Prelude.{◌≡◌, ℕ, List, ◌++◌, Option}
use Rattle.std.specs.Io.KnownBytes.{Consumes}

-- some bytes were taken off a link, where it tells its bytes its next ones, and stand after those that had been kept
abbrev pub TakesMore : Option (List ℕ) → Option (List ℕ) → List ℕ → List ℕ → Type 0
TakesMore left left' kept kept' = (taken : List ℕ) × Consumes left left' taken × (kept' ≡ kept ++ taken)
