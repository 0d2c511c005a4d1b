-- What a crash at any moment leaves.
use Rattle.std.specs.Prelude.{◌⊎◌, ℕ, ◌≤◌, List}

-- A crash at any moment since a disk was the old one leaves an image that has P; and where it went before, no other image is added.
pub record EachCrash {D : Type 0} (time : D → ℕ) (left : D → ℕ → List ℕ → Type 0) (old new : D) (P : List ℕ → Type 0) : Type 0 where
  pub later : time old ≤ time new
  pub each : (image : List ℕ) → left new (time old) image → P image
  pub before : (since : ℕ) (image : List ℕ) → since ≤ time old → left new since image → left old since image ⊎ P image
