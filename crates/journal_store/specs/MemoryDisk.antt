-- A disk in memory, by all that changed it.
use Rattle.std.specs.Prelude.{◌≡◌, ℕ, ◌≤◌, List, [], ◌∷◌, length, take, Vec}
use Rattle.std.specs.declared.alloc.Global.{Global}
use Rattle.journal_store.specs.Disk.{Torn, CutOrNot}
use Rattle.journal_store.specs.declared.memory_disk.Change.{Change}
use Rattle.journal_store.specs.declared.memory_disk.Change.TheVariants.{Written, Cut, Synced}

-- each change, with the bytes that were there before it
abbrev pub Changes : Type 0
Changes = List (Vec ℕ Global × Change)

-- what a crash may leave after a change, by what it may have left before: a write is torn, a cut has happened or not, and a sync leaves what was there
abbrev pub left_after : List ℕ → Change → (List ℕ → Type 0) → List ℕ → Type 0
left_after bytes (Written at count) images image = (content : List ℕ) × images content × Torn at count content image
left_after bytes (Cut to) images image = (content : List ℕ) × images content × CutOrNot to content image
left_after bytes Synced images image = image ≡ bytes

abbrev pub left_after_all : (List ℕ → Type 0) → Changes → List ℕ → Type 0
left_after_all images [] = images
left_after_all images (change ∷ changes) = left_after_all (left_after change.0.items change.1 images) changes

-- what a crash may leave after these changes, the first of which is a sync
abbrev pub left_by : Changes → List ℕ → Type 0
left_by changes = left_after_all (λ _. ⊥) changes

-- what a crash may have left after some of these changes, of the first of which there were at least so many
abbrev pub LeftSince : Changes → ℕ → List ℕ → Type 0
LeftSince changes since image = (count : ℕ) × (since ≤ count) × (count ≤ length changes) × left_by (take count changes) image

-- the bytes, the numbers of the calls that are to fail, how many calls were made and failed, and all changes
pub record Memory : Type 0 where
  pub bytes : List ℕ
  pub failing : List ℕ
  pub calls : ℕ
  pub faults : ℕ
  pub changes : Changes
