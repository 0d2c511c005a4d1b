-- What the calls of a disk do to its content, and what a crash may leave of it.
use Rattle.std.specs.Prelude.{◌≡◌, ◌⊎◌, ℕ, ◌+◌, ◌≤◌, max, List, ◌++◌, length, take, drop}
use Rattle.bosh_ports.specs.Faults.{HasRisen}
use Rattle.journal_store.specs.declared.disk.DiskDone.{DiskDone}
use Rattle.journal_store.specs.declared.disk.DiskDone.TheVariants as done
use Rattle.journal_store.specs.declared.disk.Length.{Length}
use Rattle.journal_store.specs.declared.disk.Length.TheVariants as lengths

-- so many bytes of a content from a place on
abbrev pub part : ℕ → ℕ → List ℕ → List ℕ
part at count content = take count (drop at content)

-- a content once these bytes stand in it from a place on
abbrev pub written : ℕ → List ℕ → List ℕ → List ℕ
written at bytes content = take at content ++ bytes ++ drop (at + length bytes) content

-- an image of a content into which so many bytes are being written: any bytes stand there and past its end, and elsewhere the same
pub record Torn (at count : ℕ) (content image : List ℕ) : Type 0 where
  pub before : take at image ≡ take at content
  pub after : drop (at + count) image ≡ drop (at + count) content
  pub no_shorter : length content ≤ length image
  pub no_longer : length image ≤ max (length content) (at + count)

-- an image of a content that is being cut: the whole of it, or what the cut leaves
abbrev pub CutOrNot : ℕ → List ℕ → List ℕ → Type 0
CutOrNot to content image = (image ≡ content) ⊎ (image ≡ take to content)

-- an image of a content to which nothing is being done
abbrev pub Untouched : List ℕ → List ℕ → Type 0
Untouched content image = image ≡ content

-- a crash leaves this content and no other
abbrev pub Only : List ℕ → (List ℕ → Type 0) → Type 0
Only content images = (image : List ℕ) → images image → image ≡ content

-- Time goes on in one call: each image of now is one of before in which the call was being done, and what a crash since an earlier
-- time may have left is what one before the call may, or one now.
pub record GoesOn (Doing : List ℕ → List ℕ → Type 0) (before now : ℕ) (past since : ℕ → List ℕ → Type 0) : Type 0 where
  pub later : before ≤ now
  pub doing : (image : List ℕ) → since now image → (content : List ℕ) × past before content × Doing content image
  pub nothing_else : (time : ℕ) (image : List ℕ) → time ≤ before → since time image → past time image ⊎ since now image
  pub keeps : (time : ℕ) (image : List ℕ) → time ≤ before → past time image → since time image
  pub counts : (time : ℕ) (image : List ℕ) → time ≤ now → since now image → since time image

-- it is the length of the content
abbrev pub TellsLength : List ℕ → Length → Type 0
TellsLength content (lengths.Bytes n) = n ≡ length content
TellsLength content lengths.Failed = Unit {0}

-- the count of faults rises with a fault, and with nothing else
abbrev pub CountsDone : ℕ → ℕ → DiskDone → Type 0
CountsDone old new done.Done = new ≡ old
CountsDone old new done.Failed = (old ≤ new) × HasRisen old new

abbrev pub CountsLength : ℕ → ℕ → Length → Type 0
CountsLength old new (lengths.Bytes n) = new ≡ old
CountsLength old new lengths.Failed = (old ≤ new) × HasRisen old new
