-- What the bytes at the front of a stream tell, whatever kind of messages stands there. A kind says what a whole head is that is read
-- (`Reads bytes start content said`: so many bytes of head, so many bytes of content behind it, and what else the head says), why bytes
-- begin no such message (`Denies bytes fault`), of which bytes no head is whole (`Lacks`), and which of these may begin one (`Begins`).
use Rattle.std.specs.Prelude.{◌≡◌, ℕ, ◌<◌, Bool, true, List, length}
use Rattle.bosh_http.specs.Message.{longest_head}
use Rattle.bosh_http.specs.declared.heads.Judged.{Judged}
use Rattle.bosh_http.specs.declared.heads.Judged.TheVariants.{Whole, Wrong, Begun}

-- what the bytes tell, where Headless says of bytes that no head is whole in them
abbrev pub TellsOf : {S F : Type 0} → (List ℕ → ℕ → ℕ → S → Type 0) → (List ℕ → F → Type 0) → (List ℕ → Type 0) → List ℕ → Judged S F → Type 0
TellsOf Reads Denies Headless bytes (Whole head) = Reads bytes head.start head.content head.said
TellsOf Reads Denies Headless bytes (Wrong fault) = Denies bytes fault
TellsOf Reads Denies Headless bytes Begun = Headless bytes

-- no head is whole in these bytes, and where they are all that comes they may begin one
pub record IsHeadless (Lacks Begins : List ℕ → Type 0) (is_all : Bool) (bytes : List ℕ) : Type 0 where
  pub short : length bytes < longest_head
  pub lacks : Lacks bytes
  pub begins : is_all ≡ true → Begins bytes
