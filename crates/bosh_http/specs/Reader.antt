-- What the reader of all kinds of messages gives. The words on a kind are those of `Heads`.
use Rattle.std.specs.Prelude.{◌≡◌, ℕ, ◌+◌, ◌<◌, ◌≤◌, ◌⊎◌, true, false, List, [], ◌++◌, length, take, drop, slice_range, Option}
use Rattle.std.specs.Io.KnownBytes.{Consumes}
use Rattle.bosh_http.specs.Heads.{IsHeadless}
use Rattle.bosh_http.specs.Reading.{IsAllOf}
use Rattle.bosh_http.specs.Scanning.{Scans}
use Rattle.bosh_http.specs.declared.heads.Judged.{Judged}
use Rattle.bosh_http.specs.declared.heads.Judged.TheVariants.{Whole, Wrong, Begun}
use Rattle.bosh_http.specs.declared.reader.Stage.{Stage}
use Rattle.bosh_http.specs.declared.reader.Stage.TheVariants.{Scanning, Found, Inside}
use Rattle.bosh_http.specs.declared.reader.Front.{Front}
use Rattle.bosh_http.specs.declared.reader.Front.TheVariants as front
use Rattle.bosh_http.specs.declared.reader.Opened.{Opened}
use Rattle.bosh_http.specs.declared.reader.Opened.TheVariants as opened
use Rattle.bosh_http.specs.declared.reader.Came.{Came}
use Rattle.bosh_http.specs.declared.reader.Came.TheVariants as came

-- what a reader knows of the bytes that it has
abbrev pub StandsAt : {S : Type 0} → (List ℕ → ℕ → ℕ → S → Type 0) → (List ℕ → Type 0) → Stage S → List ℕ → Type 0
StandsAt Reads Lacks (Scanning scan) bytes = Scans scan.seen scan.place bytes × Lacks (take scan.seen bytes)
StandsAt Reads Lacks (Found head) bytes = Reads bytes head.start head.content head.said
StandsAt Reads Lacks Inside bytes = Unit {0}

-- a message stands at the front: a head that is read, and all of its content
pub record HasMessage {S : Type 0} (Reads : List ℕ → ℕ → ℕ → S → Type 0) (bytes body : List ℕ) (said : S) (kept : List ℕ) : Type 0 where
  pub start : ℕ
  pub content : ℕ
  pub reads : Reads bytes start content said
  pub whole : start + content ≤ length bytes
  pub body_is : body ≡ slice_range bytes start (start + content)
  pub kept_is : kept ≡ drop (start + content) bytes

-- the head of a message is whole, and some of its content is to come
pub record WantsContent {S : Type 0} (Reads : List ℕ → ℕ → ℕ → S → Type 0) (bytes : List ℕ) : Type 0 where
  pub start : ℕ
  pub content : ℕ
  pub said : S
  pub reads : Reads bytes start content said
  pub short : length bytes < start + content

-- what stands at the front of the bytes, and what is kept of them
abbrev pub FrontBy : {S F : Type 0} → (List ℕ → ℕ → ℕ → S → Type 0) → (List ℕ → F → Type 0) → (List ℕ → Type 0) → List ℕ → List ℕ → Front S F → Type 0
FrontBy Reads Denies Headless bytes kept (front.Message body said) = HasMessage Reads bytes body said kept
FrontBy Reads Denies Headless bytes kept (front.Wrong fault) = Denies bytes fault × (kept ≡ bytes)
FrontBy Reads Denies Headless bytes kept front.More = (Headless bytes ⊎ WantsContent Reads bytes) × (kept ≡ bytes)

-- what was read by the bytes that were seen, and what is kept of them; where the stream ended these were all
abbrev pub CameBy : {S F : Type 0} → (List ℕ → ℕ → ℕ → S → Type 0) → (List ℕ → F → Type 0) → (List ℕ → Type 0) → (List ℕ → Type 0) → List ℕ → List ℕ → Type 0 → Came S F → Type 0
CameBy Reads Denies Lacks Begins seen kept all (came.Message body said) = HasMessage Reads seen body said kept
CameBy Reads Denies Lacks Begins seen kept all (came.Wrong fault) = Denies seen fault × (kept ≡ seen)
CameBy Reads Denies Lacks Begins seen kept all came.Ended = (IsHeadless Lacks Begins true seen ⊎ WantsContent Reads seen) × all × (kept ≡ seen)
CameBy Reads Denies Lacks Begins seen kept all came.Failed = (IsHeadless Lacks Begins false seen ⊎ WantsContent Reads seen) × (kept ≡ seen)

-- some bytes were taken off a link, and what was read is by those that had been kept and these
abbrev pub CameOver : {S F : Type 0} → (List ℕ → ℕ → ℕ → S → Type 0) → (List ℕ → F → Type 0) → (List ℕ → Type 0) → (List ℕ → Type 0) → Option (List ℕ) → Option (List ℕ) → List ℕ → List ℕ → Came S F → Type 0
CameOver Reads Denies Lacks Begins left left' kept kept' came = (taken : List ℕ) × Consumes left left' taken × CameBy Reads Denies Lacks Begins (kept ++ taken) kept' (IsAllOf left taken) came

-- what stands at the front of the bytes, and what is kept of them, where the head of a message is let go of
abbrev pub OpensBy : {S F : Type 0} → (List ℕ → ℕ → ℕ → S → Type 0) → (List ℕ → F → Type 0) → (List ℕ → Type 0) → List ℕ → List ℕ → Judged S F → Type 0
OpensBy Reads Denies Headless bytes kept (Whole head) = Reads bytes head.start head.content head.said × (head.start ≤ length bytes) × (kept ≡ drop head.start bytes)
OpensBy Reads Denies Headless bytes kept (Wrong fault) = Denies bytes fault × (kept ≡ bytes)
OpensBy Reads Denies Headless bytes kept Begun = Headless bytes × (kept ≡ bytes)

-- the head that was read by the bytes that were seen, and what is kept of them; where the stream ended these were all
abbrev pub OpenedBy : {S F : Type 0} → (List ℕ → ℕ → ℕ → S → Type 0) → (List ℕ → F → Type 0) → (List ℕ → Type 0) → (List ℕ → Type 0) → List ℕ → List ℕ → Type 0 → Opened S F → Type 0
OpenedBy Reads Denies Lacks Begins seen kept all (opened.Head head) = Reads seen head.start head.content head.said × (head.start ≤ length seen) × (kept ≡ drop head.start seen)
OpenedBy Reads Denies Lacks Begins seen kept all (opened.Wrong fault) = Denies seen fault × (kept ≡ seen)
OpenedBy Reads Denies Lacks Begins seen kept all opened.Ended = IsHeadless Lacks Begins true seen × all × (kept ≡ seen)
OpenedBy Reads Denies Lacks Begins seen kept all opened.Failed = IsHeadless Lacks Begins false seen × (kept ≡ seen)

-- some bytes were taken off a link, and the head is by those that had been kept and these
abbrev pub OpenedOver : {S F : Type 0} → (List ℕ → ℕ → ℕ → S → Type 0) → (List ℕ → F → Type 0) → (List ℕ → Type 0) → (List ℕ → Type 0) → Option (List ℕ) → Option (List ℕ) → List ℕ → List ℕ → Opened S F → Type 0
OpenedOver Reads Denies Lacks Begins left left' kept kept' opened = (taken : List ℕ) × Consumes left left' taken × OpenedBy Reads Denies Lacks Begins (kept ++ taken) kept' (IsAllOf left taken) opened

-- what has come of a content went to a feed: of left bytes so many are to come
pub record PassesOn (old new fed fed' : List ℕ) (left rest : ℕ) : Type 0 where
  pub part : List ℕ
  pub parts : old ≡ part ++ new
  pub fed_is : fed' ≡ fed ++ part
  pub left_is : left ≡ length part + rest
  pub all : (rest ≡ 0) ⊎ (new ≡ [])
