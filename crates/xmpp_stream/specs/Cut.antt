-- A stream that comes in pieces: what was cut of it, and why no more is.
use Rattle.std.specs.Prelude.{◌≡◌, ℕ, Bool, true, false, ◌-◌, ◌^◌, ◌<◌, ◌≤◌, ◌==◌, ◌||◌, nat_le, nat_lt, min, List, [], ◌∷◌, ◌++◌, length, take, Option, None, Some}
use Rattle.std.specs.List.{list_any}
use Rattle.body_cutter.specs.Begun.{BeginsNone, HasBegun, IsBeginning}
use Rattle.body_cutter.specs.BodyText.{IsStanza}
use Rattle.body_cutter.specs.Chars.{is_space}
use Rattle.body_cutter.specs.Cutting.{is_stanza}
use Rattle.body_cutter.specs.declared.parts.CutRefusal.{CutRefusal}
use Rattle.body_cutter.specs.declared.stanza_cutter.StanzaCutter.{StanzaCutter}
use Rattle.xmpp_stream.specs.declared.scan.Scan.{Scan}
use Rattle.xmpp_stream.specs.declared.scan.Scanned.{Scanned}
use Rattle.xmpp_stream.specs.declared.scan.Scanned.TheVariants as scanned
use Rattle.xmpp_stream.specs.declared.stage.Mark.TheVariants.{Element, Tag, Undecided}
use Rattle.xmpp_stream.specs.declared.stage.Stage.{Stage}
use Rattle.xmpp_stream.specs.declared.stage.Stage.TheVariants.{Ended}
use Rattle.xmpp_stream.specs.declared.stream_cutter.State.{State}
use Rattle.xmpp_stream.specs.declared.stream_cutter.Step.{Step}
use Rattle.xmpp_stream.specs.declared.stream_cutter.Step.TheVariants as step
use Rattle.xmpp_stream.specs.declared.stream_cutter.StreamCutter.{StreamCutter}
use Rattle.xmpp_stream.specs.declared.stream_cutter.StreamItem.{StreamItem}
use Rattle.xmpp_stream.specs.declared.stream_cutter.StreamItem.TheVariants as items
use Rattle.xmpp_stream.specs.Qualified.{qualified}
use Rattle.xmpp_stream.specs.Stream.{Reads, after_tag, error_mark, is_ended, is_named, longest_tag, mark_in}
use Rattle.xmpp_stream.specs.Tag.{tag_end}

-- no part of a stream is whole in the rest, and more bytes may make one of it
pub data IsUnfinished (stage : Stage) (rest : List ℕ) : Type 0 where
  nothing : rest ≡ [] → IsUnfinished stage rest
  undecided : mark_in stage rest ≡ Undecided → IsUnfinished stage rest
  tag : mark_in stage rest ≡ Tag → tag_end 0 None rest ≡ None → length rest < longest_tag → IsUnfinished stage rest
  element : mark_in stage rest ≡ Element → IsBeginning rest → IsUnfinished stage rest

-- a tag passes its limit
abbrev pub is_long : ℕ → Option ℕ → Bool
is_long len None = nat_le longest_tag len
is_long len (Some count) = nat_lt longest_tag count

-- why no part of a stream begins as the rest does
pub data IsWrong (stage : Stage) (rest : List ℕ) : Type 0 where
  -- neither white space nor `<`
  character : (b : ℕ) (more : List ℕ) → rest ≡ b ∷ more → is_space b ≡ false → (b == 60) ≡ false → IsWrong stage rest
  -- a whole tag that may not come here
  no_tag : (count : ℕ) → mark_in stage rest ≡ Tag → tag_end 0 None rest ≡ Some count → after_tag stage (take count rest) ≡ None → IsWrong stage rest
  long_tag : mark_in stage rest ≡ Tag → is_long (length rest) (tag_end 0 None rest) ≡ true → IsWrong stage rest
  no_element : {refusal : CutRefusal} → mark_in stage rest ≡ Element → BeginsNone rest refusal → IsWrong stage rest
  -- an element that with its namespace is no stanza
  too_long : (count : ℕ) → mark_in stage rest ≡ Element → IsStanza (take count rest) → is_stanza (qualified (take count rest)) ≡ false → IsWrong stage rest

-- a count of bytes, which stands still at the end of its type
abbrev pub counted : ℕ → ℕ
counted count = min count (2 ^ 64 - 1)

-- these bytes were fed to who looks for the end of an element
abbrev pub Scanning : Option StanzaCutter → List ℕ → Type 0
Scanning None front = front ≡ []
Scanning (Some cutter) front = HasBegun cutter front

abbrev pub Scans : Scan → List ℕ → Type 0
Scans scan front = (scan.count ≡ length front) × Scanning scan.cutter front

-- some front of the rest is wrong
pub record IsWrongBefore (stage : Stage) (rest : List ℕ) : Type 0 where
  pub front : List ℕ
  pub back : List ℕ
  pub is : rest ≡ front ++ back
  pub wrong : IsWrong stage front

-- nothing more will be cut
abbrev pub is_over : State → Bool
is_over state = state.is_broken || is_ended state.stage

-- what is kept, of what was fed, where these elements were given
pub record Holds (kept : List ℕ) (scan : Scan) (state : State) (fed : List ℕ) (elements : List (List ℕ)) : Type 0 where
  pub done : List ℕ
  pub rest : List ℕ
  pub fed_is : fed ≡ done ++ rest
  pub reads : Reads done state.stage elements
  pub error : state.has_error ≡ list_any (is_named error_mark) elements
  pub place : state.place ≡ counted (length done)
  pub kept_is : is_over state ≡ false → kept ≡ rest
  pub within : is_over state ≡ false → scan.count ≤ length rest
  pub scans : is_over state ≡ false → Scans scan (take scan.count rest)
  pub wrong : state.is_broken ≡ true → IsWrongBefore state.stage rest

-- the cutter was fed these bytes, and gave these elements
unfoldable pub IsCut : StreamCutter → List ℕ → List (List ℕ) → Type 0
IsCut cutter fed elements = Holds cutter.kept cutter.scan cutter.state fed elements

-- the bytes begin with a whole stream of these elements
pub record HasEnded (fed : List ℕ) (elements : List (List ℕ)) : Type 0 where
  pub done : List ℕ
  pub rest : List ℕ
  pub fed_is : fed ≡ done ++ rest
  pub reads : Reads done Ended elements

-- after these elements the stream goes wrong, at what begins after so many bytes
pub record GoesWrong (place : ℕ) (fed : List ℕ) (elements : List (List ℕ)) : Type 0 where
  pub done : List ℕ
  pub rest : List ℕ
  pub stage : Stage
  pub fed_is : fed ≡ done ++ rest
  pub reads : Reads done stage elements
  pub place_is : place ≡ counted (length done)
  pub wrong : IsWrongBefore stage rest

-- after these elements no part of the stream is whole
pub record IsWaiting (fed : List ℕ) (elements : List (List ℕ)) : Type 0 where
  pub done : List ℕ
  pub rest : List ℕ
  pub stage : Stage
  pub fed_is : fed ≡ done ++ rest
  pub reads : Reads done stage elements
  pub unfinished : IsUnfinished stage rest

-- one more element was given, as it stands alone
pub record GivesNext (text : List ℕ) (new : StreamCutter) (fed : List ℕ) (elements : List (List ℕ)) : Type 0 where
  pub element : List ℕ
  pub text_is : text ≡ qualified element
  pub cut : IsCut new fed (elements ++ element ∷ [])

-- what is told of the bytes that were fed
abbrev pub Tells : StreamItem → StreamCutter → List ℕ → List (List ℕ) → Type 0
Tells (items.Item text) new fed elements = GivesNext text new fed elements
Tells (items.Closed error) new fed elements = IsCut new fed elements × HasEnded fed elements × (error ≡ list_any (is_named error_mark) elements)
Tells (items.Broken place) new fed elements = IsCut new fed elements × GoesWrong place fed elements
Tells items.More new fed elements = IsCut new fed elements × IsWaiting fed elements

-- the same of a step, by which a part of the stream was passed over that is no element
abbrev pub Steps : Step → StreamCutter → List ℕ → List (List ℕ) → Type 0
Steps step.Past new fed elements = IsCut new fed elements
Steps (step.Found item) new fed elements = Tells item new fed elements

-- what is passed over is no longer kept
abbrev pub Shortens : Step → StreamCutter → StreamCutter → Type 0
Shortens step.Past old new = length new.kept < length old.kept
Shortens (step.Found item) old new = Unit {0}

-- what is found in the rest, of which this many bytes were scanned before
abbrev pub Finds : Scanned → Scan → List ℕ → Type 0
Finds scanned.More new rest = Scans new rest × IsBeginning rest
Finds (scanned.Whole count) new rest = Scans new [] × (count ≤ length rest) × IsStanza (take count rest)
Finds scanned.Refused new rest = (refusal : CutRefusal) × BeginsNone rest refusal

-- a whole element lies within the rest
abbrev pub IsWithin : Scanned → List ℕ → Type 0
IsWithin scanned.More rest = Unit {0}
IsWithin (scanned.Whole count) rest = count ≤ length rest
IsWithin scanned.Refused rest = Unit {0}
