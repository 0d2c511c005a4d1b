-- A stanza that comes in pieces: what the bytes that came tell of it.
use Rattle.std.specs.Prelude.{◌≡◌, ℕ, ◌<◌, ◌≤◌, ◌+◌, false, List, ◌++◌, length, take, Option, None, Some, if◌then◌else◌}
use Rattle.body_cutter.specs.declared.place.Kind.TheVariants as kinds
use Rattle.body_cutter.specs.declared.parts.CutRefusal.{CutRefusal}
use Rattle.body_cutter.specs.declared.parts.CutRefusal.TheVariants.{TooLong}
use Rattle.body_cutter.specs.declared.stanza_cutter.Fed.{Fed}
use Rattle.body_cutter.specs.declared.stanza_cutter.Fed.TheVariants as fed
use Rattle.body_cutter.specs.declared.stanza_cutter.Found.{Found}
use Rattle.body_cutter.specs.declared.stanza_cutter.Found.TheVariants.{More, Whole, Refused}
use Rattle.body_cutter.specs.declared.stanza_cutter.StanzaCutter.{StanzaCutter}
use Rattle.body_cutter.specs.BodyText.{IsElementText, IsStanza}
use Rattle.body_cutter.specs.Feeding.{IsRead, refusal_after}
use Rattle.body_cutter.specs.Reader.{State}
use Rattle.body_cutter.specs.Reading.{state_of}
use Rattle.body_cutter.specs.Refusal.{is_complete, limit_refusal}
use Rattle.body_cutter.specs.Table.{IsStanzaRefusal}
use Rattle.body_cutter.specs.Viable.{Anything, IsViable, Row}

-- no front of the text is an element by itself, whatever the limits
abbrev pub HasNoElement : List ℕ → Type 0
HasNoElement text = (n : ℕ) → n ≤ length text → IsElementText (take n text) → ⊥

-- the text is too short yet: no front of it is an element, and some bytes make one of it
pub record IsBeginning (text : List ℕ) : Type 0 where
  pub within : length text ≤ 1000000
  pub viable : IsViable IsElementText text
  pub unended : HasNoElement text

-- why no stanza begins as the text does
pub data BeginsNone (text : List ℕ) : CutRefusal → Type 0 where
  -- within the longest stanza it goes wrong at a place, and the refusal is that of its row of the table
  goes_wrong : {refusal : CutRefusal} → (IsViable IsElementText (take 1000000 text) → ⊥) → HasNoElement text → Row IsElementText Anything text refusal → BeginsNone text refusal
  -- the bytes of the longest stanza end none
  goes_on : 1000000 < length text → IsBeginning (take 1000000 text) → BeginsNone text TooLong
  -- a front is an element by itself that passes a limit
  passes_limit : {refusal : CutRefusal} (n : ℕ) → n ≤ length text → n ≤ 1000000 → IsElementText (take n text) → IsStanzaRefusal (take n text) refusal → BeginsNone text refusal

-- the cutter was fed this text, which has an element begun
pub record IsOpen (cutter : StanzaCutter) (text : List ℕ) : Type 0 where
  pub read : IsRead kinds.Stanza text (state_of cutter.reader) cutter.tail cutter.len
  pub unended : is_complete (state_of cutter.reader) ≡ false
  pub within : length text ≤ 1000000

-- a cutter stands for the bytes that it was fed
unfoldable pub HasBegun : StanzaCutter → List ℕ → Type 0
HasBegun cutter text = IsOpen cutter text

-- what is told of a piece after this text
abbrev pub IsTold : Fed → List ℕ → List ℕ → Type 0
IsTold (fed.More cutter) text piece = HasBegun cutter (text ++ piece) × IsBeginning (text ++ piece)
IsTold (fed.Whole count) text piece = (count ≤ length piece) × IsStanza (text ++ take count piece)
IsTold (fed.Refused refusal) text piece = BeginsNone (text ++ piece) refusal

-- what is found in a piece after this text: a refusal holds whatever follows
abbrev pub IsFound : Found → StanzaCutter → List ℕ → List ℕ → Type 0
IsFound More cutter text piece = HasBegun cutter (text ++ piece)
IsFound (Whole count) cutter text piece = (count ≤ length piece) × IsStanza (text ++ take count piece)
IsFound (Refused refusal) cutter text piece = (more : List ℕ) → BeginsNone ((text ++ piece) ++ more) refusal

-- an element ended after so many bytes of a piece
abbrev pub found_within : Option CutRefusal → ℕ → Found
found_within None count = Whole count
found_within (Some refusal) count = Refused refusal

abbrev pub found_at : State → ℕ → Found
found_at s count = if is_complete s then found_within (limit_refusal s) count else More

-- what is found before a byte that isn't read, after these bytes
abbrev pub found_before : List ℕ → ℕ → ℕ → ℕ → State → Found
found_before before len at b s = if is_complete s then found_within (limit_refusal s) at else Refused (refusal_after before (len + at) b s)
