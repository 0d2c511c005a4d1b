-- What is kept of a text that comes in pieces.
use Rattle.std.specs.Prelude.{◌≡◌, ℕ, true, ◌+◌, ◌<◌, min, List, length, Option, None, Some, Result, Err, if◌then◌else◌}
use Rattle.body_cutter.specs.declared.place.Place.{Place}
use Rattle.body_cutter.specs.declared.place.Place.TheVariants.{Start, StanzaStart}
use Rattle.body_cutter.specs.declared.place.Wide.{Wide}
use Rattle.body_cutter.specs.declared.place.Wide.TheVariants.{Whole}
use Rattle.body_cutter.specs.declared.place.Kind.{Kind}
use Rattle.body_cutter.specs.declared.place.Kind.TheVariants as kinds
use Rattle.body_cutter.specs.declared.parts.Cut.{Cut}
use Rattle.body_cutter.specs.declared.parts.CutRefusal.{CutRefusal}
use Rattle.body_cutter.specs.declared.parts.CutRefusal.TheVariants.{NotUtf8, NotBody, Forbidden, Malformed}
use Rattle.body_cutter.specs.declared.feeding.Progress.{Progress}
use Rattle.body_cutter.specs.declared.feeding.Progress.TheVariants.{Alive, Refused, Spent}
use Rattle.body_cutter.specs.declared.feeding.FedText.{FedText}
use Rattle.body_cutter.specs.declared.cutter.Cutter.{Cutter}
use Rattle.body_cutter.specs.Chars.{is_whole}
use Rattle.body_cutter.specs.Reader.{State, first_state}
use Rattle.body_cutter.specs.Reading.{state_of, cut_of}
use Rattle.body_cutter.specs.Refusal.{Reading, Ended, Stopped, reading, ended_refusal, is_before_body, is_forbidden, refusal_or, stopped_refusal}
use Rattle.body_cutter.specs.Utf8.{is_utf8_end, utf8_rest}
use Rattle.body_cutter.specs.Ends.{last_bytes}
use Rattle.body_cutter.specs.Viable.{has_state}

-- where a text is read from, and how many bytes it may have
abbrev pub start_of : Kind → Place
start_of kinds.Body = Start
start_of kinds.Stanza = StanzaStart

abbrev pub longest_of : Kind → ℕ
longest_of kinds.Body = 1048576
longest_of kinds.Stanza = 1000000

-- what the reader makes of a text
abbrev pub reading_from : Kind → List ℕ → Reading
reading_from kind text = reading 0 (first_state kind (start_of kind)) text

-- the refusal of a text that goes wrong at this place, after these bytes
abbrev pub refusal_after : List ℕ → ℕ → ℕ → State → CutRefusal
refusal_after before at b s = if is_before_body s.place then NotBody else if is_forbidden before s b then Forbidden at else Malformed at

-- what a reading of a piece that begins at this place says: it is read to its end, or up to a byte of it
abbrev pub ReadsPiece : Reading → ℕ → List ℕ → Option (ℕ × ℕ) → State → Type 0
ReadsPiece (Ended s) start piece None new = new ≡ s
ReadsPiece (Ended s) start piece (Some stop) new = ⊥
ReadsPiece (Stopped at b s) start piece None new = ⊥
ReadsPiece (Stopped at b s) start piece (Some stop) new = (at ≡ start + stop.0) × (b ≡ stop.1) × (stop.0 < length piece) × (new ≡ s)

-- what a text of this length gives that was read to its end
abbrev pub end_answer : ℕ → State → Result Cut CutRefusal
end_answer len s = if is_whole s.wide then refusal_or (ended_refusal len s) (cut_of s) else Err NotUtf8

-- the refusal of a text that was read up to a byte of it
abbrev pub refusal_with : CutRefusal → Option Wide → CutRefusal
refusal_with refusal rest = if is_utf8_end rest then refusal else NotUtf8

-- the text was read to its end
pub record IsRead (kind : Kind) (text : List ℕ) (s : State) (tail : List ℕ) (len : ℕ) : Type 0 where
  pub read : reading_from kind text ≡ Ended s
  pub tail_is : tail ≡ last_bytes text
  pub len_is : len ≡ length text

-- no text of its kind goes on so; this refuses it if it is UTF-8, and this is left of its last character
pub record IsRefused (kind : Kind) (text : List ℕ) (refusal : CutRefusal) (rest : Option Wide) : Type 0 where
  pub at : ℕ
  pub b : ℕ
  pub end : State
  pub stopped : reading_from kind text ≡ Stopped at b end
  pub refusal_is : refusal ≡ stopped_refusal text at b end
  pub rest_is : rest ≡ utf8_rest Whole text

abbrev pub HasCome : Kind → List ℕ → Progress → State → List ℕ → ℕ → Type 0
HasCome kind text Alive s tail len = IsRead kind text s tail len
HasCome kind text (Refused refusal rest) s tail len = IsRefused kind text refusal rest
HasCome kind text Spent s tail len = has_state (reading_from kind text) ≡ true

-- what is kept of a text that came; the count of its bytes stands at its type's end
pub record IsFed (kind : Kind) (fed : FedText) (text : List ℕ) : Type 0 where
  pub kind_is : fed.kind ≡ kind
  pub come : HasCome kind text fed.progress (state_of fed.reader) fed.tail fed.len
  pub len_is : fed.len ≡ min (length text) 18446744073709551615

-- a cutter stands for the bytes that it was fed
unfoldable pub StandsFor : Cutter → List ℕ → Type 0
StandsFor cutter text = IsFed kinds.Body cutter.fed text
