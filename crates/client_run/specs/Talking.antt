-- Lines of an input that are put to a client, and what is written meanwhile.
use Rattle.std.specs.Prelude.{◌≡◌, ℕ, ◌+◌, ◌≤◌, ◌⊎◌, false, IsTrue, List, [], ◌∷◌, ◌++◌, length, Option, Some, None, Result, Ok, Err}
use Rattle.std.specs.Io.KnownBytes.{prepend_known}
use Rattle.std.specs.declared.alloc.AllocError.{AllocError}
use Rattle.bosh_client.specs.declared.replies.Queued.{Queued}
use Rattle.bosh_client.specs.declared.replies.Queued.TheVariants as queueings
use Rattle.bosh_types.specs.Limits.{most_lines}
use Rattle.body_cutter.specs.Cutting.{is_stanza}
use Rattle.line_reader.specs.Lines.{Reads}
use Rattle.line_reader.specs.declared.lines.NextLine.TheVariants as lines
use Rattle.parked_gate.specs.Passes.{Known}
use Rattle.client_run.specs.declared.call.Call.TheVariants as calls
use Rattle.client_run.specs.declared.draining.Written.{Written}
use Rattle.client_run.specs.declared.draining.Written.TheVariants as written
use Rattle.client_run.specs.declared.entry.Entry.{Entry}
use Rattle.client_run.specs.declared.talking.Input.{Input}
use Rattle.client_run.specs.declared.talking.Input.TheVariants as inputs
use Rattle.client_run.specs.declared.talking.Said.{Said}
use Rattle.client_run.specs.declared.talking.Said.TheVariants as said
use Rattle.client_run.specs.declared.talking.Talked.{Talked}
use Rattle.client_run.specs.declared.talking.Talked.TheVariants as talked
use Rattle.client_run.specs.Handing.{Drains, Out, out_of}
use Rattle.client_run.specs.Queueing.{Offers, Puts, QueuesBy}

-- the next line was read, where the bytes are told; it is a stanza, or it is none, or there is no line any more
unfoldable pub Takes : Option (List ℕ) → Option (List ℕ) → Input → Type 0
Takes old new (inputs.Stanza stanza) = Reads old new (lines.Line stanza) × IsTrue (is_stanza stanza)
Takes old new inputs.Other = Reads old new lines.TooLong ⊎ ((line : List ℕ) × Reads old new (lines.Line line) × (is_stanza line ≡ false))
Takes old new inputs.End = Reads old new lines.NoLine

-- a stanza was put, and then all that could be handed out was written, or was tried to be
pub record Says (stanza : List ℕ) (s t : Out) (result : Result Written AllocError) : Type 0 where
  pub put : Known Entry
  pub puts : Puts stanza queueings.Done s.known put
  pub drains : Drains (out_of put s.given) t result

unfoldable pub SaysBy : List ℕ → Out → Out → Result Said AllocError → Type 0
SaysBy stanza s t (Ok said.Done) = Says stanza s t (Ok written.Done)
SaysBy stanza s t (Ok said.Over) = Puts stanza queueings.Over s.known t.known × (t.given ≡ s.given)
SaysBy stanza s t (Ok said.WriteFault) = Says stanza s t (Ok written.WriteFault)
SaysBy stanza s t (Err error) = Says stanza s t (Err error) ⊎ (Offers stanza s.known t.known × (t.given ≡ s.given))

-- where talking stands: what was handed out and written, the bytes that are in no line yet, where they are told, and the lines
-- that were put
pub record Talk : Type 0 where
  pub out : Out
  pub left : Option (List ℕ)
  pub put : List (List ℕ)

abbrev pub talk_of : Out → Option (List ℕ) → List (List ℕ) → Talk
talk_of out left put = record { out = out; left = left; put = put }

-- lines were read one after the other: each is a stanza and was put, and all that could be handed out was written before the next
pub data Speaks : Talk → Talk → Type 0 where
  none : {s : Talk} → Speaks s s
  spoke : {s t : Talk} (out : Out) (left : Option (List ℕ)) (stanza : List ℕ) → Speaks s t
      → Takes t.left left (inputs.Stanza stanza) → Says stanza t.out out (Ok written.Done)
      → Speaks s (talk_of out left (t.put ++ stanza ∷ []))

-- so many lines were put so
pub record HasSpoken (s : Talk) (out : Out) (left : Option (List ℕ)) (count : ℕ) : Type 0 where
  pub put : List (List ℕ)
  pub counted : count ≡ length put
  pub speaks : Speaks s (talk_of out left put)

-- there is a line more than there may be
abbrev pub IsOneMore : Talk → Option (List ℕ) → Type 0
IsOneMore t left = (length t.put ≡ most_lines) × (Reads t.left left lines.TooLong ⊎ ((line : List ℕ) × Reads t.left left (lines.Line line)))

-- the input came to its end, and a terminate was queued if one could be
abbrev pub Closes : Talk → Talk → Result Queued AllocError → Type 0
Closes t u result = Takes t.left u.left inputs.End × QueuesBy calls.Terminate t.out.known u.out.known result × (u.out.given ≡ t.out.given)

-- the next stanza, and what came of it
abbrev pub Stops : Talk → Talk → Result Said AllocError → Type 0
Stops t u result = (stanza : List ℕ) × Takes t.left u.left (inputs.Stanza stanza) × SaysBy stanza t.out u.out result

-- how talking ends after the last line that was put whole
unfoldable pub EndsTalk : Talk → Talk → Result Talked AllocError → Type 0
EndsTalk t u (Ok talked.Done) = ((queued : Queued) × Closes t u (Ok queued)) ⊎ Stops t u (Ok said.Over)
EndsTalk t u (Ok (talked.Bad n)) = (n ≡ length t.put + 1) × (u.out ≡ t.out) × (Takes t.left u.left inputs.Other ⊎ IsOneMore t u.left)
EndsTalk t u (Ok talked.ReadFault) = u.out ≡ t.out
EndsTalk t u (Ok talked.WriteFault) = Stops t u (Ok said.WriteFault)
EndsTalk t u (Err error) = (u.out ≡ t.out) ⊎ Stops t u (Err error) ⊎ Closes t u (Err error)

-- how what came of a line ends talking
abbrev pub ended_by : Said → Option Talked
ended_by said.Done = None
ended_by said.Over = Some talked.Done
ended_by said.WriteFault = Some talked.WriteFault

-- what came of the next line: it was put whole, or it ended the talking
unfoldable pub TurnsBy : Talk → Talk → Result (Option Talked) AllocError → Type 0
TurnsBy t u (Ok None) = Stops t u (Ok said.Done)
TurnsBy t u (Ok (Some talked)) = EndsTalk t u (Ok talked)
TurnsBy t u (Err error) = EndsTalk t u (Err error)

-- Lines were put and followed by what was handed out, and talking ended so. Some bytes may be taken from the source and in no
-- line yet
pub record Talks (s : Talk) (out : Out) (left : Option (List ℕ)) (result : Result Talked AllocError) : Type 0 where
  pub last : Talk
  pub speaks : Speaks s last
  pub few : length last.put ≤ most_lines
  pub kept : List ℕ
  pub ends : EndsTalk last (talk_of out (prepend_known kept left) last.put) result
