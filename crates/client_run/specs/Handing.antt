-- What a client hands out, and what is written of it.
use Rattle.std.specs.Prelude.{◌≡◌, ℕ, List, [], ◌∷◌, ◌++◌, Option, Some, None, Result, Ok, Err}
use Rattle.std.specs.Io.KnownBytes.{Appends}
use Rattle.std.specs.declared.alloc.AllocError.{AllocError}
use Rattle.bosh_ports.specs.Sink.{AppendsFront}
use Rattle.parked_gate.specs.Passes.{Known}
use Rattle.client_run.specs.declared.call.Call.TheVariants as calls
use Rattle.client_run.specs.declared.call.Reply.{Reply}
use Rattle.client_run.specs.declared.call.Reply.TheVariants as replies
use Rattle.client_run.specs.declared.draining.Written.{Written}
use Rattle.client_run.specs.declared.draining.Written.TheVariants as written
use Rattle.client_run.specs.declared.entry.Entry.{Entry}
use Rattle.client_run.specs.Working.{Called}

-- what a pass knows of the client, and what a sink was given, where it tells that
pub record Out : Type 0 where
  pub known : Known Entry
  pub given : Option (List ℕ)

abbrev pub out_of : Known Entry → Option (List ℕ) → Out
out_of known given = record { known = known; given = given }

-- a stanza as a line
abbrev pub line_of : List ℕ → List ℕ
line_of stanza = stanza ++ 10 ∷ []

-- this is the stanza of the payload, on whatever stream it lies
abbrev pub IsStanzaOf : Option (ℕ × List ℕ) → Option (List ℕ) → Type 0
IsStanzaOf payload None = payload ≡ None
IsStanzaOf payload (Some stanza) = (stream : ℕ) × (payload ≡ Some (stream, stanza))

-- and of the one that was handed out with this reply
abbrev pub HasStanza : Reply → Option (List ℕ) → Type 0
HasStanza reply stanza = (payload : Option (ℕ × List ℕ)) × (reply ≡ replies.HandOut payload) × IsStanzaOf payload stanza

-- the next payload, with the stream on which it lies, was handed out to the pass, and this is its stanza; or none was left
pub record HandsPayload (old new : Known Entry) (stanza : Option (List ℕ)) : Type 0 where
  pub payload : Option (ℕ × List ℕ)
  pub called : Called calls.HandOut (Ok (replies.HandOut payload)) old new
  pub stanza_is : IsStanzaOf payload stanza

abbrev pub HandsOut : Known Entry → Known Entry → Result (Option (List ℕ)) AllocError → Type 0
HandsOut old new (Ok stanza) = HandsPayload old new stanza
HandsOut old new (Err error) = Called calls.HandOut (Err error) old new

-- stanzas were handed out one after the other, and each was written as a line before the next was asked for
pub data Writes : Out → Out → Type 0 where
  nothing : {s : Out} → Writes s s
  line : {s t : Out} (new : Known Entry) (given : Option (List ℕ)) (stanza : List ℕ) → Writes s t
      → HandsOut t.known new (Ok (Some stanza)) → Appends t.given given (line_of stanza) → Writes s (record { known = new; given = given })

-- in the end none was left; or the last one was written in part; or there was no memory to ask for it
abbrev pub WritesLast : Out → Out → Result Written AllocError → Type 0
WritesLast s t (Ok written.Done) = HandsOut s.known t.known (Ok None) × (t.given ≡ s.given)
WritesLast s t (Ok written.WriteFault) = (stanza : List ℕ) × HandsOut s.known t.known (Ok (Some stanza)) × AppendsFront s.given t.given (line_of stanza)
WritesLast s t (Err error) = HandsOut s.known t.known (Err error) × (t.given ≡ s.given)

pub record Drains (s t : Out) (result : Result Written AllocError) : Type 0 where
  pub last : Out
  pub writes : Writes s last
  pub ends : WritesLast last t result
