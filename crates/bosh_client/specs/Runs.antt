-- Calls of a client one after the other, and what it is after them.
use Rattle.std.specs.Prelude.{◌≤◌, ℕ, ⊤, IsTrue, List, [], ◌∷◌, length, Option}
use Rattle.body_cutter.specs.Cutting.{is_stanza}
use Rattle.session_attrs.specs.Serving.{is_allowed_text}
use Rattle.bosh_client.specs.declared.replies.Answered.{Answered}
use Rattle.bosh_client.specs.declared.replies.Next.{Next}
use Rattle.bosh_client.specs.declared.replies.Queued.{Queued}
use Rattle.bosh_client.specs.declared.setup.ClientSetup.{ClientSetup}
use Rattle.bosh_client.specs.Machine.{new_client, put, put_on, add, close_stream, restart, pause, terminate, next_request, answer, hand_out_on}
use Rattle.bosh_client.specs.PlainClient.{PlainClient}

pub data Call : Type 0 where
  Put : List ℕ → Call
  PutOn : ℕ → List ℕ → Call
  Add : List ℕ → Call
  CloseStream : ℕ → Call
  Restart : Call
  Pause : ℕ → Call
  Terminate : Call
  NextRequest : ℕ → Call
  Answer : ℕ → List ℕ → ℕ → Call
  HandOut : Call

pub data Reply : Type 0 where
  ToQueue : Queued → Reply
  ToNext : Next → Reply
  ToAnswer : Answered → Reply
  ToHandOut : Option (ℕ × List ℕ) → Reply

abbrev pub called : {X : Type 0} → (X → Reply) → PlainClient × X → PlainClient × Reply
called reply (c, x) = (c, reply x)

-- the state after a call, and the reply to it
abbrev pub step : PlainClient → Call → PlainClient × Reply
step c (Put stanza) = called ToQueue (put c stanza)
step c (PutOn stream stanza) = called ToQueue (put_on c stream stanza)
step c (Add to) = called ToQueue (add c to)
step c (CloseStream stream) = called ToQueue (close_stream c stream)
step c Restart = called ToQueue (restart c)
step c (Pause seconds) = called ToQueue (pause c seconds)
step c Terminate = called ToQueue (terminate c)
step c (NextRequest now) = called ToNext (next_request c now)
step c (Answer rid body now) = called ToAnswer (answer c rid body now)
step c HandOut = called ToHandOut (hand_out_on c)

-- a host is a text of 1 to 1023 bytes that may stand in a body
abbrev pub IsHost : List ℕ → Type 0
IsHost to = (1 ≤ length to) × (length to ≤ 1023) × IsTrue (is_allowed_text to)

-- what is put is a stanza by itself
abbrev pub IsAllowed : Call → Type 0
IsAllowed (Put stanza) = IsTrue (is_stanza stanza)
IsAllowed (PutOn stream stanza) = IsTrue (is_stanza stanza)
IsAllowed (Add to) = IsHost to
IsAllowed (CloseStream stream) = ⊤
IsAllowed Restart = ⊤
IsAllowed (Pause seconds) = ⊤
IsAllowed Terminate = ⊤
IsAllowed (NextRequest now) = ⊤
IsAllowed (Answer rid body now) = ⊤
IsAllowed HandOut = ⊤

-- the client after calls, and the replies to them
abbrev pub after : PlainClient → List Call → PlainClient
after c [] = c
after c (call ∷ calls) = after (step c call).0 calls

abbrev pub replies : PlainClient → List Call → List Reply
replies c [] = []
replies c (call ∷ calls) = (step c call).1 ∷ replies (step c call).0 calls

-- a client that began so, after these calls
abbrev pub client_after : ClientSetup → List Call → PlainClient
client_after setup calls = after (new_client setup) calls
