-- What is said of a client after any calls.
use Rattle.std.specs.Prelude.{◌≡◌, ℕ, ◌+◌, ◌<◌, ◌≤◌, true, ⊤, List, [], ◌∷◌, ◌++◌, filter, length, Option, None, Some, IfSome, IsSome, is_some, ◌⊎◌}
use Rattle.std.specs.List.{list_all, list_any}
use Rattle.bosh_types.specs.Limits.{most_streams}
use Rattle.body_cutter.specs.Chars.{is_allowed}
use Rattle.body_cutter.specs.Utf8.{IsUtf8Of}
use Rattle.body_writer.specs.declared.request.RequestParts.{RequestParts}
use Rattle.body_writer.specs.ReadBack.{IsRequest}
use Rattle.bosh_client.specs.declared.agreed.Agreed.{Agreed}
use Rattle.bosh_client.specs.declared.outgoing.Outgoing.{Outgoing}
use Rattle.bosh_client.specs.declared.setup.ClientSetup.{ClientSetup}
use Rattle.bosh_client.specs.Outgoing.{host_in, is_of_stream, is_restart, is_stanza, lie_together, pause_in, stanzas_in, stream_in, terminates}
use Rattle.bosh_client.specs.PlainClient.{Made, PlainClient, id_of, lowest, next_id, queued, taken}
use Rattle.bosh_client.specs.ReadBack.{greatest_number}
use Rattle.bosh_client.specs.Requests.{agreed, creation_parts}
use Rattle.bosh_client.specs.Runs.{IsHost, Reply, ToQueue, ToNext, ToAnswer, ToHandOut}

-- one list begins another
abbrev pub Begins : {X : Type 0} → List X → List X → Type 0
Begins {X = X} xs ys = (rest : List X) × (ys ≡ xs ++ rest)

-- the stanzas and restarts that are queued
abbrev pub is_queued : PlainClient → List Outgoing
is_queued c = filter is_of_stream (queued c)

-- the payloads that these replies handed out, each with the stream on which it lies
abbrev pub payloads_in : List Reply → List (ℕ × List ℕ)
payloads_in [] = []
payloads_in (ToQueue reply ∷ replies) = payloads_in replies
payloads_in (ToNext reply ∷ replies) = payloads_in replies
payloads_in (ToAnswer reply ∷ replies) = payloads_in replies
payloads_in (ToHandOut None ∷ replies) = payloads_in replies
payloads_in (ToHandOut (Some payload) ∷ replies) = payload ∷ payloads_in replies

-- the answers of all ids up to this one were taken, XEP-0124 section 9.1
abbrev pub AllTaken : PlainClient → ℕ → Type 0
AllTaken c ack = (id : ℕ) → c.setup.first ≤ id → id ≤ ack → is_some (taken c id) ≡ true

-- what a creation has there is its wish; any other request acknowledges a lower id, and what was taken
abbrev pub AcknowledgesIn : PlainClient → Made → Option (List ℕ × ℕ × ℕ) → Type 0
AcknowledgesIn c request (Some creation) = ⊤
AcknowledgesIn c request None = IfSome request.parts.ack (λ ack. (ack < id_of request) × AllTaken c ack)

abbrev pub Acknowledges : PlainClient → Made → Type 0
Acknowledges c request = AcknowledgesIn c request request.parts.creation

-- the next id is not far above the lowest without an answer: before the creation's answer one at most, and then one more at
-- most than the manager allows, XEP-0124 section 11
abbrev pub IsNear : PlainClient → Option Agreed → Type 0
IsNear c None = next_id c ≤ lowest c + 1
IsNear c (Some a) = next_id c ≤ lowest c + a.requests + 1

abbrev pub HasFewOpen : PlainClient → Type 0
HasFewOpen c = IsNear c (agreed c)

-- the name of the session is a text that may stand in a body, of at most 1024 bytes
abbrev pub IsName : List ℕ → Type 0
IsName sid = IsUtf8Of is_allowed sid × (length sid ≤ 1024)

abbrev pub IsNamed : PlainClient → Type 0
IsNamed c = IfSome (agreed c) (λ a. IsName a.sid)

-- a request for the session names it, and perhaps one of its eight streams, or the host to which it adds one; it acknowledges a lower id,
-- and pauses for 1 to 999,999,999 seconds
pub record IsOfSession (parts : RequestParts) : Type 0 where
  pub sid : IsSome parts.sid
  pub stream : IfSome parts.stream (λ stream. stream < most_streams)
  pub to : IfSome parts.to IsHost
  pub ack : IfSome parts.ack (λ ack. (1 ≤ ack) × (ack < parts.rid))
  pub pause : IfSome parts.pause (λ pause. (1 ≤ pause) × (pause ≤ greatest_number))

-- the creation of a client with this setup, or a request for its session
abbrev pub IsKnown : ClientSetup → RequestParts → Option (List ℕ × ℕ × ℕ) → Type 0
IsKnown setup parts None = IsOfSession parts
IsKnown setup parts (Some creation) = parts ≡ creation_parts setup

-- the text of this request reads back as its parts
pub record HasForm (setup : ClientSetup) (parts : RequestParts) : Type 0 where
  pub form : IsRequest parts
  pub known : IsKnown setup parts parts.creation

-- stanzas alone, for the same stream, or nothing, or one item that is none
abbrev pub IsAlone : List Outgoing → Type 0
IsAlone items = ((list_all is_stanza items ≡ true) × (lie_together items ≡ true)) ⊎ ((item : Outgoing) × (items ≡ item ∷ []))

-- a request carries just what it took of the queue
pub record Carries (request : Made) : Type 0 where
  pub payloads : request.parts.payloads ≡ stanzas_in request.items
  pub restart : request.parts.restart ≡ list_any is_restart request.items
  pub pause : request.parts.pause ≡ pause_in request.items
  pub stream : request.parts.stream ≡ stream_in request.items
  pub to : request.parts.to ≡ host_in request.items
  pub terminate : request.parts.terminate ≡ list_any terminates request.items
  pub alone : IsAlone request.items
