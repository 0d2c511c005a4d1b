-- The plain state of a client: full lists, from which nothing is ever taken.
use Rattle.std.specs.Prelude.{ℕ, ◌+◌, ◌==◌, ◌||◌, Bool, false, not, List, [], ◌∷◌, length, map, take, drop, filter, Option, None, Some, is_none, is_some, if◌then◌else◌}
use Rattle.std.specs.List.{find, flat_map, list_any, take_while}
use Rattle.std.specs.Option.{option_map, option_or, unwrap_or}
use Rattle.bosh_types.specs.ById.{at_id}
use Rattle.stream_names.specs.PlainStreams.{PlainStreams, begun}
use Rattle.body_writer.specs.declared.request.RequestParts.{RequestParts}
use Rattle.body_writer.specs.Request.{request_text}
use Rattle.bosh_client.specs.declared.outgoing.Outgoing.{Outgoing}
use Rattle.bosh_client.specs.declared.replies.ClientEnd.{ClientEnd}
use Rattle.bosh_client.specs.declared.setup.ClientSetup.{ClientSetup}
use Rattle.bosh_client.specs.declared.told.Naming.{Naming}
use Rattle.bosh_client.specs.declared.told.Naming.TheVariants.{Unnamed, Stream, Unknown}
use Rattle.bosh_client.specs.declared.told.Told.{Told}
use Rattle.bosh_client.specs.Outgoing.{is_of_stream, is_terminate, streams_after}

-- a request that was made: what it took of the queue, and its parts, which are its bytes for ever
pub record Made : Type 0 where
  pub items : List Outgoing
  pub parts : RequestParts

-- an answer that was taken: its body, what that tells, and when it was taken
pub record Taken : Type 0 where
  pub body : List ℕ
  pub tells : Told
  pub moment : ℕ

pub record PlainClient : Type 0 where
  pub setup : ClientSetup
  -- all that was accepted to be sent, in order
  pub accepted : List Outgoing
  -- every request that was made, in the order of ids
  pub requests : List Made
  -- every answer that was taken, with the id of its request, in the order of taking
  pub answers : List (ℕ × Taken)
  -- how many payloads were handed out
  pub handed_out : ℕ

-- What goes to the manager.

abbrev pub id_of : Made → ℕ
id_of request = request.parts.rid

-- what the requests took
abbrev pub items_made : PlainClient → List Outgoing
items_made c = flat_map (λ request. request.items) c.requests

-- what was accepted and is in no request yet
abbrev pub queued : PlainClient → List Outgoing
queued c = drop (length (items_made c)) c.accepted

-- the stanzas and restarts that were accepted
abbrev pub was_put : PlainClient → List Outgoing
was_put c = filter is_of_stream c.accepted

-- the stanzas and restarts of the requests, in the order of ids
abbrev pub was_made : PlainClient → List Outgoing
was_made c = filter is_of_stream (items_made c)

-- the streams once all that was accepted is made, XEP-0124 section 16
abbrev pub streams : PlainClient → PlainStreams
streams c = streams_after begun c.accepted

-- a terminate was accepted, or the last stream is to be closed, or such a request was made
abbrev pub is_closing : PlainClient → Bool
is_closing c = list_any is_terminate c.accepted || (length (streams c).running == 0)

-- the request with this id, and its bytes
abbrev pub request_at : PlainClient → ℕ → Option Made
request_at c rid = find (λ request. id_of request == rid) c.requests

abbrev pub bytes_of : Made → List ℕ
bytes_of request = request_text request.parts

-- the id of the next request, one above the greatest where none is left
abbrev pub next_id : PlainClient → ℕ
next_id c = c.setup.first + length c.requests

-- What comes from the manager.

-- the answer that was taken for this id
abbrev pub taken : PlainClient → ℕ → Option Taken
taken c rid = at_id c.answers rid

abbrev pub is_answered : PlainClient → Made → Bool
is_answered c request = is_some (taken c (id_of request))

-- the lowest id whose answer was not taken
abbrev pub lowest : PlainClient → ℕ
lowest c = unwrap_or (option_map id_of (find (λ request. not (is_answered c request)) c.requests)) (next_id c)

-- the answer of this request came, and the session goes on after it
abbrev pub goes_on : PlainClient → Made → Bool
goes_on c request = elim (taken c (id_of request)) [ None ↦ false | Some answer ↦ is_none answer.tells.end ]

-- the stream on which the payloads of an answer lie: the one that it names, the first where it names none or answers the creation
abbrev pub stream_named : Naming → ℕ
stream_named Unnamed = 0
stream_named (Stream stream) = stream
stream_named Unknown = 0

abbrev pub lies_on : ClientSetup → ℕ → Told → ℕ
lies_on setup rid tells = if rid == setup.first then 0 else stream_named tells.stream

-- each payload beside the stream on which it lies
abbrev pub on_stream : ℕ → List (List ℕ) → List (ℕ × List ℕ)
on_stream stream payloads = map (λ payload. (stream, payload)) payloads

abbrev pub payloads_for : PlainClient → Made → List (ℕ × List ℕ)
payloads_for c request =
    elim (taken c (id_of request)) [ None ↦ [] | Some answer ↦ on_stream (lies_on c.setup (id_of request) answer.tells) answer.tells.payloads ]

-- the payloads of the answers in the order of ids, up to the first id without an answer or with a terminal one
abbrev pub deliverable : PlainClient → List (ℕ × List ℕ)
deliverable c = flat_map (payloads_for c) (take_while (goes_on c) c.requests)

-- what was handed out
abbrev pub was_handed : PlainClient → List (ℕ × List ℕ)
was_handed c = take c.handed_out (deliverable c)

-- how the first terminal answer ended the client, in the order of taking
abbrev pub first_end : List (ℕ × Taken) → Option ClientEnd
first_end [] = None
first_end (answer ∷ answers) = option_or answer.1.tells.end (first_end answers)

abbrev pub end_of : PlainClient → Option ClientEnd
end_of c = first_end c.answers

abbrev pub has_ended : PlainClient → Bool
has_ended c = is_some (end_of c)

-- when the last answer was taken
abbrev pub last_moment : ℕ → List (ℕ × Taken) → ℕ
last_moment moment [] = moment
last_moment moment (answer ∷ answers) = last_moment answer.1.moment answers

abbrev pub last_taken : PlainClient → ℕ
last_taken c = last_moment 0 c.answers
