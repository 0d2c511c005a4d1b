-- The calls of a client: from the state and the call's arguments to the state after it and the reply.
use Rattle.std.specs.Prelude.{ℕ, ◌+◌, ◌-◌, ◌*◌, ◌==◌, ◌&&◌, ◌||◌, nat_lt, nat_le, Bool, true, false, not, List, [], ◌∷◌, ◌++◌, length, slice_get, Option, None, Some, is_none, is_some, Result, Ok, Err, if◌then◌else◌}
use Rattle.std.specs.List.{count_by}
use Rattle.std.specs.Option.{option_map}
use Rattle.bosh_types.specs.Limits.{most_streams, most_waiting}
use Rattle.bosh_types.specs.Rid.{greatest_rid}
use Rattle.stream_names.specs.Streams.{is_among}
use Rattle.body_writer.specs.Request.{request_text}
use Rattle.bosh_client.specs.declared.agreed.Agreed.{Agreed}
use Rattle.bosh_client.specs.declared.outgoing.Outgoing.{Outgoing}
use Rattle.bosh_client.specs.declared.outgoing.Outgoing.TheVariants.{Stanza, Restart, Pause, Add, Close, Terminate}
use Rattle.bosh_client.specs.declared.replies.Answered.{Answered}
use Rattle.bosh_client.specs.declared.replies.Answered.TheVariants as answerings
use Rattle.bosh_client.specs.declared.replies.Next.{Next}
use Rattle.bosh_client.specs.declared.replies.Next.TheVariants as nexts
use Rattle.bosh_client.specs.declared.replies.Queued.{Queued}
use Rattle.bosh_client.specs.declared.replies.Queued.TheVariants as queueings
use Rattle.bosh_client.specs.declared.replies.Why.{Why}
use Rattle.bosh_client.specs.declared.replies.Why.TheVariants.{Attribute, NoSid}
use Rattle.bosh_client.specs.declared.setup.ClientSetup.{ClientSetup}
use Rattle.bosh_client.specs.declared.told.Naming.{Naming}
use Rattle.bosh_client.specs.declared.told.Naming.TheVariants.{Unnamed, Stream, Unknown}
use Rattle.bosh_client.specs.declared.told.Told.{Told}
use Rattle.bosh_client.specs.AnswerReading.{answer_of}
use Rattle.bosh_client.specs.Outgoing.{front_of, is_stanza}
use Rattle.bosh_client.specs.PlainClient.{Made, Taken, PlainClient, bytes_of, deliverable, has_ended, is_closing, last_taken, lowest, next_id, queued, request_at, streams, taken}
use Rattle.bosh_client.specs.Requests.{agreed, creation_parts, later_parts}
use Rattle.bosh_client.specs.Setup.{polls}

abbrev pub new_client : ClientSetup → PlainClient
new_client setup = record { setup = setup; accepted = []; requests = []; answers = []; handed_out = 0 }

-- What is to be sent.

-- nothing is accepted once the client has ended or is to end
abbrev pub is_over : PlainClient → Bool
is_over c = has_ended c || is_closing c

abbrev pub accept : PlainClient → Outgoing → PlainClient × Queued
accept c item = (record c { accepted = c.accepted ++ item ∷ [] }, queueings.Done)

-- 1024 stanzas are queued
abbrev pub is_full : PlainClient → Bool
is_full c = nat_le most_waiting (count_by is_stanza (queued c))

-- a stanza for one stream, or for all that are open
abbrev pub put_for : PlainClient → Option ℕ → List ℕ → PlainClient × Queued
put_for c on stanza = if is_full c then (c, queueings.Full) else accept c (Stanza on stanza)

abbrev pub put : PlainClient → List ℕ → PlainClient × Queued
put c stanza = if is_over c then (c, queueings.Over) else put_for c None stanza

-- the stream was added, or is the first, and wasn't closed
abbrev pub has_stream : PlainClient → ℕ → Bool
has_stream c stream = is_among (streams c).running stream

abbrev pub put_on : PlainClient → ℕ → List ℕ → PlainClient × Queued
put_on c stream stanza =
    if is_over c then (c, queueings.Over)
    else if has_stream c stream then put_for c (Some stream) stanza
    else (c, queueings.NoStream)

-- one more stream, to this host, where fewer than eight were opened, XEP-0124 section 16
abbrev pub add : PlainClient → List ℕ → PlainClient × Queued
add c to =
    if is_over c then (c, queueings.Over)
    else if nat_lt (streams c).opened most_streams then accept c (Add to)
    else (c, queueings.Full)

abbrev pub close_stream : PlainClient → ℕ → PlainClient × Queued
close_stream c stream =
    if is_over c then (c, queueings.Over) else if has_stream c stream then accept c (Close stream) else (c, queueings.NoStream)

abbrev pub restart : PlainClient → PlainClient × Queued
restart c = if is_over c then (c, queueings.Over) else accept c Restart

abbrev pub terminate : PlainClient → PlainClient × Queued
terminate c = if is_over c then (c, queueings.Over) else accept c Terminate

-- a pause is of 1 second at least, and no longer than was agreed, XEP-0124 section 10
abbrev pub allows_pause : Option Agreed → ℕ → Bool
allows_pause None seconds = false
allows_pause (Some a) seconds = nat_lt 0 seconds && nat_le seconds a.maxpause

abbrev pub pause : PlainClient → ℕ → PlainClient × Queued
pause c seconds =
    if is_over c then (c, queueings.Over) else if allows_pause (agreed c) seconds then accept c (Pause seconds) else (c, queueings.TooLong)

-- Requests.

-- how many ids there are from the lowest without an answer up to the next one
abbrev pub open_requests : PlainClient → ℕ
open_requests c = next_id c - lowest c

-- one more request may be open where it is a pause or a terminate, XEP-0124 sections 10 and 11
abbrev pub most_open : Agreed → Outgoing → ℕ
most_open a (Stanza on bytes) = a.requests
most_open a Restart = a.requests
most_open a (Pause seconds) = a.requests + 1
most_open a (Add to) = a.requests
most_open a (Close stream) = a.requests + 1
most_open a Terminate = a.requests + 1

-- a polling client leaves the agreed seconds after the last answer, XEP-0124 section 12
abbrev pub has_rested : PlainClient → Agreed → ℕ → Bool
has_rested c a now = not (polls c.setup) || nat_le (a.polling * 1000) (now - last_taken c)

-- what is queued is due while few requests are open; where nothing is queued, an empty request is due once none is open
abbrev pub is_due_of : PlainClient → Agreed → List Outgoing → ℕ → Bool
is_due_of c a [] now = (open_requests c == 0) && has_rested c a now
is_due_of c a (item ∷ items) now = nat_lt (open_requests c) (most_open a item)

-- before the creation's answer only the creation is due
abbrev pub is_due_by : PlainClient → Option Agreed → ℕ → Bool
is_due_by c None now = length c.requests == 0
is_due_by c (Some a) now = is_due_of c a (queued c) now

abbrev pub is_due : PlainClient → ℕ → Bool
is_due c now = is_due_by c (agreed c) now

-- what the next request takes of the queue, and its parts; the creation takes nothing
abbrev pub next_made : PlainClient → Option Agreed → Made
next_made c None = record { items = []; parts = creation_parts c.setup }
next_made c (Some a) = record { items = front_of (queued c); parts = later_parts c a (front_of (queued c)) }

-- from now on it has these bytes
abbrev pub with_request : PlainClient → Made → PlainClient × Next
with_request c request =
    (record c { requests = c.requests ++ request ∷ [] }, nexts.Request request.parts.rid (request_text request.parts))

abbrev pub next_request : PlainClient → ℕ → PlainClient × Next
next_request c now =
    if has_ended c || not (is_due c now) then (c, nexts.Nothing)
    else if nat_lt greatest_rid (next_id c) then (c, nexts.RidsSpent)
    else with_request c (next_made c (agreed c))

-- a request that has no answer yet is sent again with the very bytes
abbrev pub copy : PlainClient → ℕ → Option (List ℕ)
copy c rid = if is_some (taken c rid) then None else option_map bytes_of (request_at c rid)

-- Answers.

-- an answer to the creation that goes on names the session
abbrev pub lacks_sid : PlainClient → ℕ → Told → Bool
lacks_sid c rid tells = (rid == c.setup.first) && (is_none tells.end && is_none tells.sid)

-- no stream has the name that an answer with payloads gives; the creation's is for the first stream, whatever it names
abbrev pub is_unknown : Naming → Bool
is_unknown Unnamed = false
is_unknown (Stream stream) = false
is_unknown Unknown = true

abbrev pub misnames : PlainClient → ℕ → Told → Bool
misnames c rid tells = not (rid == c.setup.first) && (is_unknown tells.stream && not (length tells.payloads == 0))

-- the answer of this id from now on
abbrev pub with_answer : PlainClient → ℕ → Taken → PlainClient
with_answer c rid answer = record c { answers = c.answers ++ (rid, answer) ∷ [] }

-- an error is no answer of its id: it asks for copies of all requests without one up to this id, XEP-0124 section 17.3
abbrev pub take_answer : PlainClient → ℕ → List ℕ → ℕ → Result Told Why → PlainClient × Answered
take_answer c rid body now (Err why) = (c, answerings.Broken why)
take_answer c rid body now (Ok tells) =
    if misnames c rid tells then (c, answerings.Broken Attribute)
    else if tells.error then (c, answerings.Again (lowest c) rid)
    else if lacks_sid c rid tells then (c, answerings.Broken NoSid)
    else (with_answer c rid (record { body = body; tells = tells; moment = now }), answerings.Done)

abbrev pub answer : PlainClient → ℕ → List ℕ → ℕ → PlainClient × Answered
answer c rid body now =
    if is_none (request_at c rid) then (c, answerings.Unmade)
    else if is_some (taken c rid) then (c, answerings.Stale)
    else take_answer c rid body now (answer_of body)

abbrev pub handed : PlainClient → Option (ℕ × List ℕ) → PlainClient × Option (ℕ × List ℕ)
handed c None = (c, None)
handed c (Some payload) = (record c { handed_out = c.handed_out + 1 }, Some payload)

-- the next payload, with the stream on which it lies
abbrev pub hand_out_on : PlainClient → PlainClient × Option (ℕ × List ℕ)
hand_out_on c = handed c (slice_get (deliverable c) c.handed_out)

abbrev pub hand_out : PlainClient → PlainClient × Option (List ℕ)
hand_out c = ((hand_out_on c).0, option_map (λ payload. payload.1) (hand_out_on c).1)
