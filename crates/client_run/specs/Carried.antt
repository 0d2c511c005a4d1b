-- What a worker's links carried, by the events that its network tells.
use Rattle.std.specs.Prelude.{◌≡◌, ℕ, Bool, if◌then◌else◌, List, [], ◌∷◌, ◌++◌, All, drop, flat_map, map, Option, Some, None, IfSome}
use Rattle.bosh_client.specs.declared.replies.Next.TheVariants as nexts
use Rattle.bosh_client.specs.Machine.{next_request}
use Rattle.bosh_http.specs.Response.{IsResponseMessage}
use Rattle.bosh_http.specs.Texts.{post_text}
use Rattle.parked_gate.specs.Histories.{StartsWith}
use Rattle.parked_gate.specs.Passes.{Known}
use Rattle.server_ports.specs.Events.{Event, Exchange, Grows, exchanges, ports_dialled}
use Rattle.client_run.specs.declared.call.Call.{Call}
use Rattle.client_run.specs.declared.call.Call.TheVariants as calls
use Rattle.client_run.specs.declared.entry.Entry.{Entry}
use Rattle.client_run.specs.Adding.{by_call}
use Rattle.client_run.specs.History.{After}

-- after some of these entries the next request of the client was this one
pub record WasNext (seen : List Entry) (rid : ℕ) (body : List ℕ) : Type 0 where
  pub log : List Entry
  pub begins : StartsWith seen log
  pub next : After log (λ c. (now : ℕ) × ((next_request c now).1 ≡ nexts.Request rid body))

-- a request that was answered on a link: its id, its body, what was read in answer, and whether the client took that
pub record Trip : Type 0 where
  pub rid : ℕ
  pub body : List ℕ
  pub answer : List ℕ
  pub is_taken : Bool

-- what was sent on one link, and what the link carried: the requests that were answered, in order, and then perhaps one that was not
pub record Run : Type 0 where
  pub trips : List Trip
  pub last : Option (ℕ × List ℕ)
  pub exchange : Exchange

abbrev pub texts_of : List Trip → List ℕ
texts_of trips = flat_map (λ t. post_text t.body) trips

-- the first bytes are responses with status 200 and these contents, one after the other, and the others are the rest
abbrev pub IsResponses : List Trip → List ℕ → List ℕ → Type 0
IsResponses [] bytes rest = rest ≡ bytes
IsResponses (trip ∷ trips) bytes rest = (count : ℕ) × IsResponseMessage bytes count 200 trip.answer × IsResponses trips (drop count bytes) rest

-- a front of the request, or nothing where there is none
abbrev pub IsCut : Option (ℕ × List ℕ) → List ℕ → Type 0
IsCut None front = front ≡ []
IsCut (Some (rid, body)) front = (others : List ℕ) × (post_text body ≡ front ++ others)

-- What was given to a link is the texts of requests of the client, the last one perhaps in part; what was taken from it begins with
-- a response to each but that one, in order
pub record IsRun (seen : List Entry) (run : Run) : Type 0 where
  pub front : List ℕ
  pub given : run.exchange.given ≡ texts_of run.trips ++ front
  pub cut : IsCut run.last front
  pub rest : List ℕ
  pub taken : IsResponses run.trips run.exchange.taken rest
  pub made : All (λ t. WasNext seen t.rid t.body) run.trips
  pub last_made : IfSome run.last (λ request. WasNext seen request.0 request.1)

-- the answers of a link that the client took, each with the id of the request that it answered
abbrev pub taken_answers : List Trip → List (ℕ × List ℕ)
taken_answers trips = flat_map (λ t. if t.is_taken then (t.rid, t.answer) ∷ [] else []) trips

abbrev pub answer_in : Call → List (ℕ × List ℕ)
answer_in (calls.Put stanza) = []
answer_in calls.Restart = []
answer_in (calls.Pause seconds) = []
answer_in calls.Terminate = []
answer_in (calls.Next now) = []
answer_in (calls.Answer rid body now) = (rid, body) ∷ []
answer_in calls.HandOut = []

-- the answers that entries give
abbrev pub answers_in : List Entry → List (ℕ × List ℕ)
answers_in es = flat_map (λ e. by_call [] answer_in e.entered) es

-- The links that began and were retired carried requests of the client and the responses to them; and the answers that were added to
-- the caller's own entries are those that were read so, in order
pub record Carries (old new : Known Entry) (events : List Event) : Type 0 where
  pub runs : List Run
  pub exchanged : exchanges events ≡ map (λ run. run.exchange) runs
  pub carried : All (IsRun new.seen) runs
  pub added : List Entry
  pub mine : new.mine ≡ old.mine ++ added
  pub answers : answers_in added ≡ flat_map (λ run. taken_answers run.trips) runs

-- the same, where the network tells its events, and no port was dialled but this one
pub record CarriesTold (port : ℕ) (old new : Known Entry) (earlier later : Option (List Event)) : Type 0 where
  pub events : List Event
  pub grows : Grows earlier later events
  pub carries : IfSome later (λ _. Carries old new events)
  pub dialled : All (λ other. other ≡ port) (ports_dialled events)
