-- What every event keeps, from which both promises follow.
use Rattle.std.specs.Prelude.{◌≡◌, ℕ, ◌<◌, ◌≤◌, ◌^◌, ◌⊎◌, true, All, List, [], map, Option, Some, None}
use Rattle.bosh_types.specs.ById.{at_id}
use Rattle.bosh_types.specs.declared.condition.Condition.{Condition}
use Rattle.bosh_types.specs.declared.condition.Condition.TheVariants.{ItemNotFound, UndefinedCondition}
use Rattle.body_cutter.specs.declared.parts.Span.{Span}
use Rattle.body_writer.specs.Answer.{answer_text}
use Rattle.session_core.specs.declared.copy.RequestCopy.{RequestCopy}
use Rattle.session_core.specs.Copy as copies
use Rattle.session_core.specs.Endings.{error_text, terminal}
use Rattle.session_core.specs.Journal.{IsJournal}
use Rattle.session_core.specs.Machine.{bytes_for}
use Rattle.session_core.specs.declared.opening.Opening.{Opening}
use Rattle.session_core.specs.ReadBack.{asked_by}
use Rattle.session_core.specs.Run.{arrivals_of}
use Rattle.session_core.specs.State.{Issued, PlainSession, is_over}
use Rattle.session_core.specs.TicketsOut.{issued_at}
use Rattle.bosh_client.specs.declared.setup.ClientSetup.{ClientSetup}
use Rattle.bosh_client.specs.PlainClient.{Made, PlainClient, Taken, bytes_of, id_of}
use Rattle.bosh_client.specs.Requests.{creation_parts}
use Rattle.bosh_client.specs.Runs.{Call, client_after}
use Rattle.bosh_client.specs.Runs as client_runs
use Rattle.world_laws.specs.declared.told.Parked.{Parked}
use Rattle.world_laws.specs.Manager.{PlainManager, session}
use Rattle.world_laws.specs.Setup.{IsWorldSetup}
use Rattle.world_laws.specs.Steps.{name}
use Rattle.world_laws.specs.World.{PlainWorld}

-- the client is one that calls made
pub record IsRunClient (setup : ClientSetup) (c : PlainClient) : Type 0 where
  pub calls : List Call
  pub allowed : All client_runs.IsAllowed calls
  pub is : c ≡ client_after setup calls

-- each request in the network is the body of its id
abbrev pub sent_of : Made → ℕ × List ℕ
sent_of request = (id_of request, bytes_of request)

abbrev pub sent_by : PlainClient → List (ℕ × List ℕ)
sent_by c = map sent_of c.requests

-- the session was opened by the client's creation, under its name and for the client's host
pub record IsOpenedBy (setup : ClientSetup) (o : Opening) : Type 0 where
  pub children : List Span
  pub request_is : o.request ≡ asked_by (creation_parts setup) children
  pub sid_is : o.sid ≡ name
  pub host_is : o.host ≡ setup.to

-- what arrived is the body of its id
abbrev pub IsSent : List (ℕ × List ℕ) → RequestCopy → Type 0
IsSent sent copy = at_id sent (copies.id_of copy) ≡ Some copy.body

-- what a copy is told that finds no place in its session
abbrev pub TellsNoPlace : Option Condition → Type 0
TellsNoPlace condition = (condition ≡ Some ItemNotFound) ⊎ (condition ≡ Some UndefinedCondition)

-- the body is what its id was given, as its one answer or as its last word; or the session is over, and it tells a copy that found
-- no place there
abbrev pub IsAnswerTo : PlainSession → ℕ × List ℕ → Type 0
IsAnswerTo s answer =
    (bytes_for s answer.0 ≡ Some answer.1)
    ⊎ ((condition : Option Condition) × (answer.1 ≡ answer_text (terminal condition)) × (is_over s ≡ true) × TellsNoPlace condition)

-- what the network has to bring back is an answer to its id, or the error, by which a request counts as not received: the client takes
-- no error for an answer
abbrev pub IsWrittenTo : PlainSession → ℕ × List ℕ → Type 0
IsWrittenTo s answer = IsAnswerTo s answer ⊎ (answer.1 ≡ error_text)

-- the body of an answer that the client took, with its id
abbrev pub body_taken : ℕ × Taken → ℕ × List ℕ
body_taken answer = (answer.0, answer.1.body)

-- the ticket with this number was handed out for this id
abbrev pub IsTicketOf : List Issued → ℕ → ℕ → Type 0
IsTicketOf tickets number rid = (ticket : Issued) × (issued_at tickets number ≡ Some ticket) × (ticket.rid ≡ rid)

-- a request that waits has the ticket of its id
abbrev pub IsParkedAt : PlainSession → Parked → Type 0
IsParkedAt s parked = IsTicketOf s.tickets parked.ticket parked.rid

-- the journal is one that calls made after the client's creation; whatever arrived is the body of its id; whatever the network has to
-- bring back is an answer to its id, or the error; whatever the client took is an answer to its id; and no moment is later than the
-- world's
pub record IsSoundManager (setup : ClientSetup) (sent written : List (ℕ × List ℕ)) (answers : List (ℕ × Taken)) (moment : ℕ) (m : PlainManager) : Type 0 where
  pub made : IsJournal m.journal
  pub opened : IsOpenedBy setup m.journal.opening
  pub arrived : All (IsSent sent) (arrivals_of m.journal)
  pub parked_at : All (IsParkedAt (session m)) m.parked
  pub written_are : All (IsWrittenTo (session m)) written
  pub taken_are : All (λ answer. IsAnswerTo (session m) (body_taken answer)) answers
  pub early : (session m).now ≤ moment

-- before the creation came nothing was answered
abbrev pub IsSoundEnd : ClientSetup → List (ℕ × List ℕ) → List (ℕ × List ℕ) → List (ℕ × Taken) → ℕ → Option PlainManager → Type 0
IsSoundEnd setup sent written answers moment None = (written ≡ []) × (answers ≡ [])
IsSoundEnd setup sent written answers moment (Some m) = IsSoundManager setup sent written answers moment m

pub record IsSound (setup : ClientSetup) (w : PlainWorld) : Type 0 where
  pub begins : IsWorldSetup w.host w.greeting setup
  pub client : IsRunClient setup w.client
  pub sent_is : w.sent ≡ sent_by w.client
  pub time : w.moment < 2 ^ 64
  pub manager : IsSoundEnd setup w.sent w.written w.client.answers w.moment w.manager
