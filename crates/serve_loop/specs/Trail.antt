-- What the lines of a trail say.
use Rattle.std.specs.Prelude.{◌≡◌, ℕ, true, List, [], ◌∷◌, ◌++◌, length, IfSome, Option, Some, None, slice_get, ◌⊎◌}
use Rattle.bosh_http.specs.declared.refusal.HttpRefusal.{HttpRefusal}
use Rattle.bosh_types.specs.declared.condition.Condition.{Condition}
use Rattle.bosh_types.specs.declared.condition.Condition.TheVariants.{ItemNotFound, UndefinedCondition}
use Rattle.bosh_types.specs.declared.hosts.HostName.{HostName}
use Rattle.body_writer.specs.Answer.{answer_text}
use Rattle.parked_gate.specs.Histories.{calls_of}
use Rattle.parked_gate.specs.Passes.{known}
use Rattle.session_attrs.specs.declared.request.Kind.TheVariants as kinds
use Rattle.session_attrs.specs.declared.request.Request.{Request}
use Rattle.session_core.specs.declared.replies.Arrived.{Arrived}
use Rattle.session_core.specs.declared.replies.Arrived.TheVariants as arrivals
use Rattle.session_core.specs.declared.replies.Collected.TheVariants as collections
use Rattle.session_core.specs.Endings.{terminal}
use Rattle.session_core.specs.Journal as plain
use Rattle.session_core.specs.Machine.{body_cost}
use Rattle.session_core.specs.State.{is_over}
use Rattle.session_journal.specs.declared.entry.Entered.{Entered}
use Rattle.session_journal.specs.declared.entry.Entered.TheVariants as stored
use Rattle.session_journal.specs.declared.entry.Entry as journal
use Rattle.session_journal.specs.declared.entry.Limited.TheVariants.{Arrival}
use Rattle.session_journal.specs.Stored.{After, Replies}
use Rattle.session_table.specs.declared.handle.SessionHandle.{SessionHandle}
use Rattle.session_table.specs.declared.opening.Limits.{Limits}
use Rattle.session_table.specs.declared.opening.Opening.{Opening}
use Rattle.session_table.specs.declared.purse.Purse.{Purse}
use Rattle.session_table.specs.History.{live_at}
use Rattle.session_table.specs.Replies.{IsFull, IsSpent, Starts}
use Rattle.serve_loop.specs.declared.asked.Asked.TheVariants.{Nothing, Creation}
use Rattle.serve_loop.specs.declared.trail.Evidence.{Evidence}
use Rattle.serve_loop.specs.declared.trail.Evidence.TheVariants as evidence
use Rattle.serve_loop.specs.declared.trail.TrailLine.{TrailLine}
use Rattle.serve_loop.specs.declared.trail.TrailLine.TheVariants as lines
use Rattle.serve_loop.specs.Asked.{asked_of, request_in}
use Rattle.serve_loop.specs.Effects.{AsksDirectory, CallsOne, OpensOne}

-- what a site tells: its hosts, the limits that sessions are opened within, and the moment of its clock where the clock tells that
pub record Setting : Type 0 where
  pub hosts : List HostName
  pub limits : Limits
  pub moment : Option ℕ

abbrev pub setting : List HostName → Limits → Option ℕ → Setting
setting hosts limits moment = record { hosts = hosts; limits = limits; moment = moment }

-- it is the clock's moment
abbrev pub IsNow : Setting → ℕ → Type 0
IsNow site now = IfSome site.moment (λ told. now ≡ told)

-- the body that refuses a request with a condition, and ends nothing
abbrev pub refusal_text : Condition → List ℕ
refusal_text condition = answer_text (terminal (Some condition))

-- the body is a later request that names this session
pub record Names (body sid : List ℕ) (request : Request) : Type 0 where
  pub read : request_in body ≡ Some request
  pub named : request.kind ≡ kinds.Later sid

-- after this history the arrival of the body, at the clock's moment, was replied so, and made this entry
abbrev pub Arrives : Setting → List journal.Entry → journal.Entry → Request → List ℕ → Arrived → Type 0
Arrives site before e request body reply = (now : ℕ) × IsNow site now × Replies before (plain.Arrive request body now) (plain.ToArrive reply) (Some e)

-- the request came in this history before, from this caller, which entered nothing since, and was given this ticket
pub record WaitedFor (site : Setting) (history : List journal.Entry) (caller : ℕ) (request : Request) (body : List ℕ) (ticket : ℕ) : Type 0 where
  pub before : List journal.Entry
  pub entry : journal.Entry
  pub later : List journal.Entry
  pub there : history ≡ before ++ entry ∷ later
  pub own : entry.caller ≡ caller
  pub since : calls_of (λ e. e.caller) caller later ≡ []
  pub waits : Arrives site before entry request body (arrivals.Parked ticket)

-- the entry that follows this history answers the request with this text: it is the arrival of the body, or the limit of the
-- journal in its place, which alone was added for it; or the collection of the ticket that the arrival was given, and both were added
abbrev pub AnswersBy : Setting → List journal.Entry → journal.Entry → Entered → Request → List ℕ → List ℕ → List journal.Entry → Type 0
AnswersBy site before e (stored.Arrive stored now) request body text added =
    (stored ≡ body) × Arrives site before e request body (arrivals.Answer text) × (added ≡ e ∷ [])
AnswersBy site before e (stored.Limit kind cost now) request body text added =
    (kind ≡ Arrival) × (cost ≡ body_cost request body) × Arrives site before e request body (arrivals.Answer text) × (added ≡ e ∷ [])
AnswersBy site before e (stored.Collect ticket) request body text added =
    (came : WaitedFor site before e.caller request body ticket)
    × Replies before (plain.Collect ticket) (plain.ToCollect (collections.Answer text)) (Some e) × (added ≡ came.entry ∷ e ∷ [])
AnswersBy site before e (stored.Open sid host greeting body' now limit gap_waits) request body text added = ⊥
AnswersBy site before e (stored.Back stream stanza now) request body text added = ⊥
AnswersBy site before e (stored.BackClosed stream closing now) request body text added = ⊥
AnswersBy site before e (stored.Tick now) request body text added = ⊥
AnswersBy site before e stored.TakeInward request body text added = ⊥

-- an entry of the session's history, made by this worker for this body, answers it, and is the last that this worker made there; nothing else was
-- done for it
pub record IsEntry (site : Setting) (sid : List ℕ) (caller place : ℕ) (body text : List ℕ) (old new : Purse) (session : SessionHandle) : Type 0 where
  pub request : Request
  pub names : Names body sid request
  pub of : session.sid ≡ sid
  pub by : (known session.pass).number ≡ caller
  pub before : List journal.Entry
  pub entry : journal.Entry
  pub later : List journal.Entry
  pub seen : (known session.pass).seen ≡ before ++ entry ∷ later
  pub at : length before ≡ place
  pub own : entry.caller ≡ caller
  pub since : calls_of (λ e. e.caller) caller later ≡ []
  pub added : List journal.Entry
  pub answers : AnswersBy site before entry entry.call request body text added
  pub number : ℕ
  pub alone : CallsOne old new number session added

-- what a session is opened with, for this body, at this host and at the clock's moment
pub record IsOpeningAt (site : Setting) (host : HostName) (request : Request) (body : List ℕ) (opening : Opening) : Type 0 where
  pub request_is : opening.request ≡ request
  pub body_is : opening.body ≡ body
  pub host_is : opening.host ≡ host.name
  pub greeting_is : opening.greeting ≡ host.greeting
  pub at_now : IsNow site opening.at
  pub limits_are : opening.limits ≡ site.limits

-- the body asks for a session at a host of the site, which is opened with this
pub record IsOpeningFor (site : Setting) (body : List ℕ) (opening : Opening) : Type 0 where
  pub request : Request
  pub place : ℕ
  pub host : HostName
  pub asks : asked_of site.hosts body ≡ Creation request place
  pub there : slice_get site.hosts place ≡ Some host
  pub opens : IsOpeningAt site host request body opening

-- the body created the session, at a host of the site; nothing else was done for it
pub record IsOpened (site : Setting) (sid body text : List ℕ) (old new : Purse) (session : SessionHandle) : Type 0 where
  pub opening : Opening
  pub created : IsOpeningFor site body opening
  pub of : session.sid ≡ sid
  pub starts : Starts session.number opening session text
  pub alone : OpensOne old new session

-- the directory, asked now, has no live session of the name; or the session, called now, has ended. Nothing was added
abbrev pub IsGone : List ℕ → Purse → Purse → Evidence → Type 0
IsGone sid old new evidence.Request = ⊥
IsGone sid old new (evidence.Session session) =
    (session.value.sid ≡ sid) × After (known session.value.pass).seen (λ s. is_over s ≡ true) × ((number : ℕ) × CallsOne old new number session.value [])
IsGone sid old new (evidence.Directory pass) = (live_at (known pass.value).seen sid ≡ None) × AsksDirectory old new (known pass.value)

pub record IsUnknown (sid body text : List ℕ) (old new : Purse) (by : Evidence) : Type 0 where
  pub request : Request
  pub names : Names body sid request
  pub gone : IsGone sid old new by
  pub text_is : text ≡ refusal_text ItemNotFound

-- the directory, asked now, says that no more sessions may be live within these limits, or be opened. Nothing was added
abbrev pub HasNoRoom : Limits → Purse → Purse → Evidence → Type 0
HasNoRoom limits old new evidence.Request = ⊥
HasNoRoom limits old new (evidence.Session session) = ⊥
HasNoRoom limits old new (evidence.Directory pass) =
    (IsFull limits (known pass.value).seen ⊎ IsSpent limits (known pass.value).seen) × AsksDirectory old new (known pass.value)

pub record FindsNoRoom (site : Setting) (body : List ℕ) (old new : Purse) (by : Evidence) : Type 0 where
  pub request : Request
  pub place : ℕ
  pub asks : asked_of site.hosts body ≡ Creation request place
  pub room : HasNoRoom site.limits old new by

-- the body asks nothing that could be answered otherwise, and nobody was asked; or there is no room
abbrev pub ConcernsNone : Setting → List ℕ → Condition → Purse → Purse → Evidence → Type 0
ConcernsNone site body condition old new by =
    ((asked_of site.hosts body ≡ Nothing condition) × (new ≡ old)) ⊎ ((condition ≡ UndefinedCondition) × FindsNoRoom site body old new by)

-- what a line says of the request with this body, which was answered with this text by a worker that kept these of the directory
-- before and after it
abbrev pub IsTrueOf : Setting → List ℕ → List ℕ → Purse → Purse → TrailLine → Evidence → Type 0
IsTrueOf site body text old new (lines.Http refusal) by = ⊥
IsTrueOf site body text old new (lines.Entry sid caller place) (evidence.Session session) = IsEntry site sid caller place body text old new session.value
IsTrueOf site body text old new (lines.Entry sid caller place) evidence.Request = ⊥
IsTrueOf site body text old new (lines.Entry sid caller place) (evidence.Directory pass) = ⊥
IsTrueOf site body text old new (lines.Opened sid) (evidence.Session session) = IsOpened site sid body text old new session.value
IsTrueOf site body text old new (lines.Opened sid) evidence.Request = ⊥
IsTrueOf site body text old new (lines.Opened sid) (evidence.Directory pass) = ⊥
IsTrueOf site body text old new (lines.Unknown sid) by = IsUnknown sid body text old new by
IsTrueOf site body text old new (lines.NoSession condition) by = (text ≡ refusal_text condition) × ConcernsNone site body condition old new by
