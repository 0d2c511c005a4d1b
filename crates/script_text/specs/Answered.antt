-- What the answers of a report are: each is for the latest request on its connection, and is what a session gave that request's
-- id, or the error of a copy of it that was struck, or a refusal with its cause.
use Rattle.std.specs.Prelude.{◌≡◌, ℕ, ◌+◌, ◌==◌, true, false, ⊤, nat_lt, List, [], ◌∷◌, ◌++◌, All, Option, Some, None, slice_get, ◌⊎◌, if◌then◌else◌}
use Rattle.bosh_types.specs.Limits.{most_lines}
use Rattle.bosh_types.specs.declared.condition.Condition.{Condition}
use Rattle.bosh_types.specs.declared.kept.KeptAnswer.{KeptAnswer}
use Rattle.session_attrs.specs.declared.request.Request.{Request}
use Rattle.session_core.specs.Endings.{error_text}
use Rattle.session_core.specs.Journal.{Journal}
use Rattle.session_core.specs.Kept.{kept_of}
use Rattle.session_core.specs.Machine.{bytes_for, body_cost, is_full}
use Rattle.session_core.specs.State.{PlainSession, Strikes, is_over}
use Rattle.session_core.specs.Time.{time_applied}
use Rattle.script_text.specs.declared.line.BadKind.TheVariants.{Count, End}
use Rattle.script_text.specs.declared.line.LineRead.{LineRead}
use Rattle.script_text.specs.declared.line.LineRead.TheVariants.{Line, BadLine}
use Rattle.script_text.specs.declared.line.ScriptLine.{ScriptLine}
use Rattle.script_text.specs.declared.line.ScriptLine.TheVariants.{Open, Short, Host, At, Post, Close, Back, Shut, End as LastLine}
use Rattle.script_text.specs.declared.report.ReportLine.{ReportLine}
use Rattle.script_text.specs.declared.report.ReportLine.TheVariants.{In, Out, Lost, Gone, Refused, Over, Done, Bad}
use Rattle.script_text.specs.Headline.{is_opened, manager_of}
use Rattle.line_reader.specs.Lines.{lines_of}
use Rattle.script_text.specs.Live.{PlainLive, state}
use Rattle.script_text.specs.Manager.{PlainManager, is_waiting, new_manager, place_of, request_in}
use Rattle.script_text.specs.Posted.{named_of}
use Rattle.script_text.specs.Refusing.{Cause, EndsItsSession, IsAmong, refusal_text}
use Rattle.script_text.specs.Script.{PlainRun, Beginning, Arrivals, Bodies, Goes, Ends, Step, run_after, step_by, said}

-- a body that a line posts on a connection
pub record Posting : Type 0 where
  pub conn : ℕ
  pub body : List ℕ

abbrev pub postings_of : ScriptLine → List Posting
postings_of (Open rid) = []
postings_of (Short rid stanza) = []
postings_of (Host name greeting) = []
postings_of (At moment) = []
postings_of (Post conn body) = record { conn = conn; body = body } ∷ []
postings_of (Close conn) = []
postings_of (Back sid stream stanza) = []
postings_of (Shut sid stream closing) = []
postings_of LastLine = []

abbrev pub postings_in : LineRead → List Posting
postings_in (Line said) = postings_of said
postings_in (BadLine kind) = []

-- a line of a script where it stands: what it says, what the script is run over before it, what was posted up to it, the latest
-- first, what the report tells of it, and the sessions as they are after it, those that ended with it first
pub record Stage : Type 0 where
  pub said : LineRead
  pub before : PlainRun
  pub posted : List Posting
  pub lines : List ReportLine
  pub after : List PlainLive

abbrev pub sessions_after : PlainRun → Step → List PlainLive
sessions_after run step = step.over ++ (manager_of (run_after run step.next)).live

abbrev pub stage_with : List Posting → PlainRun → LineRead → Step → Stage
stage_with posted run read step = record { said = read; before = run; posted = posted; lines = step.lines; after = sessions_after run step }

abbrev pub stage_of : List Posting → PlainRun → ℕ → LineRead → Stage
stage_of posted run n read = stage_with (postings_in read ++ posted) run read (step_by run n read)

-- a script of bodies is run over this; one of the requests of one session over none
abbrev pub over_bodies : PlainRun → Option PlainManager
over_bodies Beginning = Some new_manager
over_bodies (Arrivals m) = None
over_bodies (Bodies m) = Some m

-- the lines of a script, to the one with which it ends
abbrev pub stages_on : List Posting → PlainRun → ℕ → List (List ℕ) → List Stage
stages_on posted run n [] = stage_of posted run n (BadLine (if nat_lt most_lines n then Count else End)) ∷ []
stages_on posted run n (line ∷ others) =
    stage_of posted run n (said n line)
    ∷ elim (step_by run n (said n line)).next [
      | Goes after ↦ stages_on (postings_in (said n line) ++ posted) after (n + 1) others
      | Ends outcome ↦ []
    ]

abbrev pub stages_by : List ℕ → List Stage
stages_by script = stages_on [] Beginning 1 (lines_of script)

-- all that the report tells of them
abbrev pub lines_told : List Stage → List ReportLine
lines_told [] = []
lines_told (stage ∷ stages) = stage.lines ++ lines_told stages

-- Answers.

-- the line posts a body on this connection, which is refused with a condition that has its cause
abbrev pub IsRefusal : Stage → ℕ → List ℕ → Type 0
IsRefusal stage conn body =
    (asked : List ℕ) × (condition : Condition) × (stage.said ≡ Line (Post conn asked)) × (body ≡ refusal_text condition)
    × (Cause (manager_of stage.before) asked condition ⊎ EndsItsSession stage.lines asked condition)

-- and where such a cause holds, the body is refused so, and nothing else comes of the line
abbrev pub IsRefused : Stage → Type 0
IsRefused stage =
    (m : PlainManager) (conn : ℕ) (asked : List ℕ) (condition : Condition) → over_bodies stage.before ≡ Some m → stage.said ≡ Line (Post conn asked)
    → is_waiting m conn ≡ false → Cause m asked condition
    → (stage.lines ≡ Out conn (refusal_text condition) ∷ []) × (stage.after ≡ m.live)

-- the latest body on this connection
abbrev pub latest_on : ℕ → List Posting → Option (List ℕ)
latest_on conn [] = None
latest_on conn (posting ∷ earlier) = if posting.conn == conn then Some posting.body else latest_on conn earlier

-- the latest body on this connection is this request
abbrev pub Asks : List Posting → ℕ → Request → Type 0
Asks posted conn request = (body : List ℕ) × (latest_on conn posted ≡ Some body) × (request_in body ≡ Some request)

-- a request is for the session that it names, or that it created
abbrev pub IsFor : Request → ℕ → Journal → Type 0
IsFor request number journal = (named_of request.kind ≡ Some number) ⊎ (journal.opening.request ≡ request)

-- a copy of this id was struck
abbrev pub WasStruck : PlainSession → ℕ → Type 0
WasStruck s rid = (moment : ℕ) × (place : ℕ) × (slice_get s.placings place ≡ Some (Strikes rid moment))

-- a session gave an id these bytes; or they are the error, and a copy of the id was struck
abbrev pub GivesId : PlainSession → ℕ → List ℕ → Type 0
GivesId s rid bytes = (bytes_for s rid ≡ Some bytes) ⊎ ((bytes ≡ error_text) × WasStruck s rid)

-- the request is for the session with this number, which gave its id these bytes
abbrev pub IsGivenBy : List PlainLive → ℕ → Request → List ℕ → Type 0
IsGivenBy sessions number request bytes =
    All (λ s. s.number ≡ number → IsFor request number s.journal × GivesId (state s) request.rid bytes) sessions

-- of these sessions, with numbers up to this one, one gave this answer to the id of the latest request on its connection, or
-- told it that a copy of that id was struck; or the answer is a refusal
abbrev pub IsAccounted : ℕ → List PlainLive → Stage → ReportLine → Type 0
IsAccounted opened sessions stage (In session item) = ⊤
IsAccounted opened sessions stage (Out conn body) =
    IsRefusal stage conn body
    ⊎ ((number : ℕ) × (request : Request) × Asks stage.posted conn request × (is_opened opened number ≡ true) × IsGivenBy sessions number request body)
IsAccounted opened sessions stage (Lost conn) = ⊤
IsAccounted opened sessions stage (Gone conn) = ⊤
IsAccounted opened sessions stage (Refused session refusal) = ⊤
IsAccounted opened sessions stage (Over session ending) = ⊤
IsAccounted opened sessions stage (Done line) = ⊤
IsAccounted opened sessions stage (Bad line kind) = ⊤

abbrev pub AreAccounted : ℕ → List PlainLive → Stage → Type 0
AreAccounted opened sessions stage = All (IsAccounted opened sessions stage) stage.lines

-- Repeats.

-- a request for a live session that keeps an answer for its id, as time stands, and whose journal has room
pub record Repeats (m : PlainManager) (body : List ℕ) (answer : KeptAnswer) : Type 0 where
  pub request : Request
  pub reads : request_in body ≡ Some request
  pub session : PlainLive
  pub place : ℕ
  pub there : place_of m session.number ≡ Some place
  pub here : slice_get m.live place ≡ Some session
  pub named : named_of request.kind ≡ Some session.number
  pub goes_on : is_over (time_applied (state session) m.moment) ≡ false
  pub room : is_full (state session) (body_cost request body) ≡ false
  pub kept : kept_of (time_applied (state session) m.moment) request.rid ≡ Some answer

-- where a line posts such a repeat, the kept bytes go out on its connection
abbrev pub GivesKept : Stage → Type 0
GivesKept stage =
    (m : PlainManager) (conn : ℕ) (body : List ℕ) (answer : KeptAnswer) → stage.before ≡ Bodies m → stage.said ≡ Line (Post conn body)
    → is_waiting m conn ≡ false → Repeats m body answer → IsAmong (Out conn answer.bytes) stage.lines
