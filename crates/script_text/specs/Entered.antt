-- What each line of a script enters into the journals of the sessions that are live: what it says, at the present moment, into that of the
-- session that it names, and nothing into any other.
use Rattle.std.specs.Prelude.{◌≡◌, ⊤, ℕ, Bool, true, false, List, [], ◌∷◌, ◌++◌, All, Option, Some, None, if◌then◌else◌}
use Rattle.std.specs.List.{list_any}
use Rattle.session_attrs.specs.declared.request.Request.{Request}
use Rattle.session_core.specs.Copy.{unnamed}
use Rattle.session_core.specs.Journal.{Call, Arrive, Collect, Back, BackClosed, Tick, TakeInward, Arrival, ServerStanza, ServerClosing, Time, Entered, Made, Limit, Entry, Journal, within_limit}
use Rattle.session_core.specs.Time.{is_due}
use Rattle.session_calls.specs.After.{with_entered}
use Rattle.session_laws.specs.Growing.{with_later}
use Rattle.script_text.specs.declared.line.LineRead.{LineRead}
use Rattle.script_text.specs.declared.line.LineRead.TheVariants.{Line, BadLine}
use Rattle.script_text.specs.declared.line.ScriptLine.{ScriptLine}
use Rattle.script_text.specs.declared.line.ScriptLine.TheVariants.{Open, Short, Host, At, Post, Close, Back as GivesBack, Shut, End as LastLine}
use Rattle.script_text.specs.declared.report.ReportLine.{ReportLine}
use Rattle.script_text.specs.declared.report.ReportLine.TheVariants.{In, Out, Lost, Gone, Refused, Over, Done, Bad}
use Rattle.script_text.specs.Answered.{Stage, over_bodies}
use Rattle.script_text.specs.Live.{PlainLive, state}
use Rattle.script_text.specs.Manager.{PlainManager, number_of, request_in}
use Rattle.script_text.specs.Posted.{is_number, named_of}

-- what a body enters that gives this request, if it names this session
abbrev pub arrives_at : ℕ → List ℕ → PlainLive → Option Request → Option Entered
arrives_at now body s None = None
arrives_at now body s (Some request) =
    if is_number s.number (named_of request.kind) then Some (within_limit (state s) Arrival now (Arrive request body now)) else None

-- What a line enters of a live session: what it says, or that the journal had no room for it. A line of time enters itself where time has
-- something to do for the session, and others where they name it.
abbrev pub entry_at : PlainManager → ScriptLine → PlainLive → Option Entered
entry_at m (Open rid) s = None
entry_at m (Short rid stanza) s = None
entry_at m (Host name greeting) s = None
entry_at m (At moment) s = if is_due (state s) moment then Some (within_limit (state s) Time moment (Tick moment)) else None
entry_at m (Post conn body) s = arrives_at m.moment body s (request_in body)
entry_at m (Close conn) s = None
entry_at m (GivesBack sid stream stanza) s =
    if is_number s.number (number_of sid) then Some (within_limit (state s) ServerStanza m.moment (Back stream stanza m.moment)) else None
entry_at m (Shut sid stream closing) s =
    if is_number s.number (number_of sid) then Some (within_limit (state s) ServerClosing m.moment (BackClosed stream closing m.moment)) else None
entry_at m LastLine s = None

-- what went inward was taken, or what a request that waited was told was collected
abbrev pub IsOwn : Entry → Type 0
IsOwn entry = elim entry.entered [
  | Made (Arrive request body now) ↦ ⊥
  | Made (Collect ticket) ↦ ⊤
  | Made (Back stream stanza now) ↦ ⊥
  | Made (BackClosed stream closing now) ↦ ⊥
  | Made (Tick now) ↦ ⊥
  | Made TakeInward ↦ ⊤
  | Limit kind cost now ↦ ⊥
]

-- nothing is entered, and the journal stays; or this is, and after it no more than what is taken and collected
abbrev pub GoesOnWith : Option Entered → Journal → Journal → Type 0
GoesOnWith None before after = after ≡ before
GoesOnWith (Some entered) before after =
    (rest : List Entry) × (after ≡ with_later (with_entered before (Some entered)) rest) × All IsOwn rest

-- this is one of these
abbrev pub IsOneOf : {X : Type 0} → X → List X → Type 0
IsOneOf {X} x xs = (before after : List X) × (xs ≡ before ++ x ∷ after)

-- the session is one of these, with a journal that goes on so
abbrev pub StandsWith : List PlainLive → PlainLive → Option Entered → Type 0
StandsWith after s entered = (t : PlainLive) × IsOneOf t after × (t.number ≡ s.number) × GoesOnWith entered s.journal t.journal

-- the report says that the line is bad
abbrev pub is_bad : ReportLine → Bool
is_bad (In session item) = false
is_bad (Out conn body) = false
is_bad (Lost conn) = false
is_bad (Gone conn) = false
is_bad (Refused session refusal) = false
is_bad (Over session ending) = false
is_bad (Done line) = false
is_bad (Bad line kind) = true

-- each session that is live before a line is there after it, and its journal goes on with what the line enters of it
abbrev pub IsEntered : Stage → Type 0
IsEntered stage =
    (m : PlainManager) (line : ScriptLine) → over_bodies stage.before ≡ Some m → stage.said ≡ Line line → list_any is_bad stage.lines ≡ false
    → All (λ s. StandsWith stage.after s (entry_at m line s)) m.live

-- a journal is an earlier one with more entries
abbrev pub Grew : Journal → Journal → Type 0
Grew journal longer = (more : List Entry) × (longer ≡ with_later journal more)

-- the session is one of these, with a journal that goes on from what it was
abbrev pub IsStill : List PlainLive → PlainLive → Type 0
IsStill sessions s = (t : PlainLive) × IsOneOf t sessions × (t.number ≡ s.number) × Grew s.journal t.journal

-- each session that a line leaves is one of these
abbrev pub AreStill : List PlainLive → Stage → Type 0
AreStill sessions stage = All (IsStill sessions) stage.after

-- the present moment after a line
abbrev pub moment_by : ℕ → ScriptLine → ℕ
moment_by now (Open rid) = now
moment_by now (Short rid stanza) = now
moment_by now (Host name greeting) = now
moment_by now (At moment) = moment
moment_by now (Post conn body) = now
moment_by now (Close conn) = now
moment_by now (GivesBack sid stream stanza) = now
moment_by now (Shut sid stream closing) = now
moment_by now LastLine = now

abbrev pub moment_said : ℕ → LineRead → ℕ
moment_said now (Line line) = moment_by now line
moment_said now (BadLine kind) = now

-- the present moment is this one before these lines, and then that of the last line `at`
abbrev pub AreTimed : ℕ → List Stage → Type 0
AreTimed now [] = ⊤
AreTimed now (stage ∷ stages) = ((m : PlainManager) → over_bodies stage.before ≡ Some m → m.moment ≡ now) × AreTimed (moment_said now stage.said) stages
