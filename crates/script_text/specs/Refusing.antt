-- Why a body is refused, and with which condition (XEP-0124, section 17.2).
use Rattle.std.specs.Prelude.{◌≡◌, ℕ, ◌≤◌, Bool, true, false, List, [], ◌∷◌, ◌++◌, All, length, Option, Some, None, ◌⊎◌}
use Rattle.std.specs.List.{list_any}
use Rattle.std.specs.Str.{bytes_eq}
use Rattle.bosh_types.specs.declared.condition.Condition.{Condition}
use Rattle.bosh_types.specs.declared.condition.Condition.TheVariants.{BadRequest, HostUnknown, ImproperAddressing, ItemNotFound, OtherRequest, PolicyViolation, RemoteConnectionFailed, RemoteStreamError, SystemShutdown, UndefinedCondition}
use Rattle.bosh_types.specs.declared.ending.Ending.{Ending}
use Rattle.bosh_types.specs.declared.ending.Ending.TheVariants.{Terminated, Stale, Above, WrongKey, UnknownStream, PauseTooLong, Overactive, Silent, Closed, JournalFull}
use Rattle.bosh_types.specs.declared.hosts.HostName.{HostName}
use Rattle.body_writer.specs.Answer.{answer_text}
use Rattle.session_attrs.specs.declared.request.Creation.{Creation}
use Rattle.session_attrs.specs.declared.request.Kind.TheVariants as kinds
use Rattle.session_attrs.specs.declared.request.Request.{Request}
use Rattle.session_core.specs.Endings.{terminal}
use Rattle.script_text.specs.declared.report.ReportLine.{ReportLine}
use Rattle.script_text.specs.declared.report.ReportLine.TheVariants.{Over}
use Rattle.script_text.specs.Headline.{is_numbered}
use Rattle.script_text.specs.Manager.{PlainManager, has_room, number_of, request_in}
use Rattle.script_text.specs.Posted.{named_of}

-- the body that refuses a request with this condition
abbrev pub refusal_text : Condition → List ℕ
refusal_text condition = answer_text (terminal (Some condition))

-- no live session has the number that this name gives, if it gives one
abbrev pub IsNoneLive : PlainManager → List ℕ → Type 0
IsNoneLive m sid = (number : ℕ) → number_of sid ≡ Some number → All (λ s. is_numbered number s ≡ false) m.live

-- the body asks for a session that was opened before, by this name
abbrev pub AsksFor : List ℕ → List ℕ → Type 0
AsksFor body sid = (request : Request) × (request_in body ≡ Some request) × (request.kind ≡ kinds.Later sid)

-- the body is to create a session, with this as its attribute `to`
abbrev pub Creates : List ℕ → Option (List ℕ) → Type 0
Creates body to =
    (request : Request) × (request_in body ≡ Some request) × (request.to ≡ to) × ((creation : Creation) × (request.kind ≡ kinds.Creation creation))

abbrev pub is_host : PlainManager → List ℕ → Bool
is_host m name = list_any (λ (host : HostName). bytes_eq host.name name) m.hosts

-- Why a body is refused with a condition before any session sees it, and what else it is told by none of them.
abbrev pub Cause : PlainManager → List ℕ → Condition → Type 0
-- it can't be cut, or its attributes are refused
Cause m body BadRequest = request_in body ≡ None
-- it is for a session that isn't live: none was opened with that number, or it has ended
Cause m body ItemNotFound = (sid : List ℕ) × AsksFor body sid × IsNoneLive m sid
-- it creates a session, and its `to` is absent or empty
Cause m body ImproperAddressing = Creates body None ⊎ Creates body (Some [])
-- it creates a session with a host that there isn't
Cause m body HostUnknown = (name : List ℕ) × Creates body (Some name) × (1 ≤ length name) × (is_host m name ≡ false)
-- it would create a session, and as many are live, or were opened, as may be
Cause m body UndefinedCondition =
    (name : List ℕ) × Creates body (Some name) × (1 ≤ length name) × (is_host m name ≡ true) × (has_room (length m.live) m.opened ≡ false)
Cause m body OtherRequest = ⊥
Cause m body PolicyViolation = ⊥
Cause m body RemoteConnectionFailed = ⊥
Cause m body RemoteStreamError = ⊥
Cause m body SystemShutdown = ⊥

-- A copy with this id found no place in its session, which ended so before the copy was looked at, or for it: its answer isn't kept any
-- more, its id is beyond the window, it came too late, or the journal had no room.
abbrev pub FindsNoPlace : ℕ → Ending → Condition → Type 0
FindsNoPlace rid (Stale id lowest) condition = (id ≡ rid) × (condition ≡ ItemNotFound)
FindsNoPlace rid (Above id last requests) condition = (id ≡ rid) × (condition ≡ ItemNotFound)
FindsNoPlace rid (Silent since now) condition = condition ≡ ItemNotFound
FindsNoPlace rid (JournalFull counted cost) condition = condition ≡ UndefinedCondition
FindsNoPlace rid (Terminated id) condition = ⊥
FindsNoPlace rid (WrongKey id) condition = ⊥
FindsNoPlace rid (UnknownStream id) condition = ⊥
FindsNoPlace rid (PauseTooLong id pause maxpause) condition = ⊥
FindsNoPlace rid (Overactive id apart) condition = ⊥
FindsNoPlace rid (Closed closing id) condition = ⊥

-- this line is one of these
abbrev pub IsAmong : ReportLine → List ReportLine → Type 0
IsAmong line lines = (before after : List ReportLine) × (lines ≡ before ++ line ∷ after)

-- the body is for a session that these lines say has ended, and found no place there
abbrev pub EndsItsSession : List ReportLine → List ℕ → Condition → Type 0
EndsItsSession lines body condition =
    (request : Request) × (request_in body ≡ Some request)
    × ((number : ℕ) × (named_of request.kind ≡ Some number)
    × ((ending : Ending) × IsAmong (Over number ending) lines × FindsNoPlace request.rid ending condition))
