-- A manager of a script: its sessions, and what a line of the script does to them.
use Rattle.std.specs.Prelude.{ℕ, ◌+◌, ◌==◌, ◌&&◌, Bool, false, not, nat_lt, List, [], ◌∷◌, ◌++◌, map, length, position, slice_get, take, drop, Option, Some, None, Result, Ok, Err, codes, if◌then◌else◌}
use Rattle.std.specs.Fmt.{decimal}
use Rattle.std.specs.List.{list_any}
use Rattle.bosh_types.specs.Limits.{journal_bytes, most_openings, most_sessions}
use Rattle.bosh_types.specs.Rid.{rid_of}
use Rattle.bosh_types.specs.declared.condition.Condition.{Condition}
use Rattle.bosh_types.specs.declared.condition.Condition.TheVariants.{BadRequest, HostUnknown, ImproperAddressing, UndefinedCondition}
use Rattle.bosh_types.specs.declared.hosts.HostName.{HostName}
use Rattle.body_cutter.specs.declared.parts.Cut.{Cut}
use Rattle.body_writer.specs.Answer.{answer_text}
use Rattle.session_attrs.specs.declared.admission.Admitted.{Admitted}
use Rattle.session_attrs.specs.declared.admission.Admitted.TheVariants as admitted
use Rattle.session_attrs.specs.declared.request.Creation.{Creation}
use Rattle.session_attrs.specs.declared.request.Kind.{Kind}
use Rattle.session_attrs.specs.declared.request.Kind.TheVariants as kinds
use Rattle.session_attrs.specs.declared.request.Request.{Request}
use Rattle.session_attrs.specs.declared.refusal.AttrRefusal.{AttrRefusal}
use Rattle.session_attrs.specs.Admission.{admitted_of}
use Rattle.session_attrs.specs.Reading.{request_of}
use Rattle.session_attrs.specs.Terms.{terms_of}
use Rattle.session_attrs.specs.Values.{values_of}
use Rattle.session_core.specs.Endings.{terminal}
use Rattle.session_core.specs.Machine.{created_parts}
use Rattle.session_core.specs.declared.opening.Opening.{Opening}
use Rattle.script_text.specs.declared.event.Event.{Event}
use Rattle.script_text.specs.declared.event.Event.TheVariants.{Arrives, Passes}
use Rattle.script_text.specs.declared.live.Parked.{Parked}
use Rattle.script_text.specs.declared.report.ReportLine.{ReportLine}
use Rattle.script_text.specs.declared.report.ReportLine.TheVariants.{Out}
use Rattle.script_text.specs.Live.{PlainLive, Turn, told, turn_at, if_live, if_over, not_found}
use Rattle.script_text.specs.Stanza.{parts_of}

-- a manager of a script: its hosts, the moment, whether a line came after which no host may, how many sessions were opened,
-- and those that are live, in the order of opening
pub record PlainManager : Type 0 where
  pub hosts : List HostName
  pub moment : ℕ
  pub begun : Bool
  pub opened : ℕ
  pub live : List PlainLive

abbrev pub new_manager : PlainManager
new_manager = record { hosts = []; moment = 0; begun = false; opened = 0; live = [] }

-- what a line does to a manager: the lines of the report, the manager after it, and the sessions that ended with it
pub record Change : Type 0 where
  pub lines : List ReportLine
  pub after : PlainManager
  pub over : List PlainLive

abbrev pub with_live : PlainManager → List PlainLive → PlainManager
with_live m live = record m { live = live }

-- nothing but this line is reported
abbrev pub only : PlainManager → ReportLine → Change
only m line = record { lines = line ∷ []; after = m; over = [] }

-- Connections.

-- a request waits on this connection, which is open
abbrev pub waits_on : ℕ → Parked → Bool
waits_on conn parked = parked.is_open && (parked.conn == conn)

abbrev pub is_waiting : PlainManager → ℕ → Bool
is_waiting m conn = list_any (λ s. list_any (waits_on conn) s.parked) m.live

-- what waits on this connection is to be lost
abbrev pub closed_on : ℕ → Parked → Parked
closed_on conn parked = record parked { is_open = parked.is_open && not (parked.conn == conn) }

abbrev pub with_closed : ℕ → PlainLive → PlainLive
with_closed conn s = record s { parked = map (closed_on conn) s.parked }

abbrev pub closed : PlainManager → ℕ → Change
closed m conn = record { lines = []; after = with_live m (map (with_closed conn) m.live); over = [] }

-- Sessions.

-- the name of a session is `s` and its opening number, and this is the number that a name gives
unfoldable pub sid_of : ℕ → List ℕ
sid_of number = codes "s" ++ decimal number

abbrev pub number_of : List ℕ → Option ℕ
number_of [] = None
number_of (byte ∷ digits) = if byte == 115 then rid_of digits else None

-- where the session with this number stands among those that are live
abbrev pub place_of : PlainManager → ℕ → Option ℕ
place_of m number = position (λ s. s.number == number) m.live

-- the session at this place is then as this turn leaves it
abbrev pub turned_at : PlainManager → ℕ → Turn → Change
turned_at m place turn = record {
  lines = turn.lines;
  after = with_live m (take place m.live ++ (if_live turn.after ++ drop (place + 1) m.live));
  over = if_over turn.after;
}

-- what comes to the live session with this number; where there is none, this line is told
abbrev pub comes_at : PlainManager → Event → ReportLine → ℕ → Option PlainLive → Change
comes_at m event otherwise place None = only m otherwise
comes_at m event otherwise place (Some s) = turned_at m place (turn_at m.moment event s)

abbrev pub comes : PlainManager → Event → ReportLine → ℕ → Change
comes m event otherwise number =
    elim (place_of m number) [ None ↦ only m otherwise | Some place ↦ comes_at m event otherwise place (slice_get m.live place) ]

-- time passes for each live session, in the order of opening
abbrev pub passed_lines : ℕ → List PlainLive → List ReportLine
passed_lines now [] = []
passed_lines now (s ∷ live) = (turn_at now Passes s).lines ++ passed_lines now live

abbrev pub passed_live : ℕ → List PlainLive → List PlainLive
passed_live now [] = []
passed_live now (s ∷ live) = if_live (turn_at now Passes s).after ++ passed_live now live

abbrev pub passed_over : ℕ → List PlainLive → List PlainLive
passed_over now [] = []
passed_over now (s ∷ live) = if_over (turn_at now Passes s).after ++ passed_over now live

abbrev pub passed : PlainManager → ℕ → Change
passed m now = record {
  lines = passed_lines now m.live;
  after = record m { moment = now; live = passed_live now m.live };
  over = passed_over now m.live;
}

-- Creations.

-- the body is refused with this condition, and no session is touched
abbrev pub refused : PlainManager → ℕ → Condition → Change
refused m conn condition = only m (Out conn (answer_text (terminal (Some condition))))

-- the opening of a session
abbrev pub opening_by : HostName → ℕ → List ℕ → Request → Creation → ℕ → Opening
opening_by host number body request creation now = record {
  request = request;
  body = body;
  terms = terms_of creation;
  sid = sid_of number;
  host = host.name;
  greeting = host.greeting;
  at = now;
  limit = journal_bytes;
  gap_waits = 1;
}

abbrev pub opened_live : ℕ → Opening → PlainLive
opened_live number o = record { number = number; journal = record { opening = o; entries = [] }; parked = [] }

-- its stanzas go inward, and then it is answered
abbrev pub opened_turn : ℕ → ℕ → Opening → Turn
opened_turn number conn o = told (opened_live number o) (Out conn (answer_text (created_parts o)) ∷ [])

abbrev pub with_opened : PlainManager → ℕ → Turn → Change
with_opened m number turn = record {
  lines = turn.lines;
  after = record m { opened = number; live = m.live ++ if_live turn.after };
  over = if_over turn.after;
}

-- there is room for one more: at most 256 sessions are live, and at most 1,048,576 are opened
abbrev pub has_room : ℕ → ℕ → Bool
has_room live opened = nat_lt live most_sessions && nat_lt opened most_openings

abbrev pub at_host : PlainManager → ℕ → List ℕ → Request → Creation → Option HostName → Change
at_host m conn body request creation None = refused m conn HostUnknown
at_host m conn body request creation (Some host) =
    if has_room (length m.live) m.opened then with_opened m (m.opened + 1) (opened_turn (m.opened + 1) conn (opening_by host (m.opened + 1) body request creation m.moment))
    else refused m conn UndefinedCondition

abbrev pub admitted_to : PlainManager → ℕ → List ℕ → Request → Creation → Admitted → Change
admitted_to m conn body request creation admitted.Improper = refused m conn ImproperAddressing
admitted_to m conn body request creation admitted.Unknown = refused m conn HostUnknown
admitted_to m conn body request creation (admitted.Host place) = at_host m conn body request creation (slice_get m.hosts place)

-- Bodies.

abbrev pub unrefused : Result Request AttrRefusal → Option Request
unrefused (Ok request) = Some request
unrefused (Err refusal) = None

abbrev pub request_from : List ℕ → Option Cut → Option Request
request_from body None = None
request_from body (Some cut) = unrefused (request_of (values_of body cut.attrs) cut.children)

-- the request that a body is, where it can be cut and read
abbrev pub request_in : List ℕ → Option Request
request_in body = request_from body (parts_of body)

abbrev pub comes_to : PlainManager → ℕ → List ℕ → Request → Option ℕ → Change
comes_to m conn body request None = only m (not_found conn)
comes_to m conn body request (Some number) = comes m (Arrives conn request body) (not_found conn) number

abbrev pub posted_by : PlainManager → ℕ → List ℕ → Request → Kind → Change
posted_by m conn body request (kinds.Later sid) = comes_to m conn body request (number_of sid)
posted_by m conn body request (kinds.Creation creation) = admitted_to m conn body request creation (admitted_of request.to m.hosts)

abbrev pub posted_as : PlainManager → ℕ → List ℕ → Option Request → Change
posted_as m conn body None = refused m conn BadRequest
posted_as m conn body (Some request) = posted_by m conn body request request.kind

-- a body arrives on a connection
abbrev pub posted : PlainManager → ℕ → List ℕ → Change
posted m conn body = posted_as m conn body (request_in body)
