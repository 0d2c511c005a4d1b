-- The lines of a trail that the directory tells, and the sessions that lines opened.
use Rattle.std.specs.Prelude.{◌≡◌, ◌⊎◌, ℕ, Bool, true, false, List, [], ◌∷◌, Option, Some, None, if◌then◌else◌}
use Rattle.std.specs.Arc.{arc_value}
use Rattle.bosh_types.specs.declared.condition.Condition.{Condition}
use Rattle.bosh_types.specs.declared.condition.Condition.TheVariants.{BadRequest, HostUnknown, ImproperAddressing, ItemNotFound, OtherRequest, PolicyViolation, RemoteConnectionFailed, RemoteStreamError, SystemShutdown, UndefinedCondition}
use Rattle.parked_gate.specs.Passes.{GateId, gate_of, known}
use Rattle.session_table.specs.declared.entry.Entry.{Entry}
use Rattle.serve_loop.specs.declared.trail.Evidence.{Evidence}
use Rattle.serve_loop.specs.declared.trail.Evidence.TheVariants as evidence
use Rattle.serve_loop.specs.declared.trail.Traced.{Traced}
use Rattle.serve_loop.specs.declared.trail.TrailLine.{TrailLine}
use Rattle.serve_loop.specs.declared.trail.TrailLine.TheVariants as lines

-- it is one of these
abbrev pub Has : {A : Type 0} → List A → A → Type 0
Has [] x = ⊥
Has (y ∷ ys) x = (y ≡ x) ⊎ Has ys x

abbrev pub is_undefined : Condition → Bool
is_undefined BadRequest = false
is_undefined HostUnknown = false
is_undefined ImproperAddressing = false
is_undefined ItemNotFound = false
is_undefined OtherRequest = false
is_undefined PolicyViolation = false
is_undefined RemoteConnectionFailed = false
is_undefined RemoteStreamError = false
is_undefined SystemShutdown = false
is_undefined UndefinedCondition = true

-- a session tells the line: it was seen to have ended
abbrev pub is_session : Evidence → Bool
is_session evidence.Request = false
is_session (evidence.Session session) = true
is_session (evidence.Directory pass) = false

-- the line says that there is no room for a session, or no live session of a name, other than by a session that was seen to have ended
abbrev pub is_of_directory : TrailLine → Evidence → Bool
is_of_directory (lines.Http refusal) by = false
is_of_directory (lines.Entry sid caller place) by = false
is_of_directory (lines.Opened sid) by = false
is_of_directory (lines.Unknown sid) by = if is_session by then false else true
is_of_directory (lines.NoSession condition) by = is_undefined condition

-- what was seen of the directory that tells it
abbrev pub told_by : Evidence → Option (List Entry)
told_by evidence.Request = None
told_by (evidence.Session session) = None
told_by (evidence.Directory pass) = Some (known pass.value).seen

-- what was seen of the directory that tells a line of these
abbrev pub seen_for : Traced → Option (List Entry)
seen_for t = if is_of_directory t.line t.evidence then told_by t.evidence else None

-- a session of this name, with its gate
abbrev pub session_by : List ℕ → Evidence → Option (List ℕ × GateId)
session_by sid evidence.Request = None
session_by sid (evidence.Session session) = Some (sid, gate_of (arc_value session.value.gate))
session_by sid (evidence.Directory pass) = None

abbrev pub opened_by : TrailLine → Evidence → Option (List ℕ × GateId)
opened_by (lines.Http refusal) by = None
opened_by (lines.Entry sid caller place) by = None
opened_by (lines.Opened sid) by = session_by sid by
opened_by (lines.Unknown sid) by = None
opened_by (lines.NoSession condition) by = None

-- the session that a line says was opened
abbrev pub opened_in : Traced → Option (List ℕ × GateId)
opened_in t = opened_by t.line t.evidence
