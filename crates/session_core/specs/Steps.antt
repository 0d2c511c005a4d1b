-- What single steps of a session's code do.
use Rattle.std.specs.Prelude.{◌≡◌, ℕ, ◌≤◌, ◌-◌, ◌==◌, ◌&&◌, ◌||◌, Bool, true, false, not, nat_lt, length, slice_get, Option, Some, None, is_some, IfSome, List, [], unwrap_or, if◌then◌else◌}
use Rattle.std.specs.List.{list_any}
use Rattle.std.specs.Option.{option_map, option_or}
use Rattle.bosh_types.specs.declared.ending.Closing.{Closing}
use Rattle.body_writer.specs.declared.answer.AnswerKind.TheVariants.{Usual, Terminate}
use Rattle.body_writer.specs.declared.answer.AnswerParts.{AnswerParts}
use Rattle.body_writer.specs.Answer.{answer_text}
use Rattle.pause_rules.specs.Due.{is_wait_due}
use Rattle.pause_rules.specs.Pace.{Pace}
use Rattle.bosh_types.specs.declared.terms.Terms.{Terms}
use Rattle.stream_names.specs.PlainStreams.{PlainStreams, with_closed}
use Rattle.session_core.specs.declared.copy.RequestCopy.{RequestCopy}
use Rattle.session_core.specs.declared.held.HeldRequest.{HeldRequest}
use Rattle.session_core.specs.declared.outward.Outward.{Outward}
use Rattle.session_core.specs.declared.session.Session.{Session}
use Rattle.session_core.specs.declared.written.Written.{Written}
use Rattle.session_core.specs.Answers.{front_of, front_for, with_answer}
use Rattle.session_core.specs.Copy.{id_of, is_pause}
use Rattle.session_core.specs.Endings.{terminal, closing_condition}
use Rattle.session_core.specs.Machine.{next_copy, process}
use Rattle.session_core.specs.Outward.{Front, OfStanzas, OfClosing, first_stream, items_in, stanzas_in}
use Rattle.session_core.specs.Processed.{Processed}
use Rattle.session_core.specs.StandsFor.{StandsFor}
use Rattle.session_core.specs.State.{PlainSession, running}

-- the next copy was processed, or there was none
abbrev pub ProcessesNext : Bool → Session → PlainSession → Type 0
ProcessesNext true s plain = (copy : RequestCopy) × (next_copy plain ≡ Some copy) × StandsFor s (process plain copy)
ProcessesNext false s plain = (next_copy plain ≡ None) × StandsFor s plain

-- the seconds of silence that are allowed after a copy whose pause is short enough
abbrev pub period_of : Pace → RequestCopy → ℕ
period_of pace copy = if is_pause copy then unwrap_or copy.request.pause pace.terms.inactivity else pace.terms.inactivity

-- it is no pause, or one that the session allows
abbrev pub IsShort : Pace → RequestCopy → Type 0
IsShort pace copy = is_pause copy ≡ true → IfSome copy.request.pause (λ seconds. seconds ≤ pace.terms.maxpause)

-- what a call did: it replied as the plain machine, and the session stands for the state after it
pub record Does {X : Type 0} (s : Session) (reply : X) (step : PlainSession × X) : Type 0 where
  pub replies : reply ≡ step.1
  pub after : StandsFor s step.0

-- a reason holds that isn't an item that waits
abbrev pub is_pressed : Terms → List HeldRequest → ℕ → Option (ℕ × ℕ) → Bool
is_pressed terms held now due =
    if nat_lt terms.hold (length held) then true
    else if list_any (λ request. is_wait_due terms request.arrived now) held then true
    else if list_any (λ request. request.prompt) held then true
    else is_some due || terms.polled

-- the oldest of the held requests has a reason to be answered
abbrev pub wants_for : Terms → List Outward → List HeldRequest → ℕ → Option (ℕ × ℕ) → Option HeldRequest → Bool
wants_for terms items held now due None = false
wants_for terms items held now due (Some oldest) =
    if not (length items == 0) && not oldest.prompt then true else is_pressed terms held now due

abbrev pub wants : Terms → Bool → List Outward → List HeldRequest → ℕ → Option (ℕ × ℕ) → Bool
wants terms over items held now due = if over then false else wants_for terms items held now due (slice_get held 0)

-- it is so of a session
abbrev pub wants_answer : Session → Bool
wants_answer s = wants s.deadlines.terms (is_some s.ending) s.outbox.items s.held s.moment s.acks.due

-- what an answer takes of the items that wait: a pause and an add take nothing
abbrev pub front_by : Bool → List Outward → Front
front_by prompt items = if prompt then OfStanzas [] else front_of items

-- what an answer is made of besides what it takes: the streams once it took that, the highest id processed, the due report and
-- the moment
pub record Telling : Type 0 where
  pub streams : PlainStreams
  pub last : ℕ
  pub due : Option (ℕ × ℕ)
  pub now : ℕ

abbrev pub telling_of : Session → Telling
telling_of s = record { streams = s.streams; last = s.last; due = s.acks.due; now = s.moment }

abbrev pub ack_by : Telling → ℕ → Option ℕ
ack_by t rid = if rid == t.last then None else Some t.last

abbrev pub report_by : Telling → Option (ℕ × ℕ)
report_by t = option_map (λ due. (due.0, t.now - due.1)) t.due

-- the stream that it names
abbrev pub stream_by : Telling → HeldRequest → List Outward → Option ℕ
stream_by t request items = option_or request.opened (if nat_lt 1 t.streams.opened then first_stream items else None)

abbrev pub closing_by : Telling → ℕ → ℕ → Closing → AnswerParts
closing_by t rid stream closing = record {
  created = None;
  kind = Terminate;
  condition = closing_condition closing;
  stream = Some stream;
  ack = ack_by t rid;
  report = report_by t;
  payloads = [];
}

-- the answer that takes this
abbrev pub answer_by : Telling → HeldRequest → Front → AnswerParts
answer_by t request (OfClosing stream closing) =
    if length t.streams.running == 0 then terminal (closing_condition closing) else closing_by t request.rid stream closing
answer_by t request (OfStanzas items) = record {
  created = None;
  kind = Usual;
  condition = None;
  stream = stream_by t request items;
  ack = ack_by t request.rid;
  report = report_by t;
  payloads = stanzas_in items;
}

-- a closing that was taken closes its stream
abbrev pub after_front : PlainStreams → Front → PlainStreams
after_front streams (OfStanzas items) = streams
after_front streams (OfClosing stream closing) = with_closed streams stream

-- the closing that a front is, where no stream stays open
abbrev pub ending_closing : List ℕ → Front → Option Closing
ending_closing running (OfStanzas items) = None
ending_closing running (OfClosing stream closing) = if length running == 0 then Some closing else None

-- an answer as it was written, and how many payloads it has
abbrev pub IsWritten : Session → HeldRequest → Front → Written → Type 0
IsWritten s request front written =
    (written.text ≡ answer_text (answer_by (telling_of s) request front)) × (written.payloads ≡ length (stanzas_in (items_in front)))

-- a held request was answered, and this closing, if any, is what ends the session
pub record Answers (s : Session) (closing : Option Closing) (plain : PlainSession) (one : Processed) : Type 0 where
  pub closing_is : closing ≡ ending_closing (running (with_answer plain one (front_for plain one))) (front_for plain one)
  pub after : StandsFor s (with_answer plain one (front_for plain one))
