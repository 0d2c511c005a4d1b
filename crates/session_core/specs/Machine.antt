-- The calls of a session: from the state and the call's arguments to the state after it and the reply.
use Rattle.std.specs.Prelude.{ℕ, zero, suc, ◌+◌, ◌-◌, ◌*◌, ◌==◌, ◌&&◌, Bool, false, not, nat_lt, nat_le, List, [], ◌∷◌, ◌++◌, map, length, slice_get, slice_set, Option, Some, None, unwrap_or, if◌then◌else◌}
use Rattle.std.specs.List.{list_any}
use Rattle.std.specs.Option.{option_map, option_or}
use Rattle.bosh_types.specs.Limits.{most_streams, most_waiting, waiting_bytes}
use Rattle.bosh_types.specs.Rid.{greatest_rid}
use Rattle.bosh_types.specs.declared.condition.Condition.{Condition}
use Rattle.bosh_types.specs.declared.condition.Condition.TheVariants.{ItemNotFound, UndefinedCondition}
use Rattle.bosh_types.specs.declared.ending.Closing.{Closing}
use Rattle.bosh_types.specs.declared.ending.Ending.{Ending}
use Rattle.bosh_types.specs.declared.ending.Ending.TheVariants.{Terminated, Stale, Above, JournalFull}
use Rattle.bosh_types.specs.declared.inward.Inward.{Inward}
use Rattle.bosh_types.specs.declared.kept.KeptAnswer.{KeptAnswer}
use Rattle.body_writer.specs.declared.answer.AnswerKind.TheVariants.{Usual}
use Rattle.body_writer.specs.declared.answer.AnswerParts.{AnswerParts}
use Rattle.body_writer.specs.Answer.{answer_text}
use Rattle.session_attrs.specs.declared.request.Kind.{Kind}
use Rattle.session_attrs.specs.declared.request.Kind.TheVariants as kinds
use Rattle.session_attrs.specs.declared.request.Request.{Request}
use Rattle.ack_report.specs.Report.{after_request, keep_after}
use Rattle.key_sequence.specs.Current.{current_after}
use Rattle.stream_names.specs.Streams.{is_among}
use Rattle.session_core.specs.declared.copy.RequestCopy.{RequestCopy}
use Rattle.session_core.specs.declared.opening.Opening.{Opening}
use Rattle.session_core.specs.declared.outward.Outward.{Outward}
use Rattle.session_core.specs.declared.outward.Outward.TheVariants.{Stanza, Close}
use Rattle.session_core.specs.declared.place.Place.{Place}
use Rattle.session_core.specs.declared.place.Place.TheVariants as places
use Rattle.session_core.specs.declared.replies.Arrived.{Arrived}
use Rattle.session_core.specs.declared.replies.Arrived.TheVariants as arrivals
use Rattle.session_core.specs.declared.replies.Collected.{Collected}
use Rattle.session_core.specs.declared.replies.Collected.TheVariants as collections
use Rattle.session_core.specs.declared.replies.Taken.{Taken}
use Rattle.session_core.specs.declared.replies.Taken.TheVariants as takings
use Rattle.session_core.specs.declared.replies.Ticked.{Ticked}
use Rattle.session_core.specs.declared.replies.Ticked.TheVariants.{Changed, Quiet}
use Rattle.session_core.specs.Answers.{settled}
use Rattle.session_core.specs.Copy.{id_of, is_add, is_pause, unnamed}
use Rattle.session_core.specs.Endings.{terminal, error_text, last_word, ended}
use Rattle.session_core.specs.Kept.{answer_at, keep_of, kept_of, lowest_kept}
use Rattle.session_core.specs.Outward.{OfStanzas, is_close_of, size_of_all}
use Rattle.session_core.specs.Processed.{Processed, ends}
use Rattle.session_core.specs.Rules.{broken_rule, asked_of}
use Rattle.session_core.specs.State.{PlainSession, Answered, Issued, TicketState, Waits, Replaced, Struck, UsedUp, Stands, last_of, answered_of, standing_at, waiting, inward, is_over, opened_in, running}
use Rattle.session_core.specs.Time.{time_applied, is_due}
use Rattle.session_core.specs.Window.{place_of}

-- The limit of a journal.

-- what an arriving body, a stanza, and each other entry that may meet the limit add to the counted bytes
abbrev pub body_cost : Request → List ℕ → ℕ
body_cost request body = 128 + length body + 64 * length request.stanzas

abbrev pub stanza_cost : List ℕ → ℕ
stanza_cost stanza = 64 + length stanza

abbrev pub plain_cost : ℕ
plain_cost = 64

-- the journal has no room for an entry of this cost
abbrev pub is_full : PlainSession → ℕ → Bool
is_full s cost = nat_lt s.limit (s.counted + cost)

-- nothing else is applied then, and the moment stays
abbrev pub full_with : ℕ → PlainSession → PlainSession
full_with cost s = ended (JournalFull s.counted cost) s

abbrev pub with_cost : ℕ → PlainSession → PlainSession
with_cost cost s = record s { counted = s.counted + cost }

-- The opening.

abbrev pub asks_ack : Kind → Bool
asks_ack (kinds.Creation creation) = creation.asks_ack
asks_ack (kinds.Later sid) = false

-- the creation's answer takes the whole greeting, names the first stream, and always carries `ack`
abbrev pub created_parts : Opening → AnswerParts
created_parts o = record {
  created = Some (record { sid = o.sid; terms = o.terms; from = o.host });
  kind = Usual;
  condition = None;
  stream = Some unnamed;
  ack = Some o.request.rid;
  report = None;
  payloads = o.greeting;
}

abbrev pub creation_of : Opening → RequestCopy
creation_of o = record { request = o.request; body = o.body; arrived = o.at }

abbrev pub greeting_of : Opening → List Outward
greeting_of o = map (Stanza unnamed) o.greeting

abbrev pub first_answer : Opening → Answered
first_answer o =
    record { rid = o.request.rid; bytes = answer_text (created_parts o); moment = o.at; front = OfStanzas (greeting_of o) }

abbrev pub opened : Opening → PlainSession
opened o = record {
  creation = creation_of o;
  terms = o.terms;
  placings = [];
  processed = [];
  key = o.request.newkey;
  period = o.terms.inactivity;
  created = first_answer o;
  answered = [];
  acknowledged = 0;
  reporting = record { on = asks_ack o.request.kind; due = None };
  given = greeting_of o;
  tickets = [];
  now = o.at;
  last_arrival = o.at;
  passed = 0;
  counted = body_cost o.request o.body;
  limit = o.limit;
  gap_waits = o.gap_waits;
  ending = None;
}

-- Processing in the order of ids.

-- the silence that is allowed until the next copy is processed: a pause is for its seconds
abbrev pub period_after : PlainSession → RequestCopy → ℕ
period_after s copy = if is_pause copy then unwrap_or copy.request.pause s.terms.inactivity else s.terms.inactivity

-- an add opens the next stream, where fewer than eight were opened, XEP-0124 section 16
abbrev pub opened_by : PlainSession → RequestCopy → Option ℕ
opened_by s copy =
    if is_add copy && nat_lt (opened_in s.processed) most_streams then Some (opened_in s.processed) else None

abbrev pub as_processed : PlainSession → RequestCopy → Processed
as_processed s copy = record { copy = copy; running = running s; opened = opened_by s copy }

-- a copy that breaks no rule is processed
abbrev pub with_copy : PlainSession → RequestCopy → PlainSession
with_copy s copy = record s {
  processed = s.processed ++ as_processed s copy ∷ [];
  key = current_after s.key copy.request.key copy.request.newkey;
  period = period_after s copy;
  acknowledged = (keep_after s.reporting (keep_of s) copy.request.ack).acknowledged;
  reporting = after_request s.reporting (keep_of s) copy.request.ack (answered_of s) s.now;
}

-- a terminate after which no stream is open ends the session, XEP-0124 sections 13 and 16
abbrev pub unless_terminate : PlainSession → Processed → PlainSession
unless_terminate s one = if ends one then ended (Terminated (id_of one.copy)) s else s

-- the copy is processed, or ends the session by the first rule that it breaks
abbrev pub process : PlainSession → RequestCopy → PlainSession
process s copy =
    elim (broken_rule (asked_of s) copy) [ Some ending ↦ ended ending s | None ↦ unless_terminate (with_copy s copy) (as_processed s copy) ]

-- the copy that follows the last one processed
abbrev pub next_copy : PlainSession → Option RequestCopy
next_copy s = if is_over s then None else standing_at s (last_of s + 1)

-- the copies that follow are processed one after the other; so many ids are left
abbrev pub advanced_in : ℕ → PlainSession → PlainSession
advanced_in zero s = s
advanced_in (suc ids) s = elim (next_copy s) [ None ↦ s | Some copy ↦ advanced_in ids (process s copy) ]

abbrev pub advanced : PlainSession → PlainSession
advanced s = advanced_in (greatest_rid - last_of s) s

-- An arriving copy.

-- what becomes of a ticket where a later copy comes: one whose copy was struck still has its error to tell
abbrev pub replaced : TicketState → TicketState
replaced Waits = Replaced
replaced Replaced = Replaced
replaced Struck = Struck
replaced UsedUp = UsedUp

-- older copies of the id wait no longer
abbrev pub replace : ℕ → Issued → Issued
replace rid ticket = if ticket.rid == rid then record ticket { state = replaced ticket.state } else ticket

-- tickets count from 1
abbrev pub wait_at : PlainSession → ℕ → PlainSession × Arrived
wait_at s rid =
    (record s { tickets = s.tickets ++ record { rid = rid; state = Waits } ∷ [] }, arrivals.Parked (suc (length s.tickets)))

-- what the id was given, as an answer or at the ending
abbrev pub bytes_for : PlainSession → ℕ → Option (List ℕ)
bytes_for s rid =
    option_or (option_map (λ answer. answer.bytes) (answer_at s rid)) (option_map (λ ending. last_word (answered_of s) ending rid) s.ending)

-- a copy is answered where its id is answered in this call, and waits otherwise
abbrev pub replied : PlainSession → ℕ → PlainSession × Arrived
replied s rid = elim (bytes_for s rid) [ Some bytes ↦ (s, arrivals.Answer bytes) | None ↦ wait_at s rid ]

-- a copy that finds no place ends the session, and is told this condition
abbrev pub refused : Condition → Ending → PlainSession → PlainSession × Arrived
refused condition ending s = (ended ending s, arrivals.Answer (answer_text (terminal (Some condition))))

-- an answered id gets the same bytes again while they are kept
abbrev pub repeated : PlainSession → ℕ → Option KeptAnswer → PlainSession × Arrived
repeated s rid (Some answer) = (s, arrivals.Answer answer.bytes)
repeated s rid None = refused ItemNotFound (Stale rid (lowest_kept s)) s

-- an open id has its copy already, and this one only takes the place of the request that waits
abbrev pub reopened : PlainSession → ℕ → PlainSession × Arrived
reopened s rid = wait_at (record s { tickets = map (replace rid) s.tickets; last_arrival = s.now }) rid

-- the copy stands for its id from now on
abbrev pub placed : PlainSession → RequestCopy → PlainSession
placed s copy = record s { placings = s.placings ++ Stands copy ∷ []; last_arrival = s.now }

abbrev pub arrived_at : PlainSession → RequestCopy → Place → PlainSession × Arrived
arrived_at s copy places.Answered = repeated s (id_of copy) (kept_of s (id_of copy))
arrived_at s copy places.Open = reopened s (id_of copy)
arrived_at s copy places.Above = refused ItemNotFound (Above (id_of copy) (last_of s) s.terms.requests) s
arrived_at s copy places.New = replied (settled (advanced (placed s copy))) (id_of copy)

-- the copy that arrives now
abbrev pub copy_now : PlainSession → Request → List ℕ → RequestCopy
copy_now s request body = record { request = request; body = body; arrived = s.now }

-- once time was applied; where that ended the session, the copy is told so
abbrev pub arrived_in_time : PlainSession → Request → List ℕ → PlainSession × Arrived
arrived_in_time s request body =
    if is_over s then (s, arrivals.Answer (answer_text (terminal (Some ItemNotFound))))
    else arrived_at s (copy_now s request body) (place_of s (copy_now s request body))

abbrev pub arrive : PlainSession → Request → List ℕ → ℕ → PlainSession × Arrived
arrive s request body now =
    if is_over s then (s, arrivals.Over)
    else if is_full s (body_cost request body) then refused UndefinedCondition (JournalFull s.counted (body_cost request body)) s
    else arrived_in_time (with_cost (body_cost request body) (time_applied s now)) request body

-- Collecting.

abbrev pub use_up : PlainSession → ℕ → Issued → PlainSession
use_up s index ticket = record s { tickets = slice_set s.tickets index (record ticket { state = UsedUp }) }

abbrev pub collected_bytes : PlainSession → ℕ → Issued → Option (List ℕ) → PlainSession × Collected
collected_bytes s index ticket None = (s, collections.NotYet)
collected_bytes s index ticket (Some bytes) = (use_up s index ticket, collections.Answer bytes)

-- a copy whose place was taken is told so, even where its id was answered since; so is one that was struck
abbrev pub collected_by : PlainSession → ℕ → Issued → TicketState → PlainSession × Collected
collected_by s index ticket Waits = collected_bytes s index ticket (bytes_for s ticket.rid)
collected_by s index ticket Replaced = (use_up s index ticket, collections.Superseded)
collected_by s index ticket Struck = (use_up s index ticket, collections.Answer error_text)
collected_by s index ticket UsedUp = (s, collections.UnknownTicket)

abbrev pub collected_from : PlainSession → ℕ → Option Issued → PlainSession × Collected
collected_from s index None = (s, collections.UnknownTicket)
collected_from s index (Some ticket) = collected_by s index ticket ticket.state

-- ticket 1 is the first that was handed out, and none is ticket 0
abbrev pub collect : PlainSession → ℕ → PlainSession × Collected
collect s zero = (s, collections.UnknownTicket)
collect s (suc index) = collected_from s index (slice_get s.tickets index)

-- The server's side.

-- the stream is open, and the server didn't close it
abbrev pub takes_items : PlainSession → ℕ → Bool
takes_items s stream = (not (is_over s) && is_among (running s) stream) && not (list_any (is_close_of stream) s.given)

-- 1024 items or 4,194,304 bytes may wait
abbrev pub has_room : PlainSession → List ℕ → Bool
has_room s stanza =
    nat_lt (length (waiting s)) most_waiting && nat_le (size_of_all (waiting s) + length stanza) waiting_bytes

abbrev pub with_item : PlainSession → Outward → PlainSession × Taken
with_item s item = (settled (record s { given = s.given ++ item ∷ [] }), takings.Done)

abbrev pub back_in_time : PlainSession → ℕ → List ℕ → PlainSession × Taken
back_in_time s stream stanza =
    if not (takes_items s stream) then (s, takings.Over)
    else if has_room s stanza then with_item s (Stanza stream stanza)
    else (s, takings.Full)

-- a stanza of the server
abbrev pub back : PlainSession → ℕ → List ℕ → ℕ → PlainSession × Taken
back s stream stanza now =
    if is_over s then (s, takings.Over)
    else if is_full s (stanza_cost stanza) then (full_with (stanza_cost stanza) s, takings.Over)
    else back_in_time (with_cost (stanza_cost stanza) (time_applied s now)) stream stanza

abbrev pub closed_in_time : PlainSession → ℕ → Closing → PlainSession × Taken
closed_in_time s stream closing =
    if takes_items s stream then with_item s (Close stream closing) else (s, takings.Over)

-- the server closes a stream
abbrev pub back_closed : PlainSession → ℕ → Closing → ℕ → PlainSession × Taken
back_closed s stream closing now =
    if is_over s then (s, takings.Over)
    else if is_full s plain_cost then (full_with plain_cost s, takings.Over)
    else closed_in_time (with_cost plain_cost (time_applied s now)) stream closing

-- time passes; a moment at which nothing is due changes nothing
abbrev pub tick : PlainSession → ℕ → PlainSession × Ticked
tick s now =
    if not (is_due s now) then (s, Quiet)
    else if is_full s plain_cost then (full_with plain_cost s, Changed)
    else (with_cost plain_cost (time_applied s now), Changed)

abbrev pub passed_on : PlainSession → Option Inward → PlainSession × Option Inward
passed_on s None = (s, None)
passed_on s (Some item) = (record s { passed = s.passed + 1 }, Some item)

-- the next inward item
abbrev pub take_inward : PlainSession → PlainSession × Option Inward
take_inward s = passed_on s (slice_get (inward s) s.passed)
