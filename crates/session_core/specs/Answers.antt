-- When the oldest held request is answered, and what its answer takes, XEP-0124 sections 7.1, 9, 10, 11, 12 and 16.
use Rattle.std.specs.Prelude.{ℕ, zero, suc, ◌+◌, ◌-◌, ◌==◌, ◌&&◌, Bool, false, not, nat_lt, nat_le, min, List, [], ◌∷◌, ◌++◌, length, take, Option, Some, None, is_some, if◌then◌else◌}
use Rattle.std.specs.List.{list_any}
use Rattle.std.specs.Option.{option_map, option_or}
use Rattle.bosh_types.specs.Limits.{most_waiting, longest_stanza}
use Rattle.bosh_types.specs.declared.ending.Closing.{Closing}
use Rattle.bosh_types.specs.declared.ending.Ending.TheVariants.{Closed}
use Rattle.body_writer.specs.declared.answer.AnswerKind.TheVariants.{Usual, Terminate}
use Rattle.body_writer.specs.declared.answer.AnswerParts.{AnswerParts}
use Rattle.body_writer.specs.Answer.{answer_text}
use Rattle.pause_rules.specs.Due.{is_wait_due}
use Rattle.stream_names.specs.Streams.{without}
use Rattle.session_core.specs.declared.outward.Outward.{Outward}
use Rattle.session_core.specs.declared.outward.Outward.TheVariants.{Stanza, Close}
use Rattle.session_core.specs.Copy.{id_of, is_prompt}
use Rattle.session_core.specs.Endings.{terminal, closing_condition, ended}
use Rattle.session_core.specs.Outward.{Front, OfStanzas, OfClosing, first_stream, is_close, lie_on_one, size_of_all, stanzas_in}
use Rattle.session_core.specs.Processed.{Processed}
use Rattle.session_core.specs.State.{PlainSession, last_of, held, opened_in, running, waiting, is_over}

pub data Reason : Type 0 where
  Items : Reason
  Hold : Reason
  Wait : Reason
  Prompt : Reason
  Report : Reason
  Polling : Reason

-- an item waits, and the request is neither a pause nor an add; more requests are held than agreed; it or a later held one has
-- waited its time, or is a pause or an add; a report is due; the session polls
abbrev pub gives_reason : PlainSession → Processed → Reason → Bool
gives_reason s oldest Items = not (length (waiting s) == 0) && not (is_prompt oldest.copy)
gives_reason s oldest Hold = nat_lt s.terms.hold (length (held s))
gives_reason s oldest Wait = list_any (λ one. is_wait_due s.terms one.copy.arrived s.now) (held s)
gives_reason s oldest Prompt = list_any (λ one. is_prompt one.copy) (held s)
gives_reason s oldest Report = is_some s.reporting.due
gives_reason s oldest Polling = s.terms.polled

abbrev pub reasons : List Reason
reasons = Items ∷ Hold ∷ Wait ∷ Prompt ∷ Report ∷ Polling ∷ []

-- a held request has a reason to be answered
abbrev pub has_reason_for : PlainSession → List Processed → Bool
has_reason_for s [] = false
has_reason_for s (oldest ∷ later) = not (is_over s) && list_any (gives_reason s oldest) reasons

abbrev pub has_reason : PlainSession → Bool
has_reason s = has_reason_for s (held s)

-- one answer may take these: no closing, items of one stream alone, and at most 1,000,000 bytes
abbrev pub fit_one_answer : List Outward → Bool
fit_one_answer items = (not (list_any is_close items) && lie_on_one items) && nat_le (size_of_all items) longest_stanza

-- the longest front of at most so many items that fits
abbrev pub longest_front : ℕ → List Outward → List Outward
longest_front zero items = []
longest_front (suc count) items = if fit_one_answer (take (suc count) items) then take (suc count) items else longest_front count items

-- what an answer takes of the waiting items: one closing where that comes first, else at most 1024 stanzas
abbrev pub front_of : List Outward → Front
front_of [] = OfStanzas []
front_of (Close stream closing ∷ items) = OfClosing stream closing
front_of (Stanza stream bytes ∷ items) = OfStanzas (longest_front (min most_waiting (length items + 1)) (Stanza stream bytes ∷ items))

-- a pause and an add take nothing
abbrev pub front_for : PlainSession → Processed → Front
front_for s one = if is_prompt one.copy then OfStanzas [] else front_of (waiting s)

-- the highest id processed, where that isn't the request's own, XEP-0124 section 9.1
abbrev pub ack_for : PlainSession → ℕ → Option ℕ
ack_for s rid = if rid == last_of s then None else Some (last_of s)

-- the due report, with the time since that answer was given, XEP-0124 section 9.2
abbrev pub report_for : PlainSession → Option (ℕ × ℕ)
report_for s = option_map (λ due. (due.0, s.now - due.1)) s.reporting.due

-- the stream that an answer names: the one that its add opened; or that of the items, where more than one was ever opened
abbrev pub stream_for : PlainSession → Processed → List Outward → Option ℕ
stream_for s one items = option_or one.opened (if nat_lt 1 (opened_in s.processed) then first_stream items else None)

-- an answer that takes stanzas, or nothing
abbrev pub stanza_parts : PlainSession → Processed → List Outward → AnswerParts
stanza_parts s one items = record {
  created = None;
  kind = Usual;
  condition = None;
  stream = stream_for s one items;
  ack = ack_for s (id_of one.copy);
  report = report_for s;
  payloads = stanzas_in items;
}

-- an answer that takes the closing of a stream beside which others are open
abbrev pub closing_parts : PlainSession → Processed → ℕ → Closing → AnswerParts
closing_parts s one stream closing = record {
  created = None;
  kind = Terminate;
  condition = closing_condition closing;
  stream = Some stream;
  ack = ack_for s (id_of one.copy);
  report = report_for s;
  payloads = [];
}

-- no stream but this one is open
abbrev pub is_last : PlainSession → ℕ → Bool
is_last s stream = length (without (running s) stream) == 0

-- the answer that takes this: the closing of the last stream is told as the end of the session
abbrev pub answer_parts : PlainSession → Processed → Front → AnswerParts
answer_parts s one (OfStanzas items) = stanza_parts s one items
answer_parts s one (OfClosing stream closing) =
    if is_last s stream then terminal (closing_condition closing) else closing_parts s one stream closing

-- once a closing was taken and no stream is open, the session has ended
abbrev pub closed_by : ℕ → Front → PlainSession → PlainSession
closed_by rid (OfStanzas items) s = s
closed_by rid (OfClosing stream closing) s = if length (running s) == 0 then ended (Closed closing rid) s else s

-- a held request is answered, and the report that was due was given with it
abbrev pub with_answer : PlainSession → Processed → Front → PlainSession
with_answer s one front = record s {
  answered = s.answered ++ record { rid = id_of one.copy; bytes = answer_text (answer_parts s one front); moment = s.now; front = front } ∷ [];
  reporting = record s.reporting { due = None };
}

abbrev pub answer_to : PlainSession → Processed → PlainSession
answer_to s one = closed_by (id_of one.copy) (front_for s one) (with_answer s one (front_for s one))

abbrev pub answer_oldest : PlainSession → List Processed → PlainSession
answer_oldest s [] = s
answer_oldest s (oldest ∷ later) = answer_to s oldest

-- the oldest held request is answered while it has a reason, and no other; at most so many are
abbrev pub settled_in : ℕ → PlainSession → PlainSession
settled_in zero s = s
settled_in (suc count) s = if has_reason s then settled_in count (answer_oldest s (held s)) else s

abbrev pub settled : PlainSession → PlainSession
settled s = settled_in (length (held s)) s
