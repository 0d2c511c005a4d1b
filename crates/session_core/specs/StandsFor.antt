-- Which plain sessions a session stands for.
use Rattle.std.specs.Prelude.{◌≡◌, ℕ, ◌+◌, ◌<◌, ◌≤◌, ◌==◌, ◌&&◌, Bool, false, All, IfSome, List, [], ◌∷◌, length, map, drop, Option}
use Rattle.std.specs.List.{list_any}
use Rattle.bosh_types.specs.Rid.{greatest_rid}
use Rattle.bosh_types.specs.declared.ending.Ending.{Ending}
use Rattle.bosh_types.specs.declared.inward.Inward.{Inward}
use Rattle.ack_report.specs.Reporting.{Reporting}
use Rattle.pause_rules.specs.declared.mark.Mark.{Mark}
use Rattle.pause_rules.specs.Pace.{Pace}
use Rattle.reply_keep.specs.declared.keep.Keep.{Keep}
use Rattle.reply_keep.specs.StandsFor as keeps
use Rattle.rid_window.specs.declared.window.Window.{Window}
use Rattle.rid_window.specs.PlainWindow.{id_after}
use Rattle.rid_window.specs.StandsFor as windows
use Rattle.session_core.specs.declared.held.HeldRequest.{HeldRequest}
use Rattle.session_core.specs.declared.copy.RequestCopy.{RequestCopy}
use Rattle.session_core.specs.declared.outward.Outward.{Outward}
use Rattle.session_core.specs.declared.session.Session.{Session}
use Rattle.stream_names.specs.PlainStreams.{PlainStreams}
use Rattle.stream_names.specs.Streams.{those}
use Rattle.session_core.specs.Copy.{id_of, with_id, is_poll, is_prompt}
use Rattle.session_core.specs.Kept.{kept_answer}
use Rattle.session_core.specs.Machine.{bytes_for}
use Rattle.session_core.specs.Outward.{is_close_of, takes_closing}
use Rattle.session_core.specs.Processed.{Processed, as_creation, closes, copies_of, items_of_all}
use Rattle.session_core.specs.Queue.{Queue}
use Rattle.session_core.specs.Rules.{Asks, is_bare}
use Rattle.session_core.specs.State.{PlainSession, Answered, last_error, last_from, opened_in, running_in, standing, taken_by_answers}
use Rattle.session_core.specs.TicketsOut.{AreOut}

-- what a session keeps just as the plain one does
pub record Alike : Type 0 where
  pub pace : Pace
  pub key : Option (List ℕ)
  pub reporting : Reporting
  pub now : ℕ
  pub last_arrival : ℕ
  pub last_error : ℕ
  pub counted : ℕ
  pub limit : ℕ
  pub gap_waits : ℕ
  pub ending : Option Ending

abbrev pub alike_of : Session → Alike
alike_of s = record {
  pace = s.deadlines;
  key = s.keys;
  reporting = s.acks;
  now = s.moment;
  last_arrival = s.last_arrival;
  last_error = s.last_error;
  counted = s.counted;
  limit = s.limit;
  gap_waits = s.gap_waits;
  ending = s.ending;
}

abbrev pub alike_in : PlainSession → Alike
alike_in s = record {
  pace = record { terms = s.terms; period = s.period };
  key = s.key;
  reporting = s.reporting;
  now = s.now;
  last_arrival = s.last_arrival;
  last_error = last_error s;
  counted = s.counted;
  limit = s.limit;
  gap_waits = s.gap_waits;
  ending = s.ending;
}

-- what the rules ask of a session
abbrev pub asks_of : Session → Asks
asks_of s = record {
  key = s.keys;
  terms = s.deadlines.terms;
  running = s.streams.running;
  held = length s.held;
  prior = record s.latest { bare = (length s.held == 0) && s.last_bare };
}

abbrev pub held_of : Processed → HeldRequest
held_of one = record { rid = id_of one.copy; arrived = one.copy.arrived; prompt = is_prompt one.copy; opened = one.opened }

-- these are for the ids from this one on
abbrev pub AreFrom : {X : Type 0} → (X → ℕ) → ℕ → List X → Type 0
AreFrom id rid [] = Unit {0}
AreFrom id rid (x ∷ xs) = (id x ≡ rid) × AreFrom id (rid + 1) xs

-- the highest ids, and what is held of the copies between them
pub record HoldsRun (last answered : ℕ) (held : List HeldRequest) (creation : RequestCopy) (processed : List Processed) (answers : List Answered) : Type 0 where
  pub last_is : last ≡ id_of creation + length processed
  pub answered_is : answered ≡ id_of creation + length answers
  pub within : length answers ≤ length processed
  pub held_is : held ≡ map held_of (drop (length answers) processed)
  pub ids : AreFrom (λ one. id_of one.copy) (id_of creation + 1) processed

-- what was not passed on of all that may go inward
pub record HoldsInward (queue : List Inward) (passed : ℕ) (run : List Processed) : Type 0 where
  pub queue_is : queue ≡ drop passed (items_of_all run)
  pub within : passed ≤ length (items_of_all run)

-- what is known of the last copy and of the last answer
pub record HoldsLast (latest : Mark) (last_given : ℕ) (last_bare : Bool) (creation : RequestCopy) (processed : List Processed) (created : Answered) (answers : List Answered) : Type 0 where
  pub latest_is : latest ≡ record {
    arrived = (last_from creation (copies_of processed)).arrived;
    empty = is_poll (last_from creation (copies_of processed));
    creation = length processed == 0;
    bare = false;
  }
  pub given_is : last_given ≡ (last_from created answers).moment
  pub bare_is : last_bare ≡ is_bare (last_from created answers)

-- what waits of all that the server gave, and which streams it closed
pub record HoldsItems (outbox : Queue) (given : List Outward) (answers : List Answered) : Type 0 where
  pub outbox_is : outbox.items ≡ drop (taken_by_answers answers) given
  pub within : taken_by_answers answers ≤ length given
  pub closed_is : outbox.closed ≡ those (λ stream. list_any (is_close_of stream) given)

-- how many streams were opened and which are open; of one that wasn't opened nothing is a closing
pub record HoldsStreams (streams : PlainStreams) (processed : List Processed) (answers : List Answered) (given : List Outward) : Type 0 where
  pub opened_is : streams.opened ≡ opened_in processed
  pub running_is : streams.running ≡ running_in processed answers
  pub later : (stream : ℕ) → opened_in processed ≤ stream →
      (list_any (closes stream) processed ≡ false) × (list_any (λ answer. takes_closing stream answer.front) answers ≡ false)
      × (list_any (is_close_of stream) given ≡ false)

-- the kept answers of all that were given, which are for consecutive ids
pub record HoldsKept (keep : Keep) (first requests acknowledged : ℕ) (created : Answered) (answers : List Answered) : Type 0 where
  pub keeps : keeps.StandsFor keep (record { put = map kept_answer (created ∷ answers); acknowledged = acknowledged; size = requests + 1 })
  pub ids : AreFrom (λ answer. answer.rid) first (created ∷ answers)
  -- an acknowledgement is lower than the id of its request
  pub acked : acknowledged < greatest_rid

-- a request after the creation acknowledges a lower id, XEP-0124 section 9
pub record IsLater (first : ℕ) (copy : RequestCopy) : Type 0 where
  pub after : first < id_of copy
  pub within : id_of copy ≤ greatest_rid
  pub ack : IfSome copy.request.ack (λ ack. ack < id_of copy)

-- the copies that were not processed yet; each id after the creation's that has a copy is one of those that there are
pub record HoldsWindow (window : Window RequestCopy) (requests last : ℕ) (creation : RequestCopy) (standing : List RequestCopy) : Type 0 where
  pub stands : windows.StandsFor window (record { placed = map with_id (creation ∷ standing); next = id_after last; width = requests })
  pub ids : All (IsLater (id_of creation)) standing

pub record Holds (s : Session) (plain : PlainSession) : Type 0 where
  pub alike : alike_of s ≡ alike_in plain
  pub run : HoldsRun s.last s.answered s.held plain.creation plain.processed plain.answered
  pub latest : HoldsLast s.latest s.last_given s.last_bare plain.creation plain.processed plain.created plain.answered
  pub kept : HoldsKept s.keep (id_of plain.creation) plain.terms.requests plain.acknowledged plain.created plain.answered
  pub inward : HoldsInward s.inward plain.passed (as_creation plain.creation ∷ plain.processed)
  pub items : HoldsItems s.outbox plain.given (plain.created ∷ plain.answered)
  pub streams : HoldsStreams s.streams plain.processed plain.answered plain.given
  pub tickets : AreOut s.tickets plain.tickets (bytes_for plain)
  pub window : HoldsWindow s.window plain.terms.requests s.last plain.creation (standing plain)

-- a session stands for each plain session of which it keeps what its next calls need
unfoldable pub StandsFor : Session → PlainSession → Type 0
StandsFor s plain = Holds s plain
