-- The plain state of a session: full lists, from which nothing is ever taken.
use Rattle.std.specs.Prelude.{ℕ, ◌+◌, ◌&&◌, Bool, nat_lt, List, [], ◌∷◌, ◌++◌, ◌==◌, not, map, length, drop, sum_by, Option, filter, is_some, if◌then◌else◌}
use Rattle.std.specs.List.{list_any}
use Rattle.bosh_types.specs.ById.{at_id}
use Rattle.bosh_types.specs.declared.ending.Ending.{Ending}
use Rattle.bosh_types.specs.declared.inward.Inward.{Inward}
use Rattle.bosh_types.specs.declared.terms.Terms.{Terms}
use Rattle.ack_report.specs.Reporting.{Reporting}
use Rattle.stream_names.specs.Streams.{is_among, those}
use Rattle.session_core.specs.declared.copy.RequestCopy.{RequestCopy}
use Rattle.session_core.specs.declared.outward.Outward.{Outward}
use Rattle.session_core.specs.declared.replies.Waiting.{Waiting}
use Rattle.session_core.specs.Copy.{id_of, with_id}
use Rattle.session_core.specs.Outward.{Front, items_in, size_of_all, takes_closing}
use Rattle.session_core.specs.Processed.{Processed, as_creation, closes, copies_of, items_of_all}

-- an answer that was given: its id and bytes, when it was given, and what it took of the server's items
pub record Answered : Type 0 where
  pub rid : ℕ
  pub bytes : List ℕ
  pub moment : ℕ
  pub front : Front

-- its request waits for the answer; a later copy took its place; the copy that it waited for was struck; it was used up
pub data TicketState : Type 0 where
  Waits : TicketState
  Replaced : TicketState
  Struck : TicketState
  UsedUp : TicketState

-- a ticket that was handed out, with the id of its request
pub record Issued : Type 0 where
  pub rid : ℕ
  pub state : TicketState

-- what came to the places of the window: a copy that stands for its id from then on; or the copy that stood for this id was struck, at
-- this moment, and the id counts as not received again
pub data Placing : Type 0 where
  Stands : RequestCopy → Placing
  Strikes : ℕ → ℕ → Placing

pub record PlainSession : Type 0 where
  -- the request that created the session, and what was agreed
  pub creation : RequestCopy
  pub terms : Terms
  -- what came to the places of later ids, and the copies that were processed, in the order of ids
  pub placings : List Placing
  pub processed : List Processed
  -- what the next key has to lead to, and the seconds of silence that are allowed now
  pub key : Option (List ℕ)
  pub period : ℕ
  -- the creation's answer, and the others in the order of ids; up to which id they were acknowledged; the due report
  pub created : Answered
  pub answered : List Answered
  pub acknowledged : ℕ
  pub reporting : Reporting
  -- all that the server gave
  pub given : List Outward
  pub tickets : List Issued
  -- the greatest moment so far, and that of the last arrival
  pub now : ℕ
  pub last_arrival : ℕ
  -- how many inward items were passed on, and the counted bytes of the journal
  pub passed : ℕ
  pub counted : ℕ
  -- how many counted bytes the journal may have, and after how many times `wait` a copy beyond a gap is struck
  pub limit : ℕ
  pub gap_waits : ℕ
  pub ending : Option Ending

-- the last of x and these
abbrev pub last_from : {X : Type 0} → X → List X → X
last_from x [] = x
last_from x (y ∷ ys) = last_from y ys

-- the id of the creation
abbrev pub first_of : PlainSession → ℕ
first_of s = id_of s.creation

-- what was processed, the creation first, and the answers, that of the creation first
abbrev pub run : PlainSession → List RequestCopy
run s = s.creation ∷ copies_of s.processed

abbrev pub answers : PlainSession → List Answered
answers s = s.created ∷ s.answered

-- the copy that was processed last, and the answer that was given last
abbrev pub last_copy : PlainSession → RequestCopy
last_copy s = last_from s.creation (copies_of s.processed)

abbrev pub last_answer : PlainSession → Answered
last_answer s = last_from s.created s.answered

-- the highest id that was processed in order
abbrev pub last_of : PlainSession → ℕ
last_of s = first_of s + length s.processed

-- the highest id that was answered
abbrev pub answered_of : PlainSession → ℕ
answered_of s = first_of s + length s.answered

-- processed and not answered, the oldest first
abbrev pub held : PlainSession → List Processed
held s = drop (length s.answered) s.processed

-- the copies of all other ids
abbrev pub without : ℕ → List RequestCopy → List RequestCopy
without rid copies = filter (λ copy. not (id_of copy == rid)) copies

-- which copies stand after these placings, where these stood before them
abbrev pub standing_after : List RequestCopy → List Placing → List RequestCopy
standing_after copies [] = copies
standing_after copies (Stands copy ∷ placings) = standing_after (copies ++ copy ∷ []) placings
standing_after copies (Strikes rid moment ∷ placings) = standing_after (without rid copies) placings

-- the copies that stand for ids after the creation's, in the order of arrival
abbrev pub standing : PlainSession → List RequestCopy
standing s = standing_after [] s.placings

-- beyond a gap
abbrev pub beyond : PlainSession → List RequestCopy
beyond s = filter (λ copy. nat_lt (last_of s) (id_of copy)) (standing s)

-- the copy that stands for an id after the creation's
abbrev pub standing_at : PlainSession → ℕ → Option RequestCopy
standing_at s rid = at_id (map with_id (standing s)) rid

-- when the last error was given, this moment where none was
abbrev pub last_strike : ℕ → List Placing → ℕ
last_strike moment [] = moment
last_strike moment (Stands copy ∷ placings) = last_strike moment placings
last_strike moment (Strikes rid at ∷ placings) = last_strike at placings

abbrev pub last_error : PlainSession → ℕ
last_error s = last_strike 0 s.placings

-- how many of the server's items these answers took
abbrev pub taken_by_answers : List Answered → ℕ
taken_by_answers answers = sum_by (λ answer. length (items_in answer.front)) answers

-- the server's items that no answer took yet
abbrev pub waiting : PlainSession → List Outward
waiting s = drop (taken_by_answers (answers s)) s.given

-- how many they are, closings among them, and the bytes of the stanzas among them
abbrev pub waiting_counts : PlainSession → Waiting
waiting_counts s = record { items = length (waiting s); bytes = size_of_all (waiting s) }

abbrev pub is_over : PlainSession → Bool
is_over s = is_some s.ending

-- what may go inward: the items of the run
abbrev pub inward : PlainSession → List Inward
inward s = items_of_all (as_creation s.creation ∷ s.processed)

-- how many streams were opened, the creation's among them
abbrev pub opened_in : List Processed → ℕ
opened_in processed = 1 + sum_by (λ one. if is_some one.opened then 1 else 0) processed

-- a stream is open where it was opened, and neither a terminate nor an answer that took its closing closed it
abbrev pub is_open_in : List Processed → List Answered → ℕ → Bool
is_open_in processed answers stream =
    nat_lt stream (opened_in processed)
    && (not (list_any (closes stream) processed) && not (list_any (λ answer. takes_closing stream answer.front) answers))

-- the open streams, in the order of their numbers
abbrev pub running_in : List Processed → List Answered → List ℕ
running_in processed answers = those (is_open_in processed answers)

abbrev pub running : PlainSession → List ℕ
running s = running_in s.processed s.answered

abbrev pub is_running : PlainSession → ℕ → Bool
is_running s stream = is_among (running s) stream
