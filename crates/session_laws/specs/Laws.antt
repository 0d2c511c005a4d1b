-- The laws of a session: what every journal that calls made keeps.
use Rattle.std.specs.Prelude.{◌≡◌, ◌↔◌, ◌+◌, ◌<◌, ◌≤◌, ℕ, true, false, ◌++◌, List, [], ◌∷◌, Some, None, IsSome, IsTrue, length, take, slice_get}
use Rattle.bosh_types.specs.Limits.{most_streams}
use Rattle.bosh_types.specs.declared.ending.Closing.{Closing}
use Rattle.bosh_types.specs.declared.ending.Ending.{Ending}
use Rattle.bosh_types.specs.declared.inward.Inward.{Inward}
use Rattle.bosh_types.specs.declared.kept.KeptAnswer.{KeptAnswer}
use Rattle.stream_names.specs.Streams.{is_among}
use Rattle.session_attrs.specs.declared.request.Request.{Request}
use Rattle.session_core.specs.declared.replies.Arrived.TheVariants as arrivals
use Rattle.session_core.specs.declared.copy.RequestCopy.{RequestCopy}
use Rattle.session_core.specs.declared.outward.Front.TheVariants.{OfStanzas}
use Rattle.session_core.specs.declared.outward.Outward.{Outward}
use Rattle.session_core.specs.declared.replies.Collected.{Collected}
use Rattle.session_core.specs.declared.replies.Taken.TheVariants as takings
use Rattle.session_core.specs.declared.replies.Ticked.TheVariants.{Quiet}
use Rattle.session_core.specs.Answers.{answer_parts, has_reason, front_of}
use Rattle.session_core.specs.Copy.{is_add, is_prompt, unnamed}
use Rattle.session_core.specs.Endings.{last_word}
use Rattle.session_core.specs.Facts.{Fact}
use Rattle.session_core.specs.Journal.{Call, Arrive, Collect, Back, BackClosed, Tick, TakeInward, Entry, Entered, Limit, Limited, Journal, IsJournal, IsAllowed, MayEnter, ToArrive, ToCollect, ToBack, ToTick, ToTakeInward, counted, state_of, step, entered_by, after_entry, reply_of}
use Rattle.session_core.specs.Kept.{kept_of}
use Rattle.session_core.specs.Machine.{first_answer, body_cost, is_full, plain_cost, bytes_for, has_room, takes_items}
use Rattle.session_core.specs.Outward.{items_in, stream_in}
use Rattle.session_core.specs.Passed.{passed_of, given_in}
use Rattle.session_core.specs.Processed.{Processed, copies_of}
use Rattle.session_core.specs.Points.{tested_at}
use Rattle.session_core.specs.Placed.{ArePlaced, AreStruckAt, AreStruckBy}
use Rattle.session_core.specs.Run.{Completes, IsReceived, IsRun, IsLongestRun, arrivals_of, placings_of, run_of, state_testing}
use Rattle.session_core.specs.State.{Answered, answers, answered_of, inward, opened_in, running, standing_at, waiting, is_over}
use Rattle.session_core.specs.Time.{time_applied, is_due}
use Rattle.session_laws.specs.Acknowledging.{IsKept}
use Rattle.session_laws.specs.Answering.{WasGiven, IsLongestFront}
use Rattle.session_laws.specs.Growing.{Grows, with_later}
use Rattle.session_core.specs.Passed.{items_taken}
use Rattle.session_laws.specs.OneBody.{SendsOneBody, RunCarries, carried}
use Rattle.session_laws.specs.Replies.{IsOpenId, IsToldTo, MayTake}
use Rattle.session_laws.specs.RunEnded.{BreaksNoRule, IsRunOfEnded}
use Rattle.session_laws.specs.Streams.{AddNone, IsOpenAt, NamesStream, opened_before}
use Rattle.session_laws.specs.Tickets.{Tells, tickets_after}

pub record KeptLaws (journal : Journal) : Type 0 where
  -- with each entry these copies come to stand for their ids, and these are struck, and no other
  pub placed : (call : Call) (entered : Entered) → IsAllowed call → entered_by (state_of journal) call ≡ Some entered
      → ArePlaced (state_of journal) entered (after_entry (state_of journal) entered)
  pub placed_at_limit : (kind : Limited) (cost now : ℕ) → MayEnter (state_of journal) (Limit kind cost now)
      → (after_entry (state_of journal) (Limit kind cost now)).placings ≡ (state_of journal).placings
  -- no copy is left that should have been struck: neither at the session's own moment, nor at one at which time changes nothing
  pub struck : AreStruckAt (state_of journal) []
  pub struck_in_time : (now : ℕ) → reply_of journal (Tick now) ≡ ToTick Quiet → is_over (state_of journal) ≡ false
      → AreStruckBy (state_of journal) now []
  -- a copy that stands arrived, and one stands for an id exactly where it was received
  pub arrived : (rid : ℕ) (copy : RequestCopy) → IsReceived (placings_of journal) rid copy → (k : ℕ) × (slice_get (arrivals_of journal) k ≡ Some copy)
  pub stands : (rid : ℕ) (copy : RequestCopy) → (standing_at (state_of journal) rid ≡ Some copy) ↔ IsReceived (state_of journal).placings rid copy
  -- what was processed is, while the session goes on, the longest unbroken run of the ids that were received, each with the copy
  -- that was; and each copy of it is the one that was received with its id whether the session goes on or not
  pub run : is_over (state_of journal) ≡ false → IsLongestRun journal.opening.request.rid (placings_of journal) (run_of journal)
  pub run_each : IsRun journal.opening.request.rid (placings_of journal) (run_of journal)
  -- each copy of the run after the creation broke no rule when it and copies of all lower ids first stood together, and was processed with the
  -- streams that were open then; only the last may end the session; once the session has ended, the run stops there, before a copy that broke
  -- a rule, or where no more had been received
  pub run_rules : BreaksNoRule journal (state_of journal).processed
  pub run_at_end : is_over (state_of journal) ≡ true → IsRunOfEnded journal (state_of journal).processed
  -- while the session goes on a stream is open, as one was at each copy that was processed; where no stream was added it is the first
  pub open_stream : is_over (state_of journal) ≡ false → 1 ≤ length (running (state_of journal))
  pub open_each : (k : ℕ) (one : Processed) → slice_get (state_of journal).processed k ≡ Some one → 1 ≤ length one.running
  pub alone : AddNone (state_of journal).processed → (k : ℕ) (one : Processed) → slice_get (state_of journal).processed k ≡ Some one
      → (one.running ≡ unnamed ∷ []) × (one.opened ≡ None)
  -- each copy was processed with the streams that were open for it, when it and copies of all lower ids first stood together; an add opened the
  -- next one, where fewer than eight were opened, and no other copy opened one
  pub open_for : (k : ℕ) (one : Processed) (before : List Entry) (entry : Entry) (after : List Entry)
      → slice_get (state_of journal).processed k ≡ Some one → journal.entries ≡ before ++ entry ∷ after → Completes journal.opening before entry k
      → (stream : ℕ) → IsTrue (is_among one.running stream)
      ↔ IsOpenAt (state_testing journal.opening before entry) (copies_of (take k (state_of journal).processed)) stream
  pub opens_next : (k : ℕ) (one : Processed) → slice_get (state_of journal).processed k ≡ Some one
      → (stream : ℕ) → (one.opened ≡ Some stream)
      ↔ ((is_add one.copy ≡ true) × (stream ≡ opened_before (copies_of (take k (state_of journal).processed))) × (stream < most_streams))
  -- of a client that sends one body for each id, what may go inward is what the bodies of the run's ids carry for the streams that were open
  -- then, each once
  pub one_body : (bodies : ℕ → List ℕ) (items : ℕ → List Inward) → SendsOneBody bodies journal → RunCarries bodies items journal
      → inward (state_of journal) ≡ carried items journal.opening.request.rid (length (run_of journal))
  -- the state after a call is the state after its entry, and a call without one changes nothing
  pub entered : (call : Call) (entered : Entered) → entered_by (state_of journal) call ≡ Some entered
      → (step (state_of journal) call).0 ≡ after_entry (state_of journal) entered
  pub unentered : (call : Call) → entered_by (state_of journal) call ≡ None → (step (state_of journal) call).0 ≡ state_of journal
  -- a longer journal begins with what this one had
  pub grows : (later : List Entry) → IsJournal (with_later journal later) → Grows (state_of journal) (state_of (with_later journal later))
  -- a session that goes on ends with an entry exactly where the fact of that ending holds there, with its numbers
  pub ends : (call : Call) (entered : Entered) (ending : Ending) → IsAllowed call → entered_by (state_of journal) call ≡ Some entered
      → is_over (state_of journal) ≡ false
      → ((after_entry (state_of journal) entered).ending ≡ Some ending)
      ↔ Fact (tested_at (state_of journal) entered) entered (after_entry (state_of journal) entered) ending
  -- the same of every limit that may be entered, whatever its cost
  pub ends_at_limit : (kind : Limited) (cost now : ℕ) (ending : Ending) → MayEnter (state_of journal) (Limit kind cost now)
      → ((after_entry (state_of journal) (Limit kind cost now)).ending ≡ Some ending)
      ↔ Fact (state_of journal) (Limit kind cost now) (after_entry (state_of journal) (Limit kind cost now)) ending
  -- after the ending nothing changes but what was collected and passed on
  pub ended : (call : Call) (entered : Entered) → IsAllowed call → entered_by (state_of journal) call ≡ Some entered
      → is_over (state_of journal) ≡ true
      → after_entry (state_of journal) entered
      ≡ record (state_of journal) {
        tickets = (after_entry (state_of journal) entered).tickets;
        passed = (after_entry (state_of journal) entered).passed;
      }
  -- the counted bytes are those of the entries; how many there may be, and how long a copy may wait beyond a gap, is what the opening says
  pub counts : (state_of journal).counted ≡ counted journal
  pub limit : (state_of journal).limit ≡ journal.opening.limit
  pub gap_waits : (state_of journal).gap_waits ≡ journal.opening.gap_waits
  -- what was passed on are the first items of what may go inward, as many as were taken, and what is taken is the next
  pub passed : take (state_of journal).passed (inward (state_of journal)) ≡ passed_of journal
  pub takes : reply_of journal TakeInward ≡ ToTakeInward (slice_get (inward (state_of journal)) (state_of journal).passed)
  -- what answers took, and then what waits, is what the server gave
  pub given : items_taken (answers (state_of journal)) ++ waiting (state_of journal) ≡ given_in journal
  -- no request is held that has a reason to be answered
  pub settled : has_reason (state_of journal) ≡ false
  -- an answer is kept exactly by the rule
  pub kept : (rid : ℕ) → IsSome (kept_of (state_of journal) rid) ↔ IsKept journal rid
  -- where the answer of an id is kept once time was applied, and the session goes on, a copy of that id is given its bytes
  pub repeats : (request : Request) (body : List ℕ) (now : ℕ) (answer : KeptAnswer)
      → is_over (time_applied (state_of journal) now) ≡ false → is_full (state_of journal) (body_cost request body) ≡ false
      → kept_of (time_applied (state_of journal) now) request.rid ≡ Some answer
      → reply_of journal (Arrive request body now) ≡ ToArrive (arrivals.Answer answer.bytes)
  -- what an id was given it is given ever after
  pub same_bytes : (later : List Entry) → IsJournal (with_later journal later)
      → (rid : ℕ) (bytes : List ℕ) → bytes_for (state_of journal) rid ≡ Some bytes
      → bytes_for (state_of (with_later journal later)) rid ≡ Some bytes
  -- of a ticket this is told, and nothing else
  pub collects : (number : ℕ) (told : Collected)
      → (reply_of journal (Collect number) ≡ ToCollect told) ↔ Tells (state_of journal) number told
  -- the tickets after a call are these, by what it is told and by what was struck with its entry
  pub tickets : (call : Call) (entered : Entered) (placed : ArePlaced (state_of journal) entered (after_entry (state_of journal) entered))
      → entered_by (state_of journal) call ≡ Some entered
      → (step (state_of journal) call).0.tickets ≡ tickets_after (state_of journal) placed.struck call
  -- the creation has its own answer; the others go on by one from its id, and only what was processed is answered
  pub created : (state_of journal).created ≡ first_answer journal.opening
  pub answer_ids : (k : ℕ) (answer : Answered) → slice_get (answers (state_of journal)) k ≡ Some answer
      → answer.rid ≡ journal.opening.request.rid + k
  pub answers_processed : length (state_of journal).answered ≤ length (state_of journal).processed
  -- each answer was given for a reason, to the oldest held request, with what was due to it; one item at least, where one
  -- waited and the request was neither a pause nor an add
  pub answered : (k : ℕ) (answer : Answered) → slice_get (state_of journal).answered k ≡ Some answer
      → WasGiven (state_of journal) k answer
  pub served : (k : ℕ) (answer : Answered) (given : WasGiven (state_of journal) k answer) → is_prompt given.oldest.copy ≡ false
      → 1 ≤ length (waiting given.earlier)
      → 1 ≤ length (items_in answer.front)
  -- a pause and an add take nothing
  pub prompt : (k : ℕ) (one : Processed) (answer : Answered) → slice_get (state_of journal).processed k ≡ Some one
      → slice_get (state_of journal).answered k ≡ Some answer
      → is_prompt one.copy ≡ true → answer.front ≡ OfStanzas []
  -- what an answer takes lies on one stream; which stream it names
  pub on_one : (k : ℕ) (answer : Answered) → slice_get (state_of journal).answered k ≡ Some answer
      → (i j : ℕ) (item other : Outward) → slice_get (items_in answer.front) i ≡ Some item → slice_get (items_in answer.front) j ≡ Some other
      → stream_in item ≡ stream_in other
  pub names : (k : ℕ) (answer : Answered) (given : WasGiven (state_of journal) k answer) (stream : ℕ)
      → ((answer_parts given.earlier given.oldest answer.front).stream ≡ Some stream)
      ↔ NamesStream given.earlier given.oldest answer.front stream
  -- where no stream was added no answer but the creation's names one
  pub unnamed_answers : AddNone (state_of journal).processed → (k : ℕ) (answer : Answered) → slice_get (state_of journal).answered k ≡ Some answer
      → (given : WasGiven (state_of journal) k answer) → (answer_parts given.earlier given.oldest answer.front).stream ≡ None
  -- what the server gave lies on streams that were opened, of eight at most
  pub given_on : (k : ℕ) (item : Outward) → slice_get (state_of journal).given k ≡ Some item
      → (stream_in item < opened_in (state_of journal).processed) × (stream_in item < most_streams)
  -- what is due of the items that wait is the longest front that one answer may take, where no closing comes first
  pub fronts : (items front : List Outward) → front_of items ≡ OfStanzas front → IsLongestFront items front
  -- an id that wasn't answered before the ending is given its last word
  pub last_words : (rid : ℕ) (ending : Ending) → (state_of journal).ending ≡ Some ending → answered_of (state_of journal) < rid
      → bytes_for (state_of journal) rid ≡ Some (last_word (answered_of (state_of journal)) ending rid)
  -- a copy waits exactly where the session goes on and its id is open after the call, with the next ticket
  pub parked : (request : Request) (body : List ℕ) (now number : ℕ) → IsAllowed (Arrive request body now)
      → is_over (state_of journal) ≡ false
      → (reply_of journal (Arrive request body now) ≡ ToArrive (arrivals.Parked number))
      ↔ ((number ≡ length (state_of journal).tickets + 1) × IsOpenId (step (state_of journal) (Arrive request body now)).0 request.rid)
  -- a copy that is answered is told what its id was given, or that it found no place
  pub told : (request : Request) (body : List ℕ) (now : ℕ) (bytes : List ℕ) → IsAllowed (Arrive request body now)
      → is_over (state_of journal) ≡ false → reply_of journal (Arrive request body now) ≡ ToArrive (arrivals.Answer bytes)
      → IsToldTo (step (state_of journal) (Arrive request body now)).0 request.rid bytes
  -- a copy is told that the session is over exactly where it had ended before
  pub over : (request : Request) (body : List ℕ) (now : ℕ) → IsAllowed (Arrive request body now)
      → (reply_of journal (Arrive request body now) ≡ ToArrive arrivals.Over) ↔ (is_over (state_of journal) ≡ true)
  -- a stanza of the server finds no room, or is taken, exactly so
  pub full : (stream : ℕ) (stanza : List ℕ) (now : ℕ) → (reply_of journal (Back stream stanza now) ≡ ToBack takings.Full)
      ↔ (MayTake (state_of journal) stream stanza now × (has_room (time_applied (state_of journal) now) stanza ≡ false))
  pub done : (stream : ℕ) (stanza : List ℕ) (now : ℕ) → (reply_of journal (Back stream stanza now) ≡ ToBack takings.Done)
      ↔ (MayTake (state_of journal) stream stanza now × (has_room (time_applied (state_of journal) now) stanza ≡ true))
  pub closed : (stream : ℕ) (closing : Closing) (now : ℕ) → (reply_of journal (BackClosed stream closing now) ≡ ToBack takings.Done)
      ↔ ((is_over (state_of journal) ≡ false) × (is_full (state_of journal) plain_cost ≡ false)
      × (takes_items (time_applied (state_of journal) now) stream ≡ true))
  -- nothing changes by time alone exactly where nothing is due
  pub quiet : (now : ℕ) → (reply_of journal (Tick now) ≡ ToTick Quiet) ↔ (is_due (state_of journal) now ≡ false)
