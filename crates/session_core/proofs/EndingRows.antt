-- The definitions of a session compute: calls, their replies, and what is to be seen of the state after them.
use Rattle.std.proofs.Common.{◌≡◌, refl}
use Rattle.std.specs.Prelude.{true, [], ◌∷◌, Some, None, codes}
use Rattle.bosh_types.specs.declared.ending.Closing.TheVariants as closings
use Rattle.bosh_types.specs.declared.ending.Ending.TheVariants as endings
use Rattle.bosh_types.specs.declared.inward.Inward.TheVariants.{Item, Restart}
use Rattle.body_writer.specs.Answer.{answer_text}
use Rattle.session_core.specs.declared.replies.Arrived.TheVariants.{Answer, Parked}
use Rattle.session_core.specs.declared.replies.Collected.TheVariants as collections
use Rattle.session_core.specs.declared.replies.Taken.TheVariants as takings
use Rattle.session_core.specs.declared.replies.Ticked.TheVariants.{Changed, Quiet}
use Rattle.session_core.specs.Journal.{Collect, Back, BackClosed, Tick, ToArrive, ToCollect, ToBack, ToTick}
use Rattle.session_core.specs.Machine.{created_parts}
use Rattle.session_core.proofs.RowTools.{usual, opening, opening_with, empty, carrying, plain, outcome, empty_body, ack_body, payload_body, terminal_body, terminate_body, error_body, bodies_compute}

-- an empty request too soon after the one before it ends the session
empty_requests_too_often :
    outcome opening (carrying (empty 1001) (codes "<a/>") 1000 ∷ plain (empty 1002) 5999 ∷ Collect 1 ∷ [])
    ≡ record {
      replies = ToArrive (Parked 1) ∷ ToArrive (Answer (terminal_body (codes "policy-violation"))) ∷ ToCollect (collections.Answer (terminal_body (codes "other-request"))) ∷ [];
      last = 1001;
      answered = 1000;
      inward = Item 0 (codes "<a/>") ∷ [];
      waiting = [];
      ending = Some (endings.Overactive 1002 4999);
    }
unfolding bodies_compute
empty_requests_too_often = refl

-- at the polling interval itself an empty request is none too many
empty_requests_in_time :
    outcome opening (carrying (empty 1001) (codes "<a/>") 1000 ∷ plain (empty 1002) 6000 ∷ Collect 1 ∷ [])
    ≡ record {
      replies = ToArrive (Parked 1) ∷ ToArrive (Parked 2) ∷ ToCollect (collections.Answer (ack_body 1002)) ∷ [];
      last = 1002;
      answered = 1001;
      inward = Item 0 (codes "<a/>") ∷ [];
      waiting = [];
      ending = None;
    }
unfolding bodies_compute
empty_requests_in_time = refl

-- a poll too soon after one that brought nothing ends the session
polls_too_often :
    outcome (opening_with (record usual { hold = Some 0 }) None 1000) (plain (empty 1001) 10000 ∷ plain (empty 1002) 13000 ∷ [])
    ≡ record {
      replies = ToArrive (Answer empty_body) ∷ ToArrive (Answer (terminal_body (codes "policy-violation"))) ∷ [];
      last = 1001;
      answered = 1001;
      inward = [];
      waiting = [];
      ending = Some (endings.Overactive 1002 3000);
    }
unfolding bodies_compute
polls_too_often = refl

-- a poll is answered at once
polls_in_time :
    outcome (opening_with (record usual { hold = Some 0 }) None 1000) (plain (empty 1001) 10000 ∷ plain (empty 1002) 15000 ∷ [])
    ≡ record {
      replies = ToArrive (Answer empty_body) ∷ ToArrive (Answer empty_body) ∷ [];
      last = 1002;
      answered = 1002;
      inward = [];
      waiting = [];
      ending = None;
    }
unfolding bodies_compute
polls_in_time = refl

-- a terminate ends the session after its stanzas
terminate_passes_its_stanzas :
    outcome opening (carrying (empty 1001) (codes "<a/>") 0 ∷ carrying (record (empty 1002) { terminate = true }) (codes "<presence type='unavailable'/>") 0 ∷ Collect 1 ∷ Back 0 (codes "<iq/>") 0 ∷ [])
    ≡ record {
      replies = ToArrive (Parked 1) ∷ ToArrive (Answer empty_body) ∷ ToCollect (collections.Answer terminate_body) ∷ ToBack takings.Over ∷ [];
      last = 1002;
      answered = 1000;
      inward = Item 0 (codes "<a/>") ∷ Item 0 (codes "<presence type='unavailable'/>") ∷ [];
      waiting = [];
      ending = Some (endings.Terminated 1002);
    }
unfolding bodies_compute
terminate_passes_its_stanzas = refl

-- a closing of the server stands in an answer of its own
server_closes :
    outcome opening (carrying (empty 1001) (codes "<a/>") 0 ∷ BackClosed 0 closings.RemoteStreamError 0 ∷ Collect 1 ∷ [])
    ≡ record {
      replies = ToArrive (Parked 1) ∷ ToBack takings.Done ∷ ToCollect (collections.Answer (terminal_body (codes "remote-stream-error"))) ∷ [];
      last = 1001;
      answered = 1001;
      inward = Item 0 (codes "<a/>") ∷ [];
      waiting = [];
      ending = Some (endings.Closed closings.RemoteStreamError 1001);
    }
unfolding bodies_compute
server_closes = refl

-- what waits before a closing is delivered first
closing_waits_for_the_items :
    outcome opening (Back 0 (codes "<a/>") 0 ∷ BackClosed 0 closings.Plain 0 ∷ Back 0 (codes "<b/>") 0 ∷ plain (empty 1001) 0 ∷ plain (empty 1002) 0 ∷ [])
    ≡ record {
      replies = ToBack takings.Done ∷ ToBack takings.Done ∷ ToBack takings.Over ∷ ToArrive (Answer (payload_body (codes "<a/>"))) ∷ ToArrive (Answer terminate_body) ∷ [];
      last = 1002;
      answered = 1002;
      inward = [];
      waiting = [];
      ending = Some (endings.Closed closings.Plain 1002);
    }
unfolding bodies_compute
closing_waits_for_the_items = refl

-- a restart is passed on in its place
restart_after_the_stanzas :
    outcome opening (plain (record (empty 1001) { restart = true }) 0 ∷ Back 0 (codes "<stream:features/>") 0 ∷ Collect 1 ∷ [])
    ≡ record {
      replies = ToArrive (Parked 1) ∷ ToBack takings.Done ∷ ToCollect (collections.Answer (payload_body (codes "<stream:features/>"))) ∷ [];
      last = 1001;
      answered = 1001;
      inward = Restart 0 ∷ [];
      waiting = [];
      ending = None;
    }
unfolding bodies_compute
restart_after_the_stanzas = refl

-- an acknowledgement that leaves out an answer of a second ago brings its report, and drops what it names
reports_a_lost_answer :
    outcome (opening_with (record usual { asks_ack = true }) None 1000) (carrying (empty 1001) (codes "<a/>") 0 ∷ Back 0 (codes "<x/>") 0 ∷ Collect 1 ∷ carrying (record (empty 1002) { ack = Some 1000 }) (codes "<b/>") 1500 ∷ plain (empty 1000) 1500 ∷ [])
    ≡ record {
      replies = ToArrive (Parked 1) ∷ ToBack takings.Done ∷ ToCollect (collections.Answer (payload_body (codes "<x/>"))) ∷ ToArrive (Answer (codes "<body xmlns='http://jabber.org/protocol/httpbind' report='1001' time='1500'/>")) ∷ ToArrive (Answer (terminal_body (codes "item-not-found"))) ∷ [];
      last = 1002;
      answered = 1002;
      inward = Item 0 (codes "<a/>") ∷ Item 0 (codes "<b/>") ∷ [];
      waiting = [];
      ending = Some (endings.Stale 1000 1001);
    }
unfolding bodies_compute
reports_a_lost_answer = refl

-- an answer that was given less than a second ago is no lost one
reports_nothing_before_a_second :
    outcome (opening_with (record usual { asks_ack = true }) None 1000) (carrying (empty 1001) (codes "<a/>") 0 ∷ Back 0 (codes "<x/>") 0 ∷ Collect 1 ∷ carrying (record (empty 1002) { ack = Some 1000 }) (codes "<b/>") 999 ∷ [])
    ≡ record {
      replies = ToArrive (Parked 1) ∷ ToBack takings.Done ∷ ToCollect (collections.Answer (payload_body (codes "<x/>"))) ∷ ToArrive (Parked 2) ∷ [];
      last = 1002;
      answered = 1001;
      inward = Item 0 (codes "<a/>") ∷ Item 0 (codes "<b/>") ∷ [];
      waiting = [];
      ending = None;
    }
unfolding bodies_compute
reports_nothing_before_a_second = refl

-- while a copy stands beyond a gap there is no silence, and then silence counts from the error
silence_after_the_last_error :
    outcome opening (carrying (empty 1002) (codes "<b/>") 20000 ∷ Tick 50001 ∷ Tick 80000 ∷ Collect 1 ∷ Tick 110000 ∷ Tick 110001 ∷ [])
    ≡ record {
      replies = ToArrive (Parked 1) ∷ ToTick Quiet ∷ ToTick Changed ∷ ToCollect (collections.Answer error_body) ∷ ToTick Quiet ∷ ToTick Changed ∷ [];
      last = 1000;
      answered = 1000;
      inward = [];
      waiting = [];
      ending = Some (endings.Silent 80000 110001);
    }
unfolding bodies_compute
silence_after_the_last_error = refl

-- what is held is answered and never struck, and the error is told after the ending too
error_after_the_ending :
    outcome opening (carrying (empty 1001) (codes "<a/>") 0 ∷ carrying (empty 1003) (codes "<c/>") 0 ∷ Tick 60000 ∷ Collect 1 ∷ carrying (record (empty 1002) { terminate = true }) (codes "<b/>") 60000 ∷ Collect 2 ∷ [])
    ≡ record {
      replies = ToArrive (Parked 1) ∷ ToArrive (Parked 2) ∷ ToTick Changed ∷ ToCollect (collections.Answer empty_body) ∷ ToArrive (Answer terminate_body) ∷ ToCollect (collections.Answer error_body) ∷ [];
      last = 1002;
      answered = 1001;
      inward = Item 0 (codes "<a/>") ∷ Item 0 (codes "<b/>") ∷ [];
      waiting = [];
      ending = Some (endings.Terminated 1002);
    }
unfolding bodies_compute
error_after_the_ending = refl

-- a polling session falls silent with a copy beyond a gap, which then has its last word
silence_of_a_poll_beyond_a_gap :
    outcome (opening_with (record usual { hold = Some 0 }) None 1000) (plain (record (empty 1002) { pause = Some 60 }) 20000 ∷ Tick 95000 ∷ Tick 95001 ∷ Collect 1 ∷ [])
    ≡ record {
      replies = ToArrive (Parked 1) ∷ ToTick Quiet ∷ ToTick Changed ∷ ToCollect (collections.Answer (terminal_body (codes "item-not-found"))) ∷ [];
      last = 1000;
      answered = 1000;
      inward = [];
      waiting = [];
      ending = Some (endings.Silent 20000 95001);
    }
unfolding bodies_compute
silence_of_a_poll_beyond_a_gap = refl

-- a stream that is not open ends the session
stream_that_is_not_open :
    outcome opening (carrying (record (empty 1001) { stream = Some (codes "x") }) (codes "<a/>") 0 ∷ [])
    ≡ record {
      replies = ToArrive (Answer (terminal_body (codes "item-not-found"))) ∷ [];
      last = 1000;
      answered = 1000;
      inward = [];
      waiting = [];
      ending = Some (endings.UnknownStream 1001);
    }
unfolding bodies_compute
stream_that_is_not_open = refl

-- a copy with the creation's id gets the creation's answer while that is kept
first_id_is_the_creation :
    outcome opening (plain (empty 1000) 0 ∷ [])
    ≡ record {
      replies = ToArrive (Answer (answer_text (created_parts opening))) ∷ [];
      last = 1000;
      answered = 1000;
      inward = [];
      waiting = [];
      ending = None;
    }
unfolding bodies_compute
first_id_is_the_creation = refl

-- after the greatest id no other comes, and a repeat is still a repeat
greatest_id :
    outcome (opening_with usual None 9007199254740990) (carrying (empty 9007199254740991) (codes "<a/>") 0 ∷ Back 0 (codes "<x/>") 0 ∷ carrying (empty 9007199254740991) (codes "<a/>") 0 ∷ [])
    ≡ record {
      replies = ToArrive (Parked 1) ∷ ToBack takings.Done ∷ ToArrive (Answer (payload_body (codes "<x/>"))) ∷ [];
      last = 9007199254740991;
      answered = 9007199254740991;
      inward = Item 0 (codes "<a/>") ∷ [];
      waiting = [];
      ending = None;
    }
unfolding bodies_compute
greatest_id = refl
