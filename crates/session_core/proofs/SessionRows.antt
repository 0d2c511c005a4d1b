-- The definitions of a session compute: calls, their replies, and what is to be seen of the state after them.
use Rattle.std.proofs.Common.{◌≡◌, refl}
use Rattle.std.specs.Prelude.{[], ◌∷◌, Some, None, codes}
use Rattle.bosh_types.specs.declared.ending.Ending.TheVariants as endings
use Rattle.bosh_types.specs.declared.inward.Inward.TheVariants.{Item}
use Rattle.body_writer.specs.Answer.{answer_text}
use Rattle.session_core.specs.declared.replies.Arrived.TheVariants.{Answer, Parked, Over}
use Rattle.session_core.specs.declared.replies.Collected.TheVariants as collections
use Rattle.session_core.specs.declared.replies.Taken.TheVariants as takings
use Rattle.session_core.specs.declared.replies.Ticked.TheVariants.{Changed, Quiet}
use Rattle.session_core.specs.Journal.{Collect, Back, Tick, TakeInward, ToArrive, ToCollect, ToBack, ToTick, ToTakeInward}
use Rattle.session_core.specs.Machine.{created_parts}
use Rattle.session_core.specs.declared.outward.Outward.TheVariants.{Stanza}
use Rattle.session_core.proofs.RowTools.{usual, opening, opening_with, empty, carrying, plain, outcome, empty_body, ack_body, payload_body, terminal_body, error_body, short, bodies_compute, keys_compute}

-- the answer to a creation
creation : answer_text (created_parts opening) ≡ codes "<body xmlns='http://jabber.org/protocol/httpbind' xmlns:xmpp='urn:xmpp:xbosh' xmlns:stream='http://etherx.jabber.org/streams' sid='s1' wait='60' requests='2' inactivity='30' polling='5' maxpause='120' hold='1' ver='1.6' from='example.org' stream='t0' ack='1000' xmpp:version='1.0' xmpp:restartlogic='true'><stream:features/></body>"
unfolding bodies_compute
creation = refl

-- a request is held until the server gives something
held_until_an_item_waits :
    outcome opening (carrying (empty 1001) (codes "<message/>") 0 ∷ Back 0 (codes "<iq/>") 0 ∷ Collect 1 ∷ TakeInward ∷ TakeInward ∷ [])
    ≡ record {
      replies = ToArrive (Parked 1) ∷ ToBack takings.Done ∷ ToCollect (collections.Answer (payload_body (codes "<iq/>"))) ∷ ToTakeInward (Some (Item 0 (codes "<message/>"))) ∷ ToTakeInward None ∷ [];
      last = 1001;
      answered = 1001;
      inward = Item 0 (codes "<message/>") ∷ [];
      waiting = [];
      ending = None;
    }
unfolding bodies_compute
held_until_an_item_waits = refl

-- stanzas go inward in the order of ids
order_of_ids :
    outcome opening (carrying (empty 1002) (codes "<presence/>") 0 ∷ carrying (empty 1001) (codes "<message/>") 0 ∷ Collect 1 ∷ [])
    ≡ record {
      replies = ToArrive (Parked 1) ∷ ToArrive (Answer (ack_body 1002)) ∷ ToCollect collections.NotYet ∷ [];
      last = 1002;
      answered = 1001;
      inward = Item 0 (codes "<message/>") ∷ Item 0 (codes "<presence/>") ∷ [];
      waiting = [];
      ending = None;
    }
unfolding bodies_compute
order_of_ids = refl

-- a request is held for as long as was agreed, and no longer
held_for_its_wait :
    outcome opening (Tick 1000 ∷ plain (empty 1001) 1000 ∷ Tick 60999 ∷ Collect 1 ∷ Tick 61000 ∷ Collect 1 ∷ Collect 1 ∷ [])
    ≡ record {
      replies = ToTick Quiet ∷ ToArrive (Parked 1) ∷ ToTick Quiet ∷ ToCollect collections.NotYet ∷ ToTick Changed ∷ ToCollect (collections.Answer empty_body) ∷ ToCollect collections.UnknownTicket ∷ [];
      last = 1001;
      answered = 1001;
      inward = [];
      waiting = [];
      ending = None;
    }
unfolding bodies_compute
held_for_its_wait = refl

-- a repeat gets the same bytes, and what came since goes to the next request
same_bytes_again :
    outcome opening (carrying (empty 1001) (codes "<message/>") 0 ∷ Back 0 (codes "<iq/>") 0 ∷ Collect 1 ∷ Back 0 (codes "<presence/>") 0 ∷ carrying (empty 1001) (codes "<message/>") 0 ∷ carrying (empty 1002) (codes "<message id='2'/>") 0 ∷ [])
    ≡ record {
      replies = ToArrive (Parked 1) ∷ ToBack takings.Done ∷ ToCollect (collections.Answer (payload_body (codes "<iq/>"))) ∷ ToBack takings.Done ∷ ToArrive (Answer (payload_body (codes "<iq/>"))) ∷ ToArrive (Answer (payload_body (codes "<presence/>"))) ∷ [];
      last = 1002;
      answered = 1002;
      inward = Item 0 (codes "<message/>") ∷ Item 0 (codes "<message id='2'/>") ∷ [];
      waiting = [];
      ending = None;
    }
unfolding bodies_compute
same_bytes_again = refl

-- a copy of an open id takes the place of the one that waits, and its content is not looked at
later_copy_waits_instead :
    outcome opening (carrying (empty 1001) (codes "<message/>") 0 ∷ carrying (empty 1001) (codes "<presence/>") 0 ∷ Collect 1 ∷ Back 0 (codes "<iq/>") 0 ∷ Collect 2 ∷ [])
    ≡ record {
      replies = ToArrive (Parked 1) ∷ ToArrive (Parked 2) ∷ ToCollect collections.Superseded ∷ ToBack takings.Done ∷ ToCollect (collections.Answer (payload_body (codes "<iq/>"))) ∷ [];
      last = 1001;
      answered = 1001;
      inward = Item 0 (codes "<message/>") ∷ [];
      waiting = [];
      ending = None;
    }
unfolding bodies_compute
later_copy_waits_instead = refl

-- a copy whose place was taken is told so, even where its id was answered since
superseded_after_the_answer :
    outcome opening (carrying (empty 1001) (codes "<message/>") 0 ∷ carrying (empty 1001) (codes "<message/>") 0 ∷ Back 0 (codes "<iq/>") 0 ∷ Collect 1 ∷ Collect 1 ∷ [])
    ≡ record {
      replies = ToArrive (Parked 1) ∷ ToArrive (Parked 2) ∷ ToBack takings.Done ∷ ToCollect collections.Superseded ∷ ToCollect collections.UnknownTicket ∷ [];
      last = 1001;
      answered = 1001;
      inward = Item 0 (codes "<message/>") ∷ [];
      waiting = [];
      ending = None;
    }
unfolding bodies_compute
superseded_after_the_answer = refl

-- an id whose answer is no longer kept ends the session
no_longer_kept :
    outcome opening (carrying (empty 1001) (codes "<a/>") 0 ∷ carrying (empty 1002) (codes "<b/>") 0 ∷ carrying (empty 1003) (codes "<c/>") 0 ∷ carrying (empty 1004) (codes "<d/>") 0 ∷ carrying (empty 1005) (codes "<e/>") 0 ∷ carrying (empty 1001) (codes "<a/>") 0 ∷ Collect 1 ∷ Collect 5 ∷ [])
    ≡ record {
      replies = ToArrive (Parked 1) ∷ ToArrive (Parked 2) ∷ ToArrive (Parked 3) ∷ ToArrive (Parked 4) ∷ ToArrive (Parked 5) ∷ ToArrive (Answer (terminal_body (codes "item-not-found"))) ∷ ToCollect (collections.Answer (ack_body 1002)) ∷ ToCollect (collections.Answer (terminal_body (codes "other-request"))) ∷ [];
      last = 1005;
      answered = 1004;
      inward = Item 0 (codes "<a/>") ∷ Item 0 (codes "<b/>") ∷ Item 0 (codes "<c/>") ∷ Item 0 (codes "<d/>") ∷ Item 0 (codes "<e/>") ∷ [];
      waiting = [];
      ending = Some (endings.Stale 1001 1002);
    }
unfolding bodies_compute
no_longer_kept = refl

-- an id beyond the window ends the session
beyond_the_window :
    outcome opening (carrying (empty 1001) (codes "<a/>") 0 ∷ carrying (empty 1004) (codes "<b/>") 0 ∷ Collect 1 ∷ [])
    ≡ record {
      replies = ToArrive (Parked 1) ∷ ToArrive (Answer (terminal_body (codes "item-not-found"))) ∷ ToCollect (collections.Answer (terminal_body (codes "other-request"))) ∷ [];
      last = 1001;
      answered = 1000;
      inward = Item 0 (codes "<a/>") ∷ [];
      waiting = [];
      ending = Some (endings.Above 1004 1001 2);
    }
unfolding bodies_compute
beyond_the_window = refl

-- a pause may be one id further, and answers all
one_more_for_a_pause :
    outcome opening (carrying (empty 1001) (codes "<a/>") 0 ∷ plain (record (empty 1004) { pause = Some 60 }) 0 ∷ carrying (empty 1002) (codes "<b/>") 0 ∷ carrying (empty 1003) (codes "<c/>") 0 ∷ Collect 1 ∷ Collect 2 ∷ Collect 3 ∷ [])
    ≡ record {
      replies = ToArrive (Parked 1) ∷ ToArrive (Parked 2) ∷ ToArrive (Parked 3) ∷ ToArrive (Answer (ack_body 1004)) ∷ ToCollect (collections.Answer (ack_body 1002)) ∷ ToCollect (collections.Answer empty_body) ∷ ToCollect (collections.Answer (ack_body 1004)) ∷ [];
      last = 1004;
      answered = 1004;
      inward = Item 0 (codes "<a/>") ∷ Item 0 (codes "<b/>") ∷ Item 0 (codes "<c/>") ∷ [];
      waiting = [];
      ending = None;
    }
unfolding bodies_compute
one_more_for_a_pause = refl

-- a key whose digest was announced is good
key_leads_to_the_announced :
    outcome (opening_with usual (Some (codes "a9993e364706816aba3e25717850c26c9cd0d89d")) 1000) (carrying (record (empty 1001) { key = Some (codes "abc") }) (codes "<a/>") 0 ∷ [])
    ≡ record {
      replies = ToArrive (Parked 1) ∷ [];
      last = 1001;
      answered = 1000;
      inward = Item 0 (codes "<a/>") ∷ [];
      waiting = [];
      ending = None;
    }
unfolding bodies_compute keys_compute
key_leads_to_the_announced = refl

-- a key whose digest was not announced ends the session
key_leads_elsewhere :
    outcome (opening_with usual (Some (codes "a9993e364706816aba3e25717850c26c9cd0d89d")) 1000) (carrying (record (empty 1001) { key = Some (codes "abd") }) (codes "<a/>") 0 ∷ [])
    ≡ record {
      replies = ToArrive (Answer (terminal_body (codes "item-not-found"))) ∷ [];
      last = 1000;
      answered = 1000;
      inward = [];
      waiting = [];
      ending = Some (endings.WrongKey 1001);
    }
unfolding bodies_compute keys_compute
key_leads_elsewhere = refl

-- a key is tested once all lower ids have come
keys_are_tested_in_the_order_of_ids :
    outcome (opening_with usual (Some (codes "a9993e364706816aba3e25717850c26c9cd0d89d")) 1000) (carrying (record (empty 1002) { key = Some (codes "x") }) (codes "<b/>") 0 ∷ carrying (record (empty 1001) { key = Some (codes "abc") }) (codes "<a/>") 0 ∷ Collect 1 ∷ [])
    ≡ record {
      replies = ToArrive (Parked 1) ∷ ToArrive (Answer (terminal_body (codes "other-request"))) ∷ ToCollect (collections.Answer (terminal_body (codes "item-not-found"))) ∷ [];
      last = 1001;
      answered = 1000;
      inward = Item 0 (codes "<a/>") ∷ [];
      waiting = [];
      ending = Some (endings.WrongKey 1002);
    }
unfolding bodies_compute keys_compute
keys_are_tested_in_the_order_of_ids = refl

-- an answer that nobody collects is kept
broken_connection_loses_nothing :
    outcome opening (carrying (empty 1001) (codes "<a/>") 0 ∷ Back 0 (codes "<iq/>") 0 ∷ carrying (empty 1001) (codes "<a/>") 0 ∷ Collect 1 ∷ [])
    ≡ record {
      replies = ToArrive (Parked 1) ∷ ToBack takings.Done ∷ ToArrive (Answer (payload_body (codes "<iq/>"))) ∷ ToCollect (collections.Answer (payload_body (codes "<iq/>"))) ∷ [];
      last = 1001;
      answered = 1001;
      inward = Item 0 (codes "<a/>") ∷ [];
      waiting = [];
      ending = None;
    }
unfolding bodies_compute
broken_connection_loses_nothing = refl

-- a pause takes no item, and allows its seconds of silence
pause_takes_nothing :
    outcome opening (carrying (empty 1001) (codes "<a/>") 0 ∷ plain (record (empty 1002) { pause = Some 120 }) 0 ∷ Collect 1 ∷ Back 0 (codes "<iq/>") 0 ∷ Tick 119000 ∷ plain (empty 1003) 119000 ∷ [])
    ≡ record {
      replies = ToArrive (Parked 1) ∷ ToArrive (Answer empty_body) ∷ ToCollect (collections.Answer (ack_body 1002)) ∷ ToBack takings.Done ∷ ToTick Quiet ∷ ToArrive (Answer (payload_body (codes "<iq/>"))) ∷ [];
      last = 1003;
      answered = 1003;
      inward = Item 0 (codes "<a/>") ∷ [];
      waiting = [];
      ending = None;
    }
unfolding bodies_compute
pause_takes_nothing = refl

-- silence for longer than the pause ends the session
silence_after_a_pause :
    outcome opening (carrying (empty 1001) (codes "<a/>") 0 ∷ plain (record (empty 1002) { pause = Some 120 }) 0 ∷ Back 0 (codes "<iq/>") 0 ∷ Tick 120000 ∷ Tick 120001 ∷ plain (empty 1003) 120001 ∷ [])
    ≡ record {
      replies = ToArrive (Parked 1) ∷ ToArrive (Answer empty_body) ∷ ToBack takings.Done ∷ ToTick Quiet ∷ ToTick Changed ∷ ToArrive Over ∷ [];
      last = 1002;
      answered = 1002;
      inward = Item 0 (codes "<a/>") ∷ [];
      waiting = Stanza 0 (codes "<iq/>") ∷ [];
      ending = Some (endings.Silent 0 120001);
    }
unfolding bodies_compute
silence_after_a_pause = refl

-- a pause of more than was agreed ends the session
pause_too_long :
    outcome opening (carrying (empty 1001) (codes "<a/>") 0 ∷ plain (record (empty 1002) { pause = Some 121 }) 0 ∷ Collect 1 ∷ [])
    ≡ record {
      replies = ToArrive (Parked 1) ∷ ToArrive (Answer (terminal_body (codes "policy-violation"))) ∷ ToCollect (collections.Answer (terminal_body (codes "other-request"))) ∷ [];
      last = 1001;
      answered = 1000;
      inward = Item 0 (codes "<a/>") ∷ [];
      waiting = [];
      ending = Some (endings.PauseTooLong 1002 121 120);
    }
unfolding bodies_compute
pause_too_long = refl

-- a copy beyond a gap is struck exactly when it has waited its time, and is received once it comes again
struck_at_its_wait :
    outcome (opening_with short None 1000) (carrying (empty 1002) (codes "<b/>") 0 ∷ Tick 9999 ∷ Collect 1 ∷ Tick 10000 ∷ Collect 1 ∷ Collect 1 ∷ carrying (empty 1001) (codes "<a/>") 10000 ∷ carrying (empty 1002) (codes "<b/>") 10000 ∷ Collect 2 ∷ [])
    ≡ record {
      replies = ToArrive (Parked 1) ∷ ToTick Quiet ∷ ToCollect collections.NotYet ∷ ToTick Changed ∷ ToCollect (collections.Answer error_body) ∷ ToCollect collections.UnknownTicket ∷ ToArrive (Parked 2) ∷ ToArrive (Parked 3) ∷ ToCollect (collections.Answer (ack_body 1002)) ∷ [];
      last = 1002;
      answered = 1001;
      inward = Item 0 (codes "<a/>") ∷ Item 0 (codes "<b/>") ∷ [];
      waiting = [];
      ending = None;
    }
unfolding bodies_compute
struck_at_its_wait = refl

-- time comes first: where the missing copy arrives at that very moment, the one beyond the gap is struck before the gap is filled
struck_before_the_gap_is_filled :
    outcome (opening_with short None 1000) (carrying (empty 1002) (codes "<b/>") 0 ∷ carrying (empty 1001) (codes "<a/>") 10000 ∷ Collect 1 ∷ Collect 2 ∷ [])
    ≡ record {
      replies = ToArrive (Parked 1) ∷ ToArrive (Parked 2) ∷ ToCollect (collections.Answer error_body) ∷ ToCollect collections.NotYet ∷ [];
      last = 1001;
      answered = 1000;
      inward = Item 0 (codes "<a/>") ∷ [];
      waiting = [];
      ending = None;
    }
unfolding bodies_compute
struck_before_the_gap_is_filled = refl

-- all that have waited their time are struck at once, and no other
several_struck_at_once :
    outcome (opening_with (record short { hold = Some 4 }) None 1000) (carrying (empty 1005) (codes "<e/>") 0 ∷ carrying (empty 1003) (codes "<c/>") 0 ∷ carrying (empty 1002) (codes "<b/>") 1 ∷ Tick 10000 ∷ Collect 1 ∷ Collect 2 ∷ Collect 3 ∷ Tick 10000 ∷ Tick 10001 ∷ Collect 3 ∷ [])
    ≡ record {
      replies = ToArrive (Parked 1) ∷ ToArrive (Parked 2) ∷ ToArrive (Parked 3) ∷ ToTick Changed ∷ ToCollect (collections.Answer error_body) ∷ ToCollect (collections.Answer error_body) ∷ ToCollect collections.NotYet ∷ ToTick Quiet ∷ ToTick Changed ∷ ToCollect (collections.Answer error_body) ∷ [];
      last = 1000;
      answered = 1000;
      inward = [];
      waiting = [];
      ending = None;
    }
unfolding bodies_compute
several_struck_at_once = refl

-- a struck id may come again, and then waits for its own time; the request before it still has its error to tell
struck_and_sent_again :
    outcome (opening_with short None 1000) (carrying (empty 1002) (codes "<b/>") 0 ∷ Tick 10000 ∷ carrying (empty 1002) (codes "<b/>") 10001 ∷ Collect 2 ∷ Collect 1 ∷ Tick 20000 ∷ Tick 20001 ∷ Collect 2 ∷ [])
    ≡ record {
      replies = ToArrive (Parked 1) ∷ ToTick Changed ∷ ToArrive (Parked 2) ∷ ToCollect collections.NotYet ∷ ToCollect (collections.Answer error_body) ∷ ToTick Quiet ∷ ToTick Changed ∷ ToCollect (collections.Answer error_body) ∷ [];
      last = 1000;
      answered = 1000;
      inward = [];
      waiting = [];
      ending = None;
    }
unfolding bodies_compute
struck_and_sent_again = refl

-- a repeat beyond the gap takes the place of the request that waits, and not the moment of the copy that stands
repeated_and_struck :
    outcome (opening_with short None 1000) (carrying (empty 1002) (codes "<b/>") 0 ∷ carrying (empty 1002) (codes "<b/>") 5000 ∷ Tick 10000 ∷ Collect 1 ∷ Collect 2 ∷ [])
    ≡ record {
      replies = ToArrive (Parked 1) ∷ ToArrive (Parked 2) ∷ ToTick Changed ∷ ToCollect collections.Superseded ∷ ToCollect (collections.Answer error_body) ∷ [];
      last = 1000;
      answered = 1000;
      inward = [];
      waiting = [];
      ending = None;
    }
unfolding bodies_compute
repeated_and_struck = refl

-- a polling session strikes nothing; only a pause or a terminate reaches beyond a gap there
polls_strike_nothing :
    outcome (opening_with (record short { hold = Some 0 }) None 1000) (plain (record (empty 1002) { pause = Some 60 }) 0 ∷ Tick 10000 ∷ Collect 1 ∷ carrying (empty 1001) (codes "<a/>") 20000 ∷ Collect 1 ∷ [])
    ≡ record {
      replies = ToArrive (Parked 1) ∷ ToTick Quiet ∷ ToCollect collections.NotYet ∷ ToArrive (Answer (ack_body 1002)) ∷ ToCollect (collections.Answer empty_body) ∷ [];
      last = 1002;
      answered = 1002;
      inward = Item 0 (codes "<a/>") ∷ [];
      waiting = [];
      ending = None;
    }
unfolding bodies_compute
polls_strike_nothing = refl
