-- Sessions of several streams compute: what goes inward on which of them, and which one an answer names.
use Rattle.std.proofs.Common.{◌≡◌, refl}
use Rattle.std.specs.Prelude.{true, [], ◌∷◌, Some, None, codes}
use Rattle.bosh_types.specs.declared.ending.Closing.TheVariants as closings
use Rattle.bosh_types.specs.declared.ending.Ending.TheVariants as endings
use Rattle.bosh_types.specs.declared.inward.Inward.TheVariants.{Item, Restart, Open, Close}
use Rattle.session_core.specs.declared.replies.Arrived.TheVariants.{Answer, Parked}
use Rattle.session_core.specs.declared.replies.Collected.TheVariants as collections
use Rattle.session_core.specs.declared.replies.Taken.TheVariants as takings
use Rattle.session_core.specs.Journal.{Collect, Back, BackClosed, TakeInward, ToArrive, ToCollect, ToBack, ToTakeInward}
use Rattle.session_core.proofs.RowTools.{opening, empty, adding, naming, carrying, plain, outcome, empty_body, ack_body, payload_body, named_body, named_payload_body, terminal_body, terminate_body, bodies_compute}

-- an add is answered at once, and its answer has the name of the new stream
an_add :
    outcome opening (plain (adding 1001) 0 ∷ TakeInward ∷ [])
    ≡ record {
      replies = ToArrive (Answer (named_body (codes "t1"))) ∷ ToTakeInward (Some (Open 1 (codes "other.org"))) ∷ [];
      last = 1001;
      answered = 1001;
      inward = Open 1 (codes "other.org") ∷ [];
      waiting = [];
      ending = None;
    }
unfolding bodies_compute
an_add = refl

-- a stanza that names no stream goes to both; what the server gives on one is answered by its name
a_stanza_for_both :
    outcome opening (plain (adding 1001) 0 ∷ carrying (empty 1002) (codes "<a/>") 0 ∷ Back 1 (codes "<x/>") 0 ∷ Collect 1 ∷ [])
    ≡ record {
      replies = ToArrive (Answer (named_body (codes "t1"))) ∷ ToArrive (Parked 1) ∷ ToBack takings.Done ∷ ToCollect (collections.Answer (named_payload_body (codes "t1") (codes "<x/>"))) ∷ [];
      last = 1002;
      answered = 1002;
      inward = Open 1 (codes "other.org") ∷ Item 0 (codes "<a/>") ∷ Item 1 (codes "<a/>") ∷ [];
      waiting = [];
      ending = None;
    }
unfolding bodies_compute
a_stanza_for_both = refl

-- one that names a stream goes to that one alone
a_stanza_for_one :
    outcome opening (plain (adding 1001) 0 ∷ carrying (naming (codes "t1") 1002) (codes "<a/>") 0 ∷ [])
    ≡ record {
      replies = ToArrive (Answer (named_body (codes "t1"))) ∷ ToArrive (Parked 1) ∷ [];
      last = 1002;
      answered = 1001;
      inward = Open 1 (codes "other.org") ∷ Item 1 (codes "<a/>") ∷ [];
      waiting = [];
      ending = None;
    }
unfolding bodies_compute
a_stanza_for_one = refl

-- the first stream has a name from the first
the_first_stream_by_its_name :
    outcome opening (carrying (naming (codes "t0") 1001) (codes "<a/>") 0 ∷ Back 0 (codes "<x/>") 0 ∷ Collect 1 ∷ [])
    ≡ record {
      replies = ToArrive (Parked 1) ∷ ToBack takings.Done ∷ ToCollect (collections.Answer (payload_body (codes "<x/>"))) ∷ [];
      last = 1001;
      answered = 1001;
      inward = Item 0 (codes "<a/>") ∷ [];
      waiting = [];
      ending = None;
    }
unfolding bodies_compute
the_first_stream_by_its_name = refl

-- a name that no open stream has ends the session
an_unknown_name :
    outcome opening (plain (adding 1001) 0 ∷ carrying (naming (codes "t9") 1002) (codes "<b/>") 0 ∷ [])
    ≡ record {
      replies = ToArrive (Answer (named_body (codes "t1"))) ∷ ToArrive (Answer (terminal_body (codes "item-not-found"))) ∷ [];
      last = 1001;
      answered = 1001;
      inward = Open 1 (codes "other.org") ∷ [];
      waiting = [];
      ending = Some (endings.UnknownStream 1002);
    }
unfolding bodies_compute
an_unknown_name = refl

-- nothing is given on a stream that isn't open
nothing_on_a_stream_that_is_not_open :
    outcome opening (Back 1 (codes "<x/>") 0 ∷ BackClosed 1 closings.Plain 0 ∷ [])
    ≡ record {
      replies = ToBack takings.Over ∷ ToBack takings.Over ∷ [];
      last = 1000;
      answered = 1000;
      inward = [];
      waiting = [];
      ending = None;
    }
unfolding bodies_compute
nothing_on_a_stream_that_is_not_open = refl

-- a terminate that names a stream closes it after its stanzas, and the session ends with the closing of the other one
one_closed_by_each_side :
    outcome opening (plain (adding 1001) 0 ∷ carrying (record (naming (codes "t1") 1002) { terminate = true }) (codes "<z/>") 0 ∷ Back 1 (codes "<x/>") 0 ∷ BackClosed 0 closings.Plain 0 ∷ Collect 1 ∷ [])
    ≡ record {
      replies = ToArrive (Answer (named_body (codes "t1"))) ∷ ToArrive (Parked 1) ∷ ToBack takings.Over ∷ ToBack takings.Done ∷ ToCollect (collections.Answer terminate_body) ∷ [];
      last = 1002;
      answered = 1002;
      inward = Open 1 (codes "other.org") ∷ Item 1 (codes "<z/>") ∷ Close 1 ∷ [];
      waiting = [];
      ending = Some (endings.Closed closings.Plain 1002);
    }
unfolding bodies_compute
one_closed_by_each_side = refl

-- one that names the only open stream ends the session
the_only_stream_by_its_name :
    outcome opening (carrying (record (naming (codes "t0") 1001) { terminate = true }) (codes "<z/>") 0 ∷ [])
    ≡ record {
      replies = ToArrive (Answer terminate_body) ∷ [];
      last = 1001;
      answered = 1000;
      inward = Item 0 (codes "<z/>") ∷ Close 0 ∷ [];
      waiting = [];
      ending = Some (endings.Terminated 1001);
    }
unfolding bodies_compute
the_only_stream_by_its_name = refl

-- so does one that names the last of two
the_last_of_two_by_its_name :
    outcome opening (plain (adding 1001) 0 ∷ plain (record (naming (codes "t0") 1002) { terminate = true }) 0 ∷ plain (record (naming (codes "t1") 1003) { terminate = true }) 0 ∷ Collect 1 ∷ [])
    ≡ record {
      replies = ToArrive (Answer (named_body (codes "t1"))) ∷ ToArrive (Parked 1) ∷ ToArrive (Answer empty_body) ∷ ToCollect (collections.Answer terminate_body) ∷ [];
      last = 1003;
      answered = 1001;
      inward = Open 1 (codes "other.org") ∷ Close 0 ∷ Close 1 ∷ [];
      waiting = [];
      ending = Some (endings.Terminated 1003);
    }
unfolding bodies_compute
the_last_of_two_by_its_name = refl

-- a closing beside which another stream is open ends nothing but its stream
a_closing_beside_another :
    outcome opening (plain (adding 1001) 0 ∷ BackClosed 0 closings.RemoteConnectionFailed 0 ∷ carrying (empty 1002) (codes "<a/>") 0 ∷ Back 0 (codes "<x/>") 0 ∷ carrying (empty 1003) (codes "<b/>") 0 ∷ [])
    ≡ record {
      replies = ToArrive (Answer (named_body (codes "t1"))) ∷ ToBack takings.Done ∷ ToArrive (Answer (codes "<body xmlns='http://jabber.org/protocol/httpbind' type='terminate' condition='remote-connection-failed' stream='t0'/>")) ∷ ToBack takings.Over ∷ ToArrive (Parked 1) ∷ [];
      last = 1003;
      answered = 1002;
      inward = Open 1 (codes "other.org") ∷ Item 0 (codes "<a/>") ∷ Item 1 (codes "<a/>") ∷ Item 1 (codes "<b/>") ∷ [];
      waiting = [];
      ending = None;
    }
unfolding bodies_compute
a_closing_beside_another = refl

-- seven adds open the streams from 1 to 7, and later ones open nothing and are answered all the same
eight_streams :
    outcome opening (plain (adding 1001) 0 ∷ plain (adding 1002) 0 ∷ plain (adding 1003) 0 ∷ plain (adding 1004) 0 ∷ plain (adding 1005) 0 ∷ plain (adding 1006) 0 ∷ plain (adding 1007) 0 ∷ plain (adding 1008) 0 ∷ plain (adding 1009) 0 ∷ [])
    ≡ record {
      replies = ToArrive (Answer (named_body (codes "t1"))) ∷ ToArrive (Answer (named_body (codes "t2"))) ∷ ToArrive (Answer (named_body (codes "t3"))) ∷ ToArrive (Answer (named_body (codes "t4"))) ∷ ToArrive (Answer (named_body (codes "t5"))) ∷ ToArrive (Answer (named_body (codes "t6"))) ∷ ToArrive (Answer (named_body (codes "t7"))) ∷ ToArrive (Answer empty_body) ∷ ToArrive (Answer empty_body) ∷ [];
      last = 1009;
      answered = 1009;
      inward = Open 1 (codes "other.org") ∷ Open 2 (codes "other.org") ∷ Open 3 (codes "other.org") ∷ Open 4 (codes "other.org") ∷ Open 5 (codes "other.org") ∷ Open 6 (codes "other.org") ∷ Open 7 (codes "other.org") ∷ [];
      waiting = [];
      ending = None;
    }
unfolding bodies_compute
eight_streams = refl

-- an add and a closing of the first stream in one call: the session goes on
an_add_and_a_closing_at_once :
    outcome opening (plain (adding 1002) 0 ∷ BackClosed 0 closings.Plain 0 ∷ plain (empty 1001) 0 ∷ Collect 1 ∷ [])
    ≡ record {
      replies = ToArrive (Parked 1) ∷ ToBack takings.Done ∷ ToArrive (Answer (codes "<body xmlns='http://jabber.org/protocol/httpbind' type='terminate' stream='t0' ack='1002'/>")) ∷ ToCollect (collections.Answer (named_body (codes "t1"))) ∷ [];
      last = 1002;
      answered = 1002;
      inward = Open 1 (codes "other.org") ∷ [];
      waiting = [];
      ending = None;
    }
unfolding bodies_compute
an_add_and_a_closing_at_once = refl

-- of two adds in one call each has the stream that it opened
two_adds_at_once :
    outcome opening (plain (adding 1002) 0 ∷ plain (adding 1001) 0 ∷ Collect 1 ∷ [])
    ≡ record {
      replies = ToArrive (Parked 1) ∷ ToArrive (Answer (codes "<body xmlns='http://jabber.org/protocol/httpbind' stream='t1' ack='1002'/>")) ∷ ToCollect (collections.Answer (named_body (codes "t2"))) ∷ [];
      last = 1002;
      answered = 1002;
      inward = Open 1 (codes "other.org") ∷ Open 2 (codes "other.org") ∷ [];
      waiting = [];
      ending = None;
    }
unfolding bodies_compute
two_adds_at_once = refl

-- what waits on two streams takes two answers
two_streams_in_two_answers :
    outcome opening (plain (adding 1001) 0 ∷ Back 0 (codes "<x/>") 0 ∷ Back 1 (codes "<y/>") 0 ∷ Back 1 (codes "<z/>") 0 ∷ carrying (empty 1002) (codes "<a/>") 0 ∷ carrying (empty 1003) (codes "<b/>") 0 ∷ [])
    ≡ record {
      replies = ToArrive (Answer (named_body (codes "t1"))) ∷ ToBack takings.Done ∷ ToBack takings.Done ∷ ToBack takings.Done ∷ ToArrive (Answer (named_payload_body (codes "t0") (codes "<x/>"))) ∷ ToArrive (Answer (named_payload_body (codes "t1") (codes "<y/><z/>"))) ∷ [];
      last = 1003;
      answered = 1003;
      inward = Open 1 (codes "other.org") ∷ Item 0 (codes "<a/>") ∷ Item 1 (codes "<a/>") ∷ Item 0 (codes "<b/>") ∷ Item 1 (codes "<b/>") ∷ [];
      waiting = [];
      ending = None;
    }
unfolding bodies_compute
two_streams_in_two_answers = refl

-- a client that names its host in each body opens a stream with each empty one, and with no other
a_host_in_each_body :
    outcome opening (carrying (adding 1001) (codes "<a/>") 0 ∷ plain (record (adding 1002) { restart = true }) 0 ∷ plain (adding 1003) 0 ∷ plain (adding 1004) 0 ∷ Collect 1 ∷ Collect 2 ∷ [])
    ≡ record {
      replies = ToArrive (Parked 1) ∷ ToArrive (Parked 2) ∷ ToArrive (Answer (named_body (codes "t1"))) ∷ ToArrive (Answer (named_body (codes "t2"))) ∷ ToCollect (collections.Answer (ack_body 1002)) ∷ ToCollect (collections.Answer (ack_body 1003)) ∷ [];
      last = 1004;
      answered = 1004;
      inward = Item 0 (codes "<a/>") ∷ Restart 0 ∷ Open 1 (codes "other.org") ∷ Open 2 (codes "other.org") ∷ [];
      waiting = [];
      ending = None;
    }
unfolding bodies_compute
a_host_in_each_body = refl
