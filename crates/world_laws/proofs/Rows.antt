-- The definitions of a world compute: events with what is seen of them.
use Rattle.std.proofs.Common.{◌≡◌, ℕ, ◌∷◌, [], ◌++◌, List, refl, take, true, false}
use Rattle.std.specs.Prelude.{None, Some, codes, ⊤}
use Rattle.bosh_types.specs.declared.condition.Condition.TheVariants.{HostUnknown, ImproperAddressing, ItemNotFound}
use Rattle.bosh_types.specs.declared.ending.Closing.TheVariants.{Plain, RemoteConnectionFailed}
use Rattle.bosh_types.specs.declared.ending.Ending.TheVariants.{Stale, Terminated}
use Rattle.bosh_types.specs.declared.inward.Inward.TheVariants as inwards
use Rattle.body_cutter.proofs.Rows.{cuts_compute}
use Rattle.session_attrs.specs.Attributes.{is_named, value_of}
use Rattle.session_attrs.specs.Forms.{is_httpbind, number_of, pause_of, version_of, wish_of, ack_of, terminate_of, flag_of}
use Rattle.session_attrs.specs.Reading.{rid_in, creation_in, asked_in, request_with, request_of}
use Rattle.session_core.proofs.RowTools.{bodies_compute, keys_compute}
use Rattle.bosh_client.proofs.ClientRows.{clients_compute}
use Rattle.world_laws.specs.declared.event.WorldEvent.{WorldEvent}
use Rattle.world_laws.specs.declared.event.WorldEvent.TheVariants as events
use Rattle.world_laws.specs.declared.seen.SeenItem.{SeenItem}
use Rattle.world_laws.specs.declared.seen.SeenItem.TheVariants as seen
use Rattle.world_laws.specs.declared.seen.Word.TheVariants as words
use Rattle.world_laws.specs.Promises.{content_on, lying_on, was_given, was_made, went_inward}
use Rattle.bosh_client.specs.PlainClient.{was_handed}
use Rattle.world_laws.specs.Steps.{after, report}
use Rattle.world_laws.specs.Sums.{sums_of}
use Rattle.world_laws.specs.Timely.{is_timely}
use Rattle.world_laws.specs.World.{PlainWorld, new_world}

unfoldable worlds_compute : ⊤
unfolding cuts_compute bodies_compute keys_compute clients_compute is_named value_of is_httpbind number_of pause_of version_of wish_of ack_of terminate_of flag_of rid_in creation_in asked_in request_with request_of
worlds_compute = tt

abbrev host : List ℕ
host = codes "example.org"

-- as scripts begin one: the first id, and whether the client asks for acknowledgements
abbrev world_of : ℕ → PlainWorld
world_of first = new_world host (codes "<stream:features/>" ∷ []) (record { first = first; to = host; wait = 60; hold = 1; ack = true; seed = codes "seed"; keys = 0 })

abbrev httpbind : List ℕ
httpbind = codes "xmlns='http://jabber.org/protocol/httpbind'"

abbrev body : List ℕ → List ℕ
body rest = codes "<body " ++ httpbind ++ rest

abbrev stream : List ℕ
stream = codes " xmlns:stream='http://etherx.jabber.org/streams'>"

abbrev carrying : List ℕ → List ℕ
carrying stanza = body (stream ++ stanza ++ codes "</body>")

abbrev inward : List ℕ → SeenItem
inward stanza = seen.In (inwards.Item 0 stanza)

-- no id is left for what is queued
spent_ids :
    report (new_world host (codes "<stream:features/>" ∷ []) (record { first = 9007199254740990; to = host; wait = 60; hold = 1; ack = false; seed = codes "seed"; keys = 0 }))
    (events.Send ∷ events.Carry 9007199254740990 ∷ events.Return 1 ∷ events.Put (codes "<a/>") ∷ events.Send ∷ events.Put (codes "<b/>") ∷ events.Send ∷ [])
    ≡ (seen.Req 9007199254740990 (body (codes " xmlns:xmpp='urn:xmpp:xbosh' rid='9007199254740990' to='example.org' xml:lang='en' wait='60' hold='1' ver='1.11' content='text/xml; charset=utf-8' xmpp:version='1.0'/>")) ∷ [])
    ∷ (seen.Ans 1 9007199254740990 (body (codes " xmlns:xmpp='urn:xmpp:xbosh' xmlns:stream='http://etherx.jabber.org/streams' sid='s1' wait='60' requests='2' inactivity='30' polling='5' maxpause='120' hold='1' ver='1.11' from='example.org' stream='t0' ack='9007199254740990' xmpp:version='1.0' xmpp:restartlogic='true'><stream:features/></body>")) ∷ [])
    ∷ (seen.Got (codes "<stream:features/>") ∷ []) ∷ []
    ∷ (seen.Req 9007199254740991 (body (codes " rid='9007199254740991' sid='s1'><a/></body>")) ∷ [])
    ∷ [] ∷ (seen.Spent ∷ []) ∷ []
unfolding worlds_compute
spent_ids = refl

abbrev login : List WorldEvent
login =
    events.Send ∷ events.Carry 1000 ∷ events.Return 1 ∷ events.Put (codes "<auth/>") ∷ events.Send ∷ events.Carry 1001 ∷ events.Give (codes "<success/>") ∷ events.Return 2
    ∷ events.Restart ∷ events.Send ∷ events.Carry 1002 ∷ events.Give (codes "<stream:features/>") ∷ events.Carry 1002 ∷ events.Return 4
    ∷ events.Put (codes "<message id='1'/>") ∷ events.Send ∷ events.Carry 1003 ∷ events.Carry 1003 ∷ events.At 5000 ∷ events.Give (codes "<message id='2'/>")
    ∷ events.At 5500 ∷ events.Put (codes "<message id='3'/>") ∷ events.Send ∷ events.At 6000 ∷ events.Carry 1004 ∷ events.Return 6 ∷ events.Carry 1003 ∷ events.Return 7
    ∷ events.Carry 1001 ∷ []

-- a login with a restart: a lost answer is given again, a copy supersedes one that waits, and an early answer is kept back;
-- then a copy that is too old ends the session
login_seen :
    report (world_of 1000) login
    ≡ (seen.Req 1000 (body (codes " xmlns:xmpp='urn:xmpp:xbosh' rid='1000' to='example.org' xml:lang='en' wait='60' hold='1' ver='1.11' content='text/xml; charset=utf-8' ack='1' xmpp:version='1.0'/>")) ∷ [])
    ∷ (seen.Ans 1 1000 (body (codes " xmlns:xmpp='urn:xmpp:xbosh' xmlns:stream='http://etherx.jabber.org/streams' sid='s1' wait='60' requests='2' inactivity='30' polling='5' maxpause='120' hold='1' ver='1.11' from='example.org' stream='t0' ack='1000' xmpp:version='1.0' xmpp:restartlogic='true'><stream:features/></body>")) ∷ [])
    ∷ (seen.Got (codes "<stream:features/>") ∷ []) ∷ []
    ∷ (seen.Req 1001 (body (codes " rid='1001' sid='s1'><auth/></body>")) ∷ [])
    ∷ (inward (codes "<auth/>") ∷ [])
    ∷ (seen.Ans 2 1001 (carrying (codes "<success/>")) ∷ [])
    ∷ (seen.Got (codes "<success/>") ∷ []) ∷ []
    ∷ (seen.Req 1002 (body (codes " xmlns:xmpp='urn:xmpp:xbosh' rid='1002' sid='s1' xmpp:restart='true'/>")) ∷ [])
    ∷ (seen.In (inwards.Restart 0) ∷ [])
    ∷ (seen.Ans 3 1002 (carrying (codes "<stream:features/>")) ∷ [])
    ∷ (seen.Ans 4 1002 (carrying (codes "<stream:features/>")) ∷ [])
    ∷ (seen.Got (codes "<stream:features/>") ∷ []) ∷ []
    ∷ (seen.Req 1003 (body (codes " rid='1003' sid='s1'><message id='1'/></body>")) ∷ [])
    ∷ (inward (codes "<message id='1'/>") ∷ [])
    ∷ (seen.Gone 1003 ∷ []) ∷ []
    ∷ (seen.Ans 5 1003 (carrying (codes "<message id='2'/>")) ∷ []) ∷ [] ∷ []
    ∷ (seen.Req 1004 (body (codes " rid='1004' sid='s1' ack='1002'><message id='3'/></body>")) ∷ []) ∷ []
    ∷ (inward (codes "<message id='3'/>") ∷ seen.Ans 6 1004 (body (codes " report='1003' time='1000'/>")) ∷ []) ∷ []
    ∷ (seen.Ans 7 1003 (carrying (codes "<message id='2'/>")) ∷ [])
    ∷ (seen.Got (codes "<message id='2'/>") ∷ [])
    ∷ (seen.Ans 8 1001 (body (codes " type='terminate' condition='item-not-found'/>")) ∷ seen.Over (Stale 1001 1003) ∷ []) ∷ []
unfolding worlds_compute
login_seen = refl

login_sums : sums_of (after (world_of 1000) login) ≡ record { put = 3; queued = 0; inward = 3; given = 4; got = 4 }
unfolding worlds_compute
login_sums = refl

-- after the ending a copy is told so, one of the creation changes nothing, the ending is seen once, and the terminal answer
-- ends the client
after_the_end :
    report (after (world_of 1000) login)
    (events.Carry 1000 ∷ events.Carry 1004 ∷ events.Give (codes "<a/>") ∷ events.Return 8 ∷ events.Put (codes "<b/>") ∷ events.Send ∷ events.Carry 1005 ∷ events.Return 9 ∷ events.Return 10 ∷ [])
    ≡ (seen.Dup 1000 ∷ []) ∷ (seen.Ans 9 1004 (body (codes " type='terminate' condition='item-not-found'/>")) ∷ [])
    ∷ (seen.RefusedOver words.Give ∷ []) ∷ (seen.Stale 1001 ∷ []) ∷ [] ∷ (seen.Req 1005 (body (codes " rid='1005' sid='s1'><b/></body>")) ∷ [])
    ∷ (seen.Ans 10 1005 (body (codes " type='terminate' condition='item-not-found'/>")) ∷ []) ∷ (seen.Stale 1004 ∷ []) ∷ (seen.Ended (Some ItemNotFound) ∷ []) ∷ []
unfolding worlds_compute
after_the_end = refl

-- before the creation came there is no session: its copies are lost, and nothing is taken from the server
before_the_creation :
    report (world_of 5) (events.Carry 5 ∷ events.Give (codes "<a/>") ∷ events.Shut Plain ∷ events.Return 1 ∷ events.Pause 5 ∷ events.At 10 ∷ events.Stop ∷ events.Put (codes "<a/>") ∷ [])
    ≡ (seen.NoCopy ∷ []) ∷ (seen.RefusedOver words.Give ∷ []) ∷ (seen.RefusedOver words.Shut ∷ []) ∷ (seen.NoCopy ∷ []) ∷ (seen.RefusedLong ∷ []) ∷ []
    ∷ [] ∷ (seen.RefusedOver words.Put ∷ []) ∷ []
unfolding worlds_compute
before_the_creation = refl

-- a creation that names another host is refused, and the client ends; no session is opened, and its copy is refused again
abbrev other_host : PlainWorld
other_host = new_world (codes "other.example") (codes "<stream:features/>" ∷ []) (record { first = 1000; to = host; wait = 60; hold = 1; ack = true; seed = codes "seed"; keys = 0 })

abbrev host_unknown : List ℕ
host_unknown = body (codes " type='terminate' condition='host-unknown'/>")

unknown_host :
    report other_host (events.Send ∷ events.Carry 1000 ∷ events.Carry 1000 ∷ events.Give (codes "<a/>") ∷ events.Return 2 ∷ events.Put (codes "<a/>") ∷ [])
    ≡ (seen.Req 1000 (body (codes " xmlns:xmpp='urn:xmpp:xbosh' rid='1000' to='example.org' xml:lang='en' wait='60' hold='1' ver='1.11' content='text/xml; charset=utf-8' ack='1' xmpp:version='1.0'/>")) ∷ [])
    ∷ (seen.Ans 1 1000 host_unknown ∷ []) ∷ (seen.Ans 2 1000 host_unknown ∷ []) ∷ (seen.RefusedOver words.Give ∷ [])
    ∷ (seen.Ended (Some HostUnknown) ∷ []) ∷ (seen.RefusedOver words.Put ∷ []) ∷ []
unfolding worlds_compute
unknown_host = refl

-- one that names no host is improper
improper_host :
    report (new_world host (codes "<stream:features/>" ∷ []) (record { first = 7; to = []; wait = 60; hold = 1; ack = false; seed = codes "seed"; keys = 0 }))
    (events.Send ∷ events.Carry 7 ∷ events.Return 1 ∷ [])
    ≡ (seen.Req 7 (body (codes " xmlns:xmpp='urn:xmpp:xbosh' rid='7' to='' xml:lang='en' wait='60' hold='1' ver='1.11' content='text/xml; charset=utf-8' xmpp:version='1.0'/>")) ∷ [])
    ∷ (seen.Ans 1 7 (body (codes " type='terminate' condition='improper-addressing'/>")) ∷ []) ∷ (seen.Ended (Some ImproperAddressing) ∷ []) ∷ []
unfolding worlds_compute
improper_host = refl

-- a body that gives no request is refused, before the creation came and after it
no_request :
    report (record (world_of 5) { sent = (4, codes "<a/>") ∷ [] }) (events.Carry 4 ∷ events.Send ∷ events.Carry 5 ∷ events.Carry 4 ∷ events.Return 1 ∷ events.Return 2 ∷ [])
    ≡ (seen.Ans 1 4 (body (codes " type='terminate' condition='bad-request'/>")) ∷ [])
    ∷ (seen.Req 5 (body (codes " xmlns:xmpp='urn:xmpp:xbosh' rid='5' to='example.org' xml:lang='en' wait='60' hold='1' ver='1.11' content='text/xml; charset=utf-8' ack='1' xmpp:version='1.0'/>")) ∷ [])
    ∷ (seen.Ans 2 5 (body (codes " xmlns:xmpp='urn:xmpp:xbosh' xmlns:stream='http://etherx.jabber.org/streams' sid='s1' wait='60' requests='2' inactivity='30' polling='5' maxpause='120' hold='1' ver='1.11' from='example.org' stream='t0' ack='5' xmpp:version='1.0' xmpp:restartlogic='true'><stream:features/></body>")) ∷ [])
    ∷ (seen.Ans 3 4 (body (codes " type='terminate' condition='bad-request'/>")) ∷ []) ∷ [] ∷ (seen.Got (codes "<stream:features/>") ∷ []) ∷ []
unfolding worlds_compute
no_request = refl

-- the events of that login are timely but for the last, which brings a copy whose answer was taken
login_in_time : is_timely (world_of 1000) (take 28 login) ≡ true
unfolding worlds_compute
login_in_time = refl

login_late : is_timely (world_of 1000) login ≡ false
unfolding worlds_compute
login_late = refl

-- copies are timely that were never made, or have an answer that was not taken; and a copy is late whose answer was
copies_in_time : is_timely (world_of 5) (events.Carry 9 ∷ events.Send ∷ events.Carry 5 ∷ events.Carry 5 ∷ events.Return 1 ∷ events.Carry 6 ∷ []) ≡ true
unfolding worlds_compute
copies_in_time = refl

creation_late : is_timely (world_of 5) (events.Send ∷ events.Carry 5 ∷ events.Return 1 ∷ events.Carry 5 ∷ []) ≡ false
unfolding worlds_compute
creation_late = refl

-- two streams: what is put for all goes inward on each, what is put on one on that one, and what the server gives on one comes back on it;
-- one is closed by the server, and the other by the client, which ends the session
abbrev two : List WorldEvent
two =
    events.Send ∷ events.Carry 1000 ∷ events.Return 1 ∷ events.Add (codes "other.org") ∷ events.Send ∷ events.Carry 1001 ∷ events.Return 2
    ∷ events.Put (codes "<a/>") ∷ events.PutOn 1 (codes "<b/>") ∷ events.PutOn 2 (codes "<c/>") ∷ events.Send ∷ events.Carry 1002 ∷ events.GiveOn 1 (codes "<x/>") ∷ events.Return 3
    ∷ events.Send ∷ events.Carry 1003 ∷ events.ShutOn 1 RemoteConnectionFailed ∷ events.Return 4 ∷ events.GiveOn 1 (codes "<y/>") ∷ events.Give (codes "<z/>")
    ∷ events.StopOn 0 ∷ events.StopOn 0 ∷ events.Send ∷ events.Carry 1004 ∷ events.Return 5 ∷ events.StopOn 1 ∷ events.Put (codes "<d/>") ∷ []

two_seen :
    report (world_of 1000) two
    ≡ (seen.Req 1000 (body (codes " xmlns:xmpp='urn:xmpp:xbosh' rid='1000' to='example.org' xml:lang='en' wait='60' hold='1' ver='1.11' content='text/xml; charset=utf-8' ack='1' xmpp:version='1.0'/>")) ∷ [])
    ∷ (seen.Ans 1 1000 (body (codes " xmlns:xmpp='urn:xmpp:xbosh' xmlns:stream='http://etherx.jabber.org/streams' sid='s1' wait='60' requests='2' inactivity='30' polling='5' maxpause='120' hold='1' ver='1.11' from='example.org' stream='t0' ack='1000' xmpp:version='1.0' xmpp:restartlogic='true'><stream:features/></body>")) ∷ [])
    ∷ (seen.Got (codes "<stream:features/>") ∷ []) ∷ []
    ∷ (seen.Req 1001 (body (codes " rid='1001' sid='s1' to='other.org'/>")) ∷ [])
    ∷ (seen.In (inwards.Open 1 (codes "other.org")) ∷ seen.Ans 2 1001 (body (codes " stream='t1'/>")) ∷ []) ∷ []
    ∷ [] ∷ [] ∷ (seen.RefusedNone words.PutOn ∷ [])
    ∷ (seen.Req 1002 (body (codes " rid='1002' sid='s1'><a/></body>")) ∷ [])
    ∷ (seen.In (inwards.Item 0 (codes "<a/>")) ∷ seen.In (inwards.Item 1 (codes "<a/>")) ∷ [])
    ∷ (seen.Ans 3 1002 (body (codes " xmlns:stream='http://etherx.jabber.org/streams' stream='t1'><x/></body>")) ∷ [])
    ∷ (seen.GotOn 1 (codes "<x/>") ∷ [])
    ∷ (seen.Req 1003 (body (codes " rid='1003' sid='s1' stream='t1'><b/></body>")) ∷ [])
    ∷ (seen.In (inwards.Item 1 (codes "<b/>")) ∷ [])
    ∷ (seen.Ans 4 1003 (body (codes " type='terminate' condition='remote-connection-failed' stream='t1'/>")) ∷ []) ∷ []
    ∷ (seen.RefusedOver words.Give ∷ []) ∷ []
    ∷ [] ∷ (seen.RefusedNone words.StopOn ∷ [])
    ∷ (seen.Req 1004 (body (codes " rid='1004' sid='s1' stream='t0' type='terminate'/>")) ∷ [])
    ∷ (seen.In (inwards.Close 0) ∷ seen.Ans 5 1004 (body (codes " type='terminate'/>")) ∷ seen.Over (Terminated 1004) ∷ [])
    ∷ (seen.Ended None ∷ []) ∷ (seen.RefusedOver words.StopOn ∷ []) ∷ (seen.RefusedOver words.Put ∷ []) ∷ []
unfolding worlds_compute
two_seen = refl

-- by stream: what the client made, what went inward of that, what the server gave, and what was handed out of that
two_streams :
    (was_made (after (world_of 1000) two) 1 ≡ inwards.Item 1 (codes "<a/>") ∷ inwards.Item 1 (codes "<b/>") ∷ [])
    × (content_on 1 (went_inward (after (world_of 1000) two)) ≡ inwards.Item 1 (codes "<a/>") ∷ inwards.Item 1 (codes "<b/>") ∷ [])
    × (was_made (after (world_of 1000) two) 0 ≡ inwards.Item 0 (codes "<a/>") ∷ [])
    × (was_given (after (world_of 1000) two) 1 ≡ codes "<x/>" ∷ [])
    × (lying_on 1 (was_handed (after (world_of 1000) two).client) ≡ codes "<x/>" ∷ [])
    × (lying_on 0 (was_handed (after (world_of 1000) two).client) ≡ codes "<stream:features/>" ∷ [])
unfolding worlds_compute
two_streams = (refl, refl, refl, refl, refl, refl)
