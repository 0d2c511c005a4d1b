-- The definitions of a client compute: calls with their replies.
use Rattle.std.proofs.Common.{◌≡◌, ℕ, ◌∷◌, [], ◌++◌, List, refl, true, false}
use Rattle.std.specs.Prelude.{None, Some, codes, ⊤}
use Rattle.std.specs.Fmt.{digits}
use Rattle.body_cutter.proofs.Rows.{cuts_compute}
use Rattle.body_writer.specs.Attribute.{attribute, escaped_byte, closed_with}
use Rattle.body_writer.specs.Request.{request_text}
use Rattle.body_writer.specs.Rows.{named_rows}
use Rattle.body_writer.specs.RequestRows.{request_attributes, xmpp_rows, sid_rows, creation_rows, host_rows, number_rows, key_rows, terminate_rows, version_rows, restart_rows}
use Rattle.hex.specs.Hex.{encode_with}
use Rattle.key_sequence.specs.Chain.{hex_digest}
use Rattle.sha1.specs.Sha1.{first_words, schedule, rounds, compress, hash_after, digest_bytes, sha1}
use Rattle.stream_names.specs.Streams.{those}
use Rattle.session_attrs.specs.Attributes.{is_named, value_of}
use Rattle.session_attrs.specs.Forms.{is_httpbind, number_of}
use Rattle.bosh_types.specs.declared.condition.Condition.TheVariants.{UndefinedCondition}
use Rattle.bosh_client.specs.declared.replies.Answered.TheVariants as answerings
use Rattle.bosh_client.specs.declared.replies.Next.TheVariants.{Nothing, RidsSpent, Request}
use Rattle.bosh_client.specs.declared.replies.Queued.TheVariants.{Done, Full, NoStream, Over, TooLong}
use Rattle.bosh_client.specs.declared.replies.Why.TheVariants.{Namespace, Attribute, NoSid}
use Rattle.bosh_client.specs.declared.setup.ClientSetup.{ClientSetup}
use Rattle.bosh_client.specs.AnswerMeaning.{condition_of, type_of}
use Rattle.bosh_client.specs.AnswerReading.{answer_of, answer_with, said_in}
use Rattle.bosh_client.specs.PlainClient.{end_of}
use Rattle.bosh_client.specs.Runs.{Call, Put, Restart, Pause, Terminate, NextRequest, Answer, HandOut, Reply, ToQueue, ToNext, ToAnswer, ToHandOut, client_after, replies, PutOn, Add, CloseStream}
use Rattle.bosh_client.specs.Machine.{new_client}

unfoldable pub clients_compute : ⊤
unfolding digits cuts_compute request_text request_attributes xmpp_rows sid_rows named_rows host_rows creation_rows number_rows key_rows terminate_rows version_rows restart_rows attribute escaped_byte closed_with hex_digest encode_with first_words schedule rounds compress hash_after digest_bytes sha1 is_named value_of is_httpbind number_of type_of condition_of answer_of answer_with said_in those
clients_compute = tt

-- a client as scripts begin one: the id, the wait, the hold, acknowledgements, keys
abbrev setup_of : ℕ → ℕ → ℕ → ClientSetup
setup_of first wait keys = record { first = first; to = codes "example.org"; wait = wait; hold = 1; ack = true; seed = codes "seed"; keys = keys }

abbrev outcome : ClientSetup → List Call → List Reply
outcome setup calls = replies (new_client setup) calls

abbrev httpbind : List ℕ
httpbind = codes "xmlns='http://jabber.org/protocol/httpbind'"

-- what the manager answers a creation, with an acknowledgement
abbrev created : List ℕ
created =
    codes "<body " ++ httpbind
    ++ codes " xmlns:xmpp='urn:xmpp:xbosh' xmlns:stream='http://etherx.jabber.org/streams' sid='s1' wait='60' requests='2' inactivity='30' polling='5' maxpause='120' hold='1' ver='1.11' from='example.org' ack='1000' xmpp:version='1.0' xmpp:restartlogic='true'><stream:features/></body>"

-- an answer with one payload
abbrev carrying : List ℕ → List ℕ
carrying payload = codes "<body " ++ httpbind ++ codes " xmlns:stream='http://etherx.jabber.org/streams'>" ++ payload ++ codes "</body>"

abbrev request : ℕ → List ℕ → Reply
request rid rest = ToNext (Request rid (codes "<body " ++ httpbind ++ rest))

abbrev done : Reply
done = ToQueue Done

abbrev took : Reply
took = ToAnswer answerings.Done

abbrev got : List ℕ → Reply
got payload = ToHandOut (Some (0, payload))

-- the greatest id is used, and what is queued then stays
spent_ids :
    outcome (record { first = 9007199254740990; to = codes "example.org"; wait = 60; hold = 1; ack = false; seed = []; keys = 0 })
    (NextRequest 0 ∷ NextRequest 0 ∷ Answer 9007199254740990 created 0 ∷ HandOut ∷ HandOut ∷ Put (codes "<a/>") ∷ NextRequest 0 ∷ Put (codes "<b/>") ∷ NextRequest 0 ∷ [])
    ≡ request 9007199254740990 (codes " xmlns:xmpp='urn:xmpp:xbosh' rid='9007199254740990' to='example.org' xml:lang='en' wait='60' hold='1' ver='1.11' content='text/xml; charset=utf-8' xmpp:version='1.0'/>")
    ∷ ToNext Nothing ∷ took ∷ got (codes "<stream:features/>") ∷ ToHandOut None ∷ done
    ∷ request 9007199254740991 (codes " rid='9007199254740991' sid='s1'><a/></body>") ∷ done ∷ ToNext RidsSpent ∷ []
unfolding clients_compute
spent_ids = refl

-- a login with a restart, and an answer that comes before an earlier one: it is handed out after that, and an
-- acknowledgement names the id below the first without an answer
early_answer :
    outcome (setup_of 1000 60 0)
    (NextRequest 0 ∷ Answer 1000 created 0 ∷ HandOut ∷ Put (codes "<auth/>") ∷ NextRequest 0 ∷ Answer 1001 (carrying (codes "<success/>")) 0 ∷ HandOut
    ∷ Restart ∷ NextRequest 0 ∷ Answer 1002 (carrying (codes "<stream:features/>")) 0 ∷ HandOut
    ∷ Put (codes "<message id='1'/>") ∷ NextRequest 0 ∷ NextRequest 0 ∷ Put (codes "<message id='3'/>") ∷ NextRequest 5500
    ∷ Answer 1004 (codes "<body " ++ httpbind ++ codes " report='1003' time='1000'/>") 6000 ∷ HandOut ∷ Answer 1003 (carrying (codes "<message id='2'/>")) 6000 ∷ HandOut ∷ HandOut
    ∷ Answer 1003 (carrying (codes "<a/>")) 6000 ∷ NextRequest 6000 ∷ [])
    ≡ request 1000 (codes " xmlns:xmpp='urn:xmpp:xbosh' rid='1000' to='example.org' xml:lang='en' wait='60' hold='1' ver='1.11' content='text/xml; charset=utf-8' ack='1' xmpp:version='1.0'/>")
    ∷ took ∷ got (codes "<stream:features/>") ∷ done ∷ request 1001 (codes " rid='1001' sid='s1'><auth/></body>") ∷ took ∷ got (codes "<success/>")
    ∷ done ∷ request 1002 (codes " xmlns:xmpp='urn:xmpp:xbosh' rid='1002' sid='s1' xmpp:restart='true'/>") ∷ took ∷ got (codes "<stream:features/>")
    ∷ done ∷ request 1003 (codes " rid='1003' sid='s1'><message id='1'/></body>") ∷ ToNext Nothing ∷ done ∷ request 1004 (codes " rid='1004' sid='s1' ack='1002'><message id='3'/></body>")
    ∷ took ∷ ToHandOut None ∷ took ∷ got (codes "<message id='2'/>") ∷ ToHandOut None
    ∷ ToAnswer answerings.Stale ∷ request 1005 (codes " rid='1005' sid='s1'/>") ∷ []
unfolding clients_compute
early_answer = refl

-- each request has the next key, and the one with the last key of its sequence announces the next sequence; a polling
-- client leaves the agreed seconds after the last answer
keys_and_polling :
    outcome (setup_of 1 0 2)
    (NextRequest 0 ∷ Answer 1 created 1000 ∷ NextRequest 5999 ∷ NextRequest 6000 ∷ Answer 2 (carrying (codes "<iq/>")) 6000 ∷ Put (codes "<a/>") ∷ NextRequest 6000 ∷ [])
    ≡ request 1 (codes " xmlns:xmpp='urn:xmpp:xbosh' rid='1' to='example.org' xml:lang='en' wait='0' hold='1' ver='1.11' content='text/xml; charset=utf-8' ack='1' newkey='ec17259117e754202a5df8fd0116580ff0741835' xmpp:version='1.0'/>")
    ∷ took ∷ ToNext Nothing ∷ request 2 (codes " rid='2' sid='s1' key='acfb443ca32367b65a333af124091aaca89c4bf1' newkey='f7a8e5e8b2703f1849d8a1184a43618cca4b8329'/>")
    ∷ took ∷ done ∷ request 3 (codes " rid='3' sid='s1' key='1f748191b13a43ca7cccb140635dd9f91bee94a9' newkey='2b44a7d18a559fac12c9b654f7f1af2c739bb864'><a/></body>") ∷ []
unfolding clients_compute
keys_and_polling = refl

-- as many requests as agreed are open, and one more where that is a pause or a terminate; nothing is accepted after a
-- terminate, and a pause has to be agreed
wider_window :
    outcome (setup_of 1000 60 0)
    (Pause 5 ∷ NextRequest 0 ∷ Put (codes "<a/>") ∷ NextRequest 0 ∷ Answer 1000 created 0 ∷ Pause 0 ∷ Pause 121 ∷ NextRequest 0 ∷ Put (codes "<b/>") ∷ NextRequest 0
    ∷ Put (codes "<c/>") ∷ NextRequest 0 ∷ Answer 1001 (codes "<body " ++ httpbind ++ codes "/>") 0 ∷ NextRequest 0 ∷ Pause 120 ∷ NextRequest 0 ∷ Terminate ∷ Put (codes "<d/>") ∷ Terminate ∷ NextRequest 0 ∷ [])
    ≡ ToQueue TooLong ∷ request 1000 (codes " xmlns:xmpp='urn:xmpp:xbosh' rid='1000' to='example.org' xml:lang='en' wait='60' hold='1' ver='1.11' content='text/xml; charset=utf-8' ack='1' xmpp:version='1.0'/>")
    ∷ done ∷ ToNext Nothing ∷ took ∷ ToQueue TooLong ∷ ToQueue TooLong ∷ request 1001 (codes " rid='1001' sid='s1'><a/></body>") ∷ done ∷ request 1002 (codes " rid='1002' sid='s1' ack='1000'><b/></body>")
    ∷ done ∷ ToNext Nothing ∷ took ∷ request 1003 (codes " rid='1003' sid='s1' ack='1001'><c/></body>") ∷ done ∷ request 1004 (codes " rid='1004' sid='s1' ack='1001' pause='120'/>") ∷ done ∷ ToQueue Over ∷ ToQueue Over ∷ ToNext Nothing ∷ []
unfolding clients_compute
wider_window = refl

-- a terminal answer ends the client; its payloads, and those of later ids, are never handed out, and those of earlier ids are
terminal_answer :
    outcome (setup_of 1000 60 0)
    (NextRequest 0 ∷ Answer 1000 created 0 ∷ HandOut ∷ Put (codes "<a/>") ∷ NextRequest 0 ∷ Put (codes "<b/>") ∷ NextRequest 0
    ∷ Answer 1002 (codes "<body " ++ httpbind ++ codes " type='terminate' condition='item-not-found'><x/></body>") 0 ∷ HandOut ∷ Put (codes "<c/>") ∷ NextRequest 0
    ∷ Answer 1001 (carrying (codes "<iq/>")) 0 ∷ HandOut ∷ HandOut ∷ [])
    ≡ request 1000 (codes " xmlns:xmpp='urn:xmpp:xbosh' rid='1000' to='example.org' xml:lang='en' wait='60' hold='1' ver='1.11' content='text/xml; charset=utf-8' ack='1' xmpp:version='1.0'/>")
    ∷ took ∷ got (codes "<stream:features/>") ∷ done ∷ request 1001 (codes " rid='1001' sid='s1'><a/></body>") ∷ done ∷ request 1002 (codes " rid='1002' sid='s1' ack='1000'><b/></body>")
    ∷ took ∷ ToHandOut None ∷ ToQueue Over ∷ ToNext Nothing ∷ took ∷ got (codes "<iq/>") ∷ ToHandOut None ∷ []
unfolding clients_compute
terminal_answer = refl

-- an error is no answer: it asks for all requests again that have none, up to its own, and changes nothing
again_from_the_lowest :
    outcome (setup_of 1000 60 0)
    (NextRequest 0 ∷ Answer 1000 created 0 ∷ HandOut ∷ Put (codes "<a/>") ∷ NextRequest 0 ∷ Put (codes "<b/>") ∷ NextRequest 0
    ∷ Answer 1002 (codes "<body " ++ httpbind ++ codes " type='error'/>") 0 ∷ Answer 1001 (carrying (codes "<x/>")) 0
    ∷ Answer 1002 (codes "<body " ++ httpbind ++ codes " type='error'/>") 0 ∷ Answer 1002 (carrying (codes "<y/>")) 0
    ∷ Answer 1002 (codes "<body " ++ httpbind ++ codes " type='error'/>") 0 ∷ HandOut ∷ HandOut ∷ HandOut ∷ [])
    ≡ request 1000 (codes " xmlns:xmpp='urn:xmpp:xbosh' rid='1000' to='example.org' xml:lang='en' wait='60' hold='1' ver='1.11' content='text/xml; charset=utf-8' ack='1' xmpp:version='1.0'/>")
    ∷ took ∷ got (codes "<stream:features/>") ∷ done ∷ request 1001 (codes " rid='1001' sid='s1'><a/></body>") ∷ done ∷ request 1002 (codes " rid='1002' sid='s1' ack='1000'><b/></body>")
    ∷ ToAnswer (answerings.Again 1001 1002) ∷ took ∷ ToAnswer (answerings.Again 1002 1002) ∷ took
    ∷ ToAnswer answerings.Stale ∷ got (codes "<x/>") ∷ got (codes "<y/>") ∷ ToHandOut None ∷ []
unfolding clients_compute
again_from_the_lowest = refl

-- what is no answer changes nothing
no_answers :
    outcome (setup_of 1000 60 0)
    (Answer 1000 created 0 ∷ NextRequest 0 ∷ Answer 1000 (codes "<body/>") 0 ∷ Answer 1000 (codes "<body " ++ httpbind ++ codes " type='error'/>") 0 ∷ Answer 1000 (codes "<body " ++ httpbind ++ codes " sid='s1' ack='0'/>") 0
    ∷ Answer 1000 (codes "<body " ++ httpbind ++ codes " sid='s1' requests='1234567890'/>") 0 ∷ Answer 1000 (codes "<body " ++ httpbind ++ codes "/>") 0
    ∷ Answer 1000 (codes "<body " ++ httpbind ++ codes " sid='s1' requests='0' condition='none'/>") 0 ∷ Put (codes "<a/>") ∷ NextRequest 0 ∷ Put (codes "<b/>") ∷ NextRequest 0 ∷ [])
    ≡ ToAnswer answerings.Unmade
    ∷ request 1000 (codes " xmlns:xmpp='urn:xmpp:xbosh' rid='1000' to='example.org' xml:lang='en' wait='60' hold='1' ver='1.11' content='text/xml; charset=utf-8' ack='1' xmpp:version='1.0'/>")
    ∷ ToAnswer (answerings.Broken Namespace) ∷ ToAnswer (answerings.Again 1000 1000) ∷ ToAnswer (answerings.Broken Attribute) ∷ ToAnswer (answerings.Broken Attribute) ∷ ToAnswer (answerings.Broken NoSid)
    ∷ took ∷ done ∷ request 1001 (codes " rid='1001' sid='s1'><a/></body>") ∷ done ∷ ToNext Nothing ∷ []
unfolding clients_compute
no_answers = refl

-- a condition is that of the first terminal answer, and one without a name here is an undefined one
ends_undefined :
    end_of (client_after (setup_of 1000 60 0) (NextRequest 0 ∷ Answer 1000 (codes "<body " ++ httpbind ++ codes " type='terminate' condition='see-other-uri'/>") 0 ∷ []))
    ≡ Some (record { condition = Some UndefinedCondition })
unfolding clients_compute
ends_undefined = refl

-- stanzas go together, as long as nothing else stands between them
taken_together :
    outcome (setup_of 1000 60 0)
    (Put (codes "<a/>") ∷ Put (codes "<b/>") ∷ Restart ∷ Put (codes "<c/>") ∷ NextRequest 0 ∷ Answer 1000 created 0 ∷ NextRequest 0 ∷ NextRequest 0 ∷ [])
    ≡ done ∷ done ∷ done ∷ done
    ∷ request 1000 (codes " xmlns:xmpp='urn:xmpp:xbosh' rid='1000' to='example.org' xml:lang='en' wait='60' hold='1' ver='1.11' content='text/xml; charset=utf-8' ack='1' xmpp:version='1.0'/>")
    ∷ took ∷ request 1001 (codes " rid='1001' sid='s1'><a/><b/></body>") ∷ request 1002 (codes " xmlns:xmpp='urn:xmpp:xbosh' rid='1002' sid='s1' ack='1000' xmpp:restart='true'/>") ∷ []
unfolding clients_compute
taken_together = refl

-- a stream that is added has the next number; what is for one stream goes alone; payloads lie on the stream that their answer names, which
-- one of eight has to have; a terminal answer that names a stream ends nothing, and the closing of the last stream ends the session
streams_apart :
    outcome (setup_of 1000 60 0)
    (NextRequest 0 ∷ Answer 1000 created 0 ∷ HandOut ∷ PutOn 1 (codes "<a/>") ∷ Add (codes "chat.example.org") ∷ PutOn 1 (codes "<a/>") ∷ PutOn 1 (codes "<b/>") ∷ PutOn 0 (codes "<c/>") ∷ Put (codes "<d/>")
    ∷ NextRequest 0 ∷ NextRequest 0 ∷ Answer 1001 (codes "<body " ++ httpbind ++ codes " stream='t1'/>") 0 ∷ Answer 1002 (codes "<body " ++ httpbind ++ codes " stream='t1'><x/></body>") 0 ∷ HandOut
    ∷ NextRequest 0 ∷ Answer 1003 (codes "<body " ++ httpbind ++ codes " stream='t8'><y/></body>") 0 ∷ Answer 1003 (codes "<body " ++ httpbind ++ codes " type='terminate' stream='t1'/>") 0
    ∷ NextRequest 0 ∷ CloseStream 0 ∷ PutOn 0 (codes "<e/>") ∷ CloseStream 1 ∷ Put (codes "<e/>") ∷ NextRequest 0 ∷ NextRequest 0 ∷ [])
    ≡ request 1000 (codes " xmlns:xmpp='urn:xmpp:xbosh' rid='1000' to='example.org' xml:lang='en' wait='60' hold='1' ver='1.11' content='text/xml; charset=utf-8' ack='1' xmpp:version='1.0'/>")
    ∷ took ∷ got (codes "<stream:features/>") ∷ ToQueue NoStream ∷ done ∷ done ∷ done ∷ done ∷ done
    ∷ request 1001 (codes " rid='1001' sid='s1' to='chat.example.org'/>") ∷ request 1002 (codes " rid='1002' sid='s1' stream='t1' ack='1000'><a/><b/></body>") ∷ took ∷ took ∷ ToHandOut (Some (1, codes "<x/>"))
    ∷ request 1003 (codes " rid='1003' sid='s1' stream='t0'><c/></body>") ∷ ToAnswer (answerings.Broken Attribute) ∷ took
    ∷ request 1004 (codes " rid='1004' sid='s1'><d/></body>") ∷ done ∷ ToQueue NoStream ∷ done ∷ ToQueue Over
    ∷ request 1005 (codes " rid='1005' sid='s1' stream='t0' ack='1003' type='terminate'/>") ∷ request 1006 (codes " rid='1006' sid='s1' stream='t1' ack='1003' type='terminate'/>") ∷ []
unfolding clients_compute
streams_apart = refl

-- seven streams may be added
seven_added :
    outcome (setup_of 1000 60 0)
    (Add (codes "a") ∷ Add (codes "b") ∷ Add (codes "c") ∷ Add (codes "d") ∷ Add (codes "e") ∷ Add (codes "f") ∷ CloseStream 3 ∷ Add (codes "g") ∷ Add (codes "h") ∷ PutOn 7 (codes "<a/>") ∷ PutOn 3 (codes "<a/>") ∷ [])
    ≡ done ∷ done ∷ done ∷ done ∷ done ∷ done ∷ done ∷ done ∷ ToQueue Full ∷ done ∷ ToQueue NoStream ∷ []
unfolding clients_compute
seven_added = refl
