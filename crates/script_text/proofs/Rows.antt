-- The definitions compute: scripts and the reports that they must give.
use Rattle.std.proofs.Common.{◌≡◌, refl}
use Rattle.std.specs.Prelude.{codes, List, ℕ, ⊤}
use Rattle.body_cutter.proofs.Rows.{cuts_compute}
use Rattle.session_attrs.specs.Attributes.{is_named, value_of}
use Rattle.session_attrs.specs.Forms.{is_httpbind, number_of, pause_of, version_of, wish_of, ack_of, terminate_of, flag_of}
use Rattle.session_attrs.specs.Reading.{rid_in, creation_in, asked_in, request_with, request_of}
use Rattle.session_core.proofs.RowTools.{bodies_compute, keys_compute}
use Rattle.session_attrs.specs.Serving.{is_host_name, may_greet}
use Rattle.script_text.specs.Line.{moment_of, closing_of, later_line, line_of}
use Rattle.script_text.specs.Manager.{sid_of}
use Rattle.script_text.specs.Report.{line_text, ending_text, report_text}
use Rattle.script_text.specs.Script.{creation_text, request_head, drive_of}
use Rattle.script_text.specs.Stanza.{row_of}

-- what a row unfolds: the reading of bodies, the meaning of attributes, the texts of answers, lines and reports
unfoldable pub scripts_compute : ⊤
unfolding cuts_compute bodies_compute keys_compute is_named value_of is_httpbind number_of pause_of version_of wish_of ack_of terminate_of flag_of rid_in creation_in asked_in request_with request_of may_greet moment_of closing_of later_line line_of sid_of is_host_name line_text ending_text creation_text request_head row_of
scripts_compute = tt

-- the bytes of a script's report
abbrev report_of : List ℕ → List ℕ
report_of script = report_text (drive_of script).report

-- an empty script ends before its end
empty : report_of (codes "") ≡ codes "bad 1 end\n"
unfolding scripts_compute
empty = refl

-- so does one without its last line
no_end : report_of (codes "open 1000\n") ≡ codes "bad 2 end\n"
unfolding scripts_compute
no_end = refl

-- a session is opened once
opened_twice : report_of (codes "open 5\nopen 5\nend\n") ≡ codes "bad 2 grammar\n"
unfolding scripts_compute
opened_twice = refl

-- hosts alone
hosts_alone : report_of (codes "host h\nend") ≡ codes "done 2\n"
unfolding scripts_compute
hosts_alone = refl

-- moments don't go back
back_in_time : report_of (codes "at 10\nat 9\n") ≡ codes "bad 2 time\n"
unfolding scripts_compute
back_in_time = refl

-- no creation was given this session
no_session : report_of (codes "shut s1 plain\n") ≡ codes "bad 1 session\n"
unfolding scripts_compute
no_session = refl

-- nothing waits on this connection
nothing_waits : report_of (codes "close 1\n") ≡ codes "bad 1 connection\n"
unfolding scripts_compute
nothing_waits = refl

-- what goes inward is in the order of ids, and once
out_of_order : report_of (codes "open 1000\nshort 1001 <message/>\nshort 1003 <presence/>\nshort 1002 <iq/>\nshort 1002 <message/>\nend\n") ≡ codes "in s1 0 <message/>\nin s1 0 <iq/>\nin s1 0 <presence/>\ndone 6\n"
unfolding scripts_compute
out_of_order = refl

-- an id above the window ends the session
above : report_of (codes "open 1000\nshort 1003 <a/>\nshort 1001 <b/>\nend\n") ≡ codes "over s1 item-not-found above 1003 1000 2\ndone 4\n"
unfolding scripts_compute
above = refl

-- so does one whose answer is no longer kept
stale : report_of (codes "open 5\nshort 6 <a/>\nshort 6 <b/>\nshort 7 <c/>\nshort 8 <d/>\nshort 9 <e/>\nshort 10 <f/>\nshort 6 <a/>\nend\n") ≡ codes "in s1 0 <a/>\nin s1 0 <c/>\nin s1 0 <d/>\nin s1 0 <e/>\nin s1 0 <f/>\nover s1 item-not-found stale 6 7\ndone 9\n"
unfolding scripts_compute
stale = refl

-- a creation is answered
creation : report_of (codes "host example.org <stream:features/>\npost 1 <body rid='1000' to='example.org' wait='60' hold='1' ver='1.6' xmlns='http://jabber.org/protocol/httpbind'/>\nend\n") ≡ codes "out 1 <body xmlns='http://jabber.org/protocol/httpbind' xmlns:xmpp='urn:xmpp:xbosh' xmlns:stream='http://etherx.jabber.org/streams' sid='s1' wait='60' requests='2' inactivity='30' polling='5' maxpause='120' hold='1' ver='1.6' from='example.org' stream='t0' ack='1000' xmpp:version='1.0' xmpp:restartlogic='true'><stream:features/></body>\ndone 3\n"
unfolding scripts_compute
creation = refl

-- a request waits until the server gives something
held : report_of (codes "host example.org <stream:features/>\npost 1 <body rid='1000' to='example.org' wait='60' hold='1' ver='1.6' xmlns='http://jabber.org/protocol/httpbind'/>\npost 2 <body rid='1001' sid='s1' xmlns='http://jabber.org/protocol/httpbind'><message/></body>\nback s1 <iq/>\nend\n") ≡ codes "out 1 <body xmlns='http://jabber.org/protocol/httpbind' xmlns:xmpp='urn:xmpp:xbosh' xmlns:stream='http://etherx.jabber.org/streams' sid='s1' wait='60' requests='2' inactivity='30' polling='5' maxpause='120' hold='1' ver='1.6' from='example.org' stream='t0' ack='1000' xmpp:version='1.0' xmpp:restartlogic='true'><stream:features/></body>\nin s1 0 <message/>\nout 2 <body xmlns='http://jabber.org/protocol/httpbind' xmlns:stream='http://etherx.jabber.org/streams'><iq/></body>\ndone 5\n"
unfolding scripts_compute
held = refl

-- and goes on where the gap before a request is filled
in_their_order : report_of (codes "host example.org <stream:features/>\npost 1 <body rid='1000' to='example.org' wait='60' hold='1' ver='1.6' xmlns='http://jabber.org/protocol/httpbind'/>\npost 2 <body rid='1002' sid='s1' xmlns='http://jabber.org/protocol/httpbind'><presence/></body>\npost 3 <body rid='1001' sid='s1' xmlns='http://jabber.org/protocol/httpbind'><message/></body>\nend\n") ≡ codes "out 1 <body xmlns='http://jabber.org/protocol/httpbind' xmlns:xmpp='urn:xmpp:xbosh' xmlns:stream='http://etherx.jabber.org/streams' sid='s1' wait='60' requests='2' inactivity='30' polling='5' maxpause='120' hold='1' ver='1.6' from='example.org' stream='t0' ack='1000' xmpp:version='1.0' xmpp:restartlogic='true'><stream:features/></body>\nin s1 0 <message/>\nin s1 0 <presence/>\nout 3 <body xmlns='http://jabber.org/protocol/httpbind' ack='1002'/>\ndone 5\n"
unfolding scripts_compute
in_their_order = refl

-- a request waits for as long as was agreed
waited : report_of (codes "host example.org <stream:features/>\npost 1 <body rid='1000' to='example.org' wait='60' hold='1' ver='1.6' xmlns='http://jabber.org/protocol/httpbind'/>\nat 1000\npost 2 <body rid='1001' sid='s1' xmlns='http://jabber.org/protocol/httpbind'/>\nat 60999\nat 61000\nend\n") ≡ codes "out 1 <body xmlns='http://jabber.org/protocol/httpbind' xmlns:xmpp='urn:xmpp:xbosh' xmlns:stream='http://etherx.jabber.org/streams' sid='s1' wait='60' requests='2' inactivity='30' polling='5' maxpause='120' hold='1' ver='1.6' from='example.org' stream='t0' ack='1000' xmpp:version='1.0' xmpp:restartlogic='true'><stream:features/></body>\nout 2 <body xmlns='http://jabber.org/protocol/httpbind'/>\ndone 7\n"
unfolding scripts_compute
waited = refl

-- a repeat gets the same bytes again
repeated : report_of (codes "host example.org <stream:features/>\npost 1 <body rid='1000' to='example.org' wait='60' hold='1' ver='1.6' xmlns='http://jabber.org/protocol/httpbind'/>\npost 2 <body rid='1001' sid='s1' xmlns='http://jabber.org/protocol/httpbind'><message/></body>\nback s1 <iq/>\nback s1 <presence/>\npost 3 <body rid='1001' sid='s1' xmlns='http://jabber.org/protocol/httpbind'><message/></body>\npost 4 <body rid='1002' sid='s1' xmlns='http://jabber.org/protocol/httpbind'><message id='2'/></body>\nend\n") ≡ codes "out 1 <body xmlns='http://jabber.org/protocol/httpbind' xmlns:xmpp='urn:xmpp:xbosh' xmlns:stream='http://etherx.jabber.org/streams' sid='s1' wait='60' requests='2' inactivity='30' polling='5' maxpause='120' hold='1' ver='1.6' from='example.org' stream='t0' ack='1000' xmpp:version='1.0' xmpp:restartlogic='true'><stream:features/></body>\nin s1 0 <message/>\nout 2 <body xmlns='http://jabber.org/protocol/httpbind' xmlns:stream='http://etherx.jabber.org/streams'><iq/></body>\nout 3 <body xmlns='http://jabber.org/protocol/httpbind' xmlns:stream='http://etherx.jabber.org/streams'><iq/></body>\nin s1 0 <message id='2'/>\nout 4 <body xmlns='http://jabber.org/protocol/httpbind' xmlns:stream='http://etherx.jabber.org/streams'><presence/></body>\ndone 8\n"
unfolding scripts_compute
repeated = refl

-- a copy takes the place of a request that waits
superseded : report_of (codes "host example.org <stream:features/>\npost 1 <body rid='1000' to='example.org' wait='60' hold='1' ver='1.6' xmlns='http://jabber.org/protocol/httpbind'/>\npost 2 <body rid='1001' sid='s1' xmlns='http://jabber.org/protocol/httpbind'><message/></body>\npost 3 <body rid='1001' sid='s1' xmlns='http://jabber.org/protocol/httpbind'><presence/></body>\nback s1 <iq/>\nend\n") ≡ codes "out 1 <body xmlns='http://jabber.org/protocol/httpbind' xmlns:xmpp='urn:xmpp:xbosh' xmlns:stream='http://etherx.jabber.org/streams' sid='s1' wait='60' requests='2' inactivity='30' polling='5' maxpause='120' hold='1' ver='1.6' from='example.org' stream='t0' ack='1000' xmpp:version='1.0' xmpp:restartlogic='true'><stream:features/></body>\nin s1 0 <message/>\ngone 2\nout 3 <body xmlns='http://jabber.org/protocol/httpbind' xmlns:stream='http://etherx.jabber.org/streams'><iq/></body>\ndone 6\n"
unfolding scripts_compute
superseded = refl

-- an answer that is no longer kept ends the session
stale_body : report_of (codes "host example.org <stream:features/>\npost 1 <body rid='1000' to='example.org' wait='60' hold='1' ver='1.6' xmlns='http://jabber.org/protocol/httpbind'/>\npost 2 <body rid='1001' sid='s1' xmlns='http://jabber.org/protocol/httpbind'><a/></body>\npost 3 <body rid='1002' sid='s1' xmlns='http://jabber.org/protocol/httpbind'><b/></body>\npost 4 <body rid='1003' sid='s1' xmlns='http://jabber.org/protocol/httpbind'><c/></body>\npost 5 <body rid='1004' sid='s1' xmlns='http://jabber.org/protocol/httpbind'><d/></body>\npost 6 <body rid='1005' sid='s1' xmlns='http://jabber.org/protocol/httpbind'><e/></body>\npost 7 <body rid='1001' sid='s1' xmlns='http://jabber.org/protocol/httpbind'><a/></body>\nend\n") ≡ codes "out 1 <body xmlns='http://jabber.org/protocol/httpbind' xmlns:xmpp='urn:xmpp:xbosh' xmlns:stream='http://etherx.jabber.org/streams' sid='s1' wait='60' requests='2' inactivity='30' polling='5' maxpause='120' hold='1' ver='1.6' from='example.org' stream='t0' ack='1000' xmpp:version='1.0' xmpp:restartlogic='true'><stream:features/></body>\nin s1 0 <a/>\nin s1 0 <b/>\nout 2 <body xmlns='http://jabber.org/protocol/httpbind' ack='1002'/>\nin s1 0 <c/>\nout 3 <body xmlns='http://jabber.org/protocol/httpbind' ack='1003'/>\nin s1 0 <d/>\nout 4 <body xmlns='http://jabber.org/protocol/httpbind' ack='1004'/>\nin s1 0 <e/>\nout 5 <body xmlns='http://jabber.org/protocol/httpbind' ack='1005'/>\nout 7 <body xmlns='http://jabber.org/protocol/httpbind' type='terminate' condition='item-not-found'/>\nout 6 <body xmlns='http://jabber.org/protocol/httpbind' type='terminate' condition='other-request'/>\nover s1 item-not-found stale 1001 1002\ndone 9\n"
unfolding scripts_compute
stale_body = refl

-- so does an id above the window
above_body : report_of (codes "host example.org <stream:features/>\npost 1 <body rid='1000' to='example.org' wait='60' hold='1' ver='1.6' xmlns='http://jabber.org/protocol/httpbind'/>\npost 2 <body rid='1001' sid='s1' xmlns='http://jabber.org/protocol/httpbind'><a/></body>\npost 3 <body rid='1004' sid='s1' xmlns='http://jabber.org/protocol/httpbind'><b/></body>\nend\n") ≡ codes "out 1 <body xmlns='http://jabber.org/protocol/httpbind' xmlns:xmpp='urn:xmpp:xbosh' xmlns:stream='http://etherx.jabber.org/streams' sid='s1' wait='60' requests='2' inactivity='30' polling='5' maxpause='120' hold='1' ver='1.6' from='example.org' stream='t0' ack='1000' xmpp:version='1.0' xmpp:restartlogic='true'><stream:features/></body>\nin s1 0 <a/>\nout 3 <body xmlns='http://jabber.org/protocol/httpbind' type='terminate' condition='item-not-found'/>\nout 2 <body xmlns='http://jabber.org/protocol/httpbind' type='terminate' condition='other-request'/>\nover s1 item-not-found above 1004 1001 2\ndone 5\n"
unfolding scripts_compute
above_body = refl

-- a pause may come before the requests that it follows
pause_ahead : report_of (codes "host example.org <stream:features/>\npost 1 <body rid='1000' to='example.org' wait='60' hold='1' ver='1.6' xmlns='http://jabber.org/protocol/httpbind'/>\npost 2 <body rid='1001' sid='s1' xmlns='http://jabber.org/protocol/httpbind'><a/></body>\npost 3 <body rid='1004' sid='s1' pause='60' xmlns='http://jabber.org/protocol/httpbind'/>\npost 4 <body rid='1002' sid='s1' xmlns='http://jabber.org/protocol/httpbind'><b/></body>\npost 5 <body rid='1003' sid='s1' xmlns='http://jabber.org/protocol/httpbind'><c/></body>\nend\n") ≡ codes "out 1 <body xmlns='http://jabber.org/protocol/httpbind' xmlns:xmpp='urn:xmpp:xbosh' xmlns:stream='http://etherx.jabber.org/streams' sid='s1' wait='60' requests='2' inactivity='30' polling='5' maxpause='120' hold='1' ver='1.6' from='example.org' stream='t0' ack='1000' xmpp:version='1.0' xmpp:restartlogic='true'><stream:features/></body>\nin s1 0 <a/>\nin s1 0 <b/>\nout 2 <body xmlns='http://jabber.org/protocol/httpbind' ack='1002'/>\nin s1 0 <c/>\nout 5 <body xmlns='http://jabber.org/protocol/httpbind' ack='1004'/>\nout 3 <body xmlns='http://jabber.org/protocol/httpbind'/>\nout 4 <body xmlns='http://jabber.org/protocol/httpbind' ack='1004'/>\ndone 7\n"
unfolding scripts_compute
pause_ahead = refl

-- the key that is next in its order
key : report_of (codes "host example.org <stream:features/>\npost 1 <body rid='1000' to='example.org' wait='60' hold='1' ver='1.6' newkey='a9993e364706816aba3e25717850c26c9cd0d89d' xmlns='http://jabber.org/protocol/httpbind'/>\npost 2 <body rid='1001' sid='s1' key='abc' xmlns='http://jabber.org/protocol/httpbind'><a/></body>\nend\n") ≡ codes "out 1 <body xmlns='http://jabber.org/protocol/httpbind' xmlns:xmpp='urn:xmpp:xbosh' xmlns:stream='http://etherx.jabber.org/streams' sid='s1' wait='60' requests='2' inactivity='30' polling='5' maxpause='120' hold='1' ver='1.6' from='example.org' stream='t0' ack='1000' xmpp:version='1.0' xmpp:restartlogic='true'><stream:features/></body>\nin s1 0 <a/>\ndone 4\n"
unfolding scripts_compute
key = refl

-- and another
wrong_key : report_of (codes "host example.org <stream:features/>\npost 1 <body rid='1000' to='example.org' wait='60' hold='1' ver='1.6' newkey='a9993e364706816aba3e25717850c26c9cd0d89d' xmlns='http://jabber.org/protocol/httpbind'/>\npost 2 <body rid='1001' sid='s1' key='abd' xmlns='http://jabber.org/protocol/httpbind'><a/></body>\nend\n") ≡ codes "out 1 <body xmlns='http://jabber.org/protocol/httpbind' xmlns:xmpp='urn:xmpp:xbosh' xmlns:stream='http://etherx.jabber.org/streams' sid='s1' wait='60' requests='2' inactivity='30' polling='5' maxpause='120' hold='1' ver='1.6' from='example.org' stream='t0' ack='1000' xmpp:version='1.0' xmpp:restartlogic='true'><stream:features/></body>\nout 2 <body xmlns='http://jabber.org/protocol/httpbind' type='terminate' condition='item-not-found'/>\nover s1 item-not-found key 1001\ndone 4\n"
unfolding scripts_compute
wrong_key = refl

-- the answer for a connection that broke is lost, and kept
lost : report_of (codes "host example.org <stream:features/>\npost 1 <body rid='1000' to='example.org' wait='60' hold='1' ver='1.6' xmlns='http://jabber.org/protocol/httpbind'/>\npost 2 <body rid='1001' sid='s1' xmlns='http://jabber.org/protocol/httpbind'><a/></body>\nclose 2\nback s1 <iq/>\npost 3 <body rid='1001' sid='s1' xmlns='http://jabber.org/protocol/httpbind'><a/></body>\nend\n") ≡ codes "out 1 <body xmlns='http://jabber.org/protocol/httpbind' xmlns:xmpp='urn:xmpp:xbosh' xmlns:stream='http://etherx.jabber.org/streams' sid='s1' wait='60' requests='2' inactivity='30' polling='5' maxpause='120' hold='1' ver='1.6' from='example.org' stream='t0' ack='1000' xmpp:version='1.0' xmpp:restartlogic='true'><stream:features/></body>\nin s1 0 <a/>\nlost 2\nout 3 <body xmlns='http://jabber.org/protocol/httpbind' xmlns:stream='http://etherx.jabber.org/streams'><iq/></body>\ndone 7\n"
unfolding scripts_compute
lost = refl

-- a session in a pause may be silent
paused : report_of (codes "host example.org <stream:features/>\npost 1 <body rid='1000' to='example.org' wait='60' hold='1' ver='1.6' xmlns='http://jabber.org/protocol/httpbind'/>\npost 2 <body rid='1001' sid='s1' xmlns='http://jabber.org/protocol/httpbind'><a/></body>\npost 3 <body rid='1002' sid='s1' pause='120' xmlns='http://jabber.org/protocol/httpbind'/>\nback s1 <iq/>\nat 119000\npost 4 <body rid='1003' sid='s1' xmlns='http://jabber.org/protocol/httpbind'/>\nend\n") ≡ codes "out 1 <body xmlns='http://jabber.org/protocol/httpbind' xmlns:xmpp='urn:xmpp:xbosh' xmlns:stream='http://etherx.jabber.org/streams' sid='s1' wait='60' requests='2' inactivity='30' polling='5' maxpause='120' hold='1' ver='1.6' from='example.org' stream='t0' ack='1000' xmpp:version='1.0' xmpp:restartlogic='true'><stream:features/></body>\nin s1 0 <a/>\nout 3 <body xmlns='http://jabber.org/protocol/httpbind'/>\nout 2 <body xmlns='http://jabber.org/protocol/httpbind' ack='1002'/>\nout 4 <body xmlns='http://jabber.org/protocol/httpbind' xmlns:stream='http://etherx.jabber.org/streams'><iq/></body>\ndone 8\n"
unfolding scripts_compute
paused = refl

-- and for no longer
silent : report_of (codes "host example.org <stream:features/>\npost 1 <body rid='1000' to='example.org' wait='60' hold='1' ver='1.6' xmlns='http://jabber.org/protocol/httpbind'/>\npost 2 <body rid='1001' sid='s1' xmlns='http://jabber.org/protocol/httpbind'><a/></body>\npost 3 <body rid='1002' sid='s1' pause='120' xmlns='http://jabber.org/protocol/httpbind'/>\nback s1 <iq/>\nat 120000\nat 120001\npost 4 <body rid='1003' sid='s1' xmlns='http://jabber.org/protocol/httpbind'/>\nend\n") ≡ codes "out 1 <body xmlns='http://jabber.org/protocol/httpbind' xmlns:xmpp='urn:xmpp:xbosh' xmlns:stream='http://etherx.jabber.org/streams' sid='s1' wait='60' requests='2' inactivity='30' polling='5' maxpause='120' hold='1' ver='1.6' from='example.org' stream='t0' ack='1000' xmpp:version='1.0' xmpp:restartlogic='true'><stream:features/></body>\nin s1 0 <a/>\nout 3 <body xmlns='http://jabber.org/protocol/httpbind'/>\nout 2 <body xmlns='http://jabber.org/protocol/httpbind' ack='1002'/>\nover s1 silent 0 120001\nout 4 <body xmlns='http://jabber.org/protocol/httpbind' type='terminate' condition='item-not-found'/>\ndone 9\n"
unfolding scripts_compute
silent = refl

-- a pause that is longer than was agreed
long_pause : report_of (codes "host example.org <stream:features/>\npost 1 <body rid='1000' to='example.org' wait='60' hold='1' ver='1.6' xmlns='http://jabber.org/protocol/httpbind'/>\npost 2 <body rid='1001' sid='s1' xmlns='http://jabber.org/protocol/httpbind'><a/></body>\npost 3 <body rid='1002' sid='s1' pause='121' xmlns='http://jabber.org/protocol/httpbind'/>\nend\n") ≡ codes "out 1 <body xmlns='http://jabber.org/protocol/httpbind' xmlns:xmpp='urn:xmpp:xbosh' xmlns:stream='http://etherx.jabber.org/streams' sid='s1' wait='60' requests='2' inactivity='30' polling='5' maxpause='120' hold='1' ver='1.6' from='example.org' stream='t0' ack='1000' xmpp:version='1.0' xmpp:restartlogic='true'><stream:features/></body>\nin s1 0 <a/>\nout 3 <body xmlns='http://jabber.org/protocol/httpbind' type='terminate' condition='policy-violation'/>\nout 2 <body xmlns='http://jabber.org/protocol/httpbind' type='terminate' condition='other-request'/>\nover s1 policy-violation pause 1002 121 120\ndone 5\n"
unfolding scripts_compute
long_pause = refl

-- empty requests too often
often : report_of (codes "host example.org <stream:features/>\npost 1 <body rid='1000' to='example.org' wait='60' hold='1' ver='1.6' xmlns='http://jabber.org/protocol/httpbind'/>\nat 1000\npost 2 <body rid='1001' sid='s1' xmlns='http://jabber.org/protocol/httpbind'><a/></body>\nat 5999\npost 3 <body rid='1002' sid='s1' xmlns='http://jabber.org/protocol/httpbind'/>\nend\n") ≡ codes "out 1 <body xmlns='http://jabber.org/protocol/httpbind' xmlns:xmpp='urn:xmpp:xbosh' xmlns:stream='http://etherx.jabber.org/streams' sid='s1' wait='60' requests='2' inactivity='30' polling='5' maxpause='120' hold='1' ver='1.6' from='example.org' stream='t0' ack='1000' xmpp:version='1.0' xmpp:restartlogic='true'><stream:features/></body>\nin s1 0 <a/>\nout 3 <body xmlns='http://jabber.org/protocol/httpbind' type='terminate' condition='policy-violation'/>\nout 2 <body xmlns='http://jabber.org/protocol/httpbind' type='terminate' condition='other-request'/>\nover s1 policy-violation often 1002 4999\ndone 7\n"
unfolding scripts_compute
often = refl

-- and at the polling interval itself
in_time : report_of (codes "host example.org <stream:features/>\npost 1 <body rid='1000' to='example.org' wait='60' hold='1' ver='1.6' xmlns='http://jabber.org/protocol/httpbind'/>\nat 1000\npost 2 <body rid='1001' sid='s1' xmlns='http://jabber.org/protocol/httpbind'><a/></body>\nat 6000\npost 3 <body rid='1002' sid='s1' xmlns='http://jabber.org/protocol/httpbind'/>\nend\n") ≡ codes "out 1 <body xmlns='http://jabber.org/protocol/httpbind' xmlns:xmpp='urn:xmpp:xbosh' xmlns:stream='http://etherx.jabber.org/streams' sid='s1' wait='60' requests='2' inactivity='30' polling='5' maxpause='120' hold='1' ver='1.6' from='example.org' stream='t0' ack='1000' xmpp:version='1.0' xmpp:restartlogic='true'><stream:features/></body>\nin s1 0 <a/>\nout 2 <body xmlns='http://jabber.org/protocol/httpbind' ack='1002'/>\ndone 7\n"
unfolding scripts_compute
in_time = refl

-- a session that polls, too often
polled_often : report_of (codes "host example.org <stream:features/>\npost 1 <body rid='1000' to='example.org' wait='60' hold='0' ver='1.6' xmlns='http://jabber.org/protocol/httpbind'/>\nat 10000\npost 2 <body rid='1001' sid='s1' xmlns='http://jabber.org/protocol/httpbind'/>\nat 13000\npost 3 <body rid='1002' sid='s1' xmlns='http://jabber.org/protocol/httpbind'/>\nend\n") ≡ codes "out 1 <body xmlns='http://jabber.org/protocol/httpbind' xmlns:xmpp='urn:xmpp:xbosh' xmlns:stream='http://etherx.jabber.org/streams' sid='s1' wait='0' requests='1' inactivity='75' polling='5' maxpause='120' hold='0' ver='1.6' from='example.org' stream='t0' ack='1000' xmpp:version='1.0' xmpp:restartlogic='true'><stream:features/></body>\nout 2 <body xmlns='http://jabber.org/protocol/httpbind'/>\nout 3 <body xmlns='http://jabber.org/protocol/httpbind' type='terminate' condition='policy-violation'/>\nover s1 policy-violation often 1002 3000\ndone 7\n"
unfolding scripts_compute
polled_often = refl

-- and in time
polled : report_of (codes "host example.org <stream:features/>\npost 1 <body rid='1000' to='example.org' wait='60' hold='0' ver='1.6' xmlns='http://jabber.org/protocol/httpbind'/>\nat 10000\npost 2 <body rid='1001' sid='s1' xmlns='http://jabber.org/protocol/httpbind'/>\nat 15000\npost 3 <body rid='1002' sid='s1' xmlns='http://jabber.org/protocol/httpbind'/>\nend\n") ≡ codes "out 1 <body xmlns='http://jabber.org/protocol/httpbind' xmlns:xmpp='urn:xmpp:xbosh' xmlns:stream='http://etherx.jabber.org/streams' sid='s1' wait='0' requests='1' inactivity='75' polling='5' maxpause='120' hold='0' ver='1.6' from='example.org' stream='t0' ack='1000' xmpp:version='1.0' xmpp:restartlogic='true'><stream:features/></body>\nout 2 <body xmlns='http://jabber.org/protocol/httpbind'/>\nout 3 <body xmlns='http://jabber.org/protocol/httpbind'/>\ndone 7\n"
unfolding scripts_compute
polled = refl

-- a terminate goes inward, is answered, and ends all
terminated : report_of (codes "host example.org <stream:features/>\npost 1 <body rid='1000' to='example.org' wait='60' hold='1' ver='1.6' xmlns='http://jabber.org/protocol/httpbind'/>\npost 2 <body rid='1001' sid='s1' xmlns='http://jabber.org/protocol/httpbind'><a/></body>\npost 3 <body rid='1002' sid='s1' type='terminate' xmlns='http://jabber.org/protocol/httpbind'><presence type='unavailable'/></body>\nback s1 <iq/>\nend\n") ≡ codes "out 1 <body xmlns='http://jabber.org/protocol/httpbind' xmlns:xmpp='urn:xmpp:xbosh' xmlns:stream='http://etherx.jabber.org/streams' sid='s1' wait='60' requests='2' inactivity='30' polling='5' maxpause='120' hold='1' ver='1.6' from='example.org' stream='t0' ack='1000' xmpp:version='1.0' xmpp:restartlogic='true'><stream:features/></body>\nin s1 0 <a/>\nin s1 0 <presence type='unavailable'/>\nout 3 <body xmlns='http://jabber.org/protocol/httpbind'/>\nout 2 <body xmlns='http://jabber.org/protocol/httpbind' type='terminate'/>\nover s1 terminate 1002\nrefused back s1 over\ndone 6\n"
unfolding scripts_compute
terminated = refl

-- a body that is no request touches no session, and the server closes
bad_bodies : report_of (codes "host example.org <stream:features/>\npost 1 <body rid='1000' to='example.org' wait='60' hold='1' ver='1.6' xmlns='http://jabber.org/protocol/httpbind'/>\npost 2 <body rid='1001' sid='s1' xmlns='http://jabber.org/protocol/httpbind'><a><!--x--></a></body>\npost 3 <body rid='1001' sid='s1' xmlns='http://jabber.org/protocol/httpbind'><a/></body>\nshut s1 remote-stream-error\npost 4 <body rid='5' to='other.org' xmlns='http://jabber.org/protocol/httpbind'/>\npost 5 <body rid='5' xmlns='http://jabber.org/protocol/httpbind'/>\nend\n") ≡ codes "out 1 <body xmlns='http://jabber.org/protocol/httpbind' xmlns:xmpp='urn:xmpp:xbosh' xmlns:stream='http://etherx.jabber.org/streams' sid='s1' wait='60' requests='2' inactivity='30' polling='5' maxpause='120' hold='1' ver='1.6' from='example.org' stream='t0' ack='1000' xmpp:version='1.0' xmpp:restartlogic='true'><stream:features/></body>\nout 2 <body xmlns='http://jabber.org/protocol/httpbind' type='terminate' condition='bad-request'/>\nin s1 0 <a/>\nout 3 <body xmlns='http://jabber.org/protocol/httpbind' type='terminate' condition='remote-stream-error'/>\nover s1 remote-stream-error 1001\nout 4 <body xmlns='http://jabber.org/protocol/httpbind' type='terminate' condition='host-unknown'/>\nout 5 <body xmlns='http://jabber.org/protocol/httpbind' type='terminate' condition='improper-addressing'/>\ndone 8\n"
unfolding scripts_compute
bad_bodies = refl

-- a restart goes inward
restarted : report_of (codes "host example.org <stream:features/>\npost 1 <body rid='1000' to='example.org' wait='60' hold='1' ver='1.6' xmlns='http://jabber.org/protocol/httpbind'/>\npost 2 <body rid='1001' sid='s1' xmpp:restart='true' xmlns='http://jabber.org/protocol/httpbind'/>\nback s1 <stream:features/>\nend\n") ≡ codes "out 1 <body xmlns='http://jabber.org/protocol/httpbind' xmlns:xmpp='urn:xmpp:xbosh' xmlns:stream='http://etherx.jabber.org/streams' sid='s1' wait='60' requests='2' inactivity='30' polling='5' maxpause='120' hold='1' ver='1.6' from='example.org' stream='t0' ack='1000' xmpp:version='1.0' xmpp:restartlogic='true'><stream:features/></body>\nin s1 0 restart\nout 2 <body xmlns='http://jabber.org/protocol/httpbind' xmlns:stream='http://etherx.jabber.org/streams'><stream:features/></body>\ndone 5\n"
unfolding scripts_compute
restarted = refl

-- a request behind a gap is told that it counts as not received, once it has waited, and the session is silent from then on
silent_behind_a_gap : report_of (codes "host example.org <stream:features/>\npost 1 <body rid='1000' to='example.org' wait='60' hold='1' ver='1.6' xmlns='http://jabber.org/protocol/httpbind'/>\nat 20000\npost 2 <body rid='1002' sid='s1' xmlns='http://jabber.org/protocol/httpbind'><b/></body>\nat 50001\nat 79999\nat 80000\nat 110000\nat 110001\nend\n") ≡ codes "out 1 <body xmlns='http://jabber.org/protocol/httpbind' xmlns:xmpp='urn:xmpp:xbosh' xmlns:stream='http://etherx.jabber.org/streams' sid='s1' wait='60' requests='2' inactivity='30' polling='5' maxpause='120' hold='1' ver='1.6' from='example.org' stream='t0' ack='1000' xmpp:version='1.0' xmpp:restartlogic='true'><stream:features/></body>\nout 2 <body xmlns='http://jabber.org/protocol/httpbind' type='error'/>\nover s1 silent 80000 110001\ndone 10\n"
unfolding scripts_compute
silent_behind_a_gap = refl

-- sessions are numbered in the order of opening
two_sessions : report_of (codes "host example.org <stream:features/>\npost 1 <body rid='1000' to='example.org' wait='60' hold='1' ver='1.6' xmlns='http://jabber.org/protocol/httpbind'/>\npost 1 <body rid='1000' to='example.org' wait='60' hold='1' ver='1.6' xmlns='http://jabber.org/protocol/httpbind'/>\nend\n") ≡ codes "out 1 <body xmlns='http://jabber.org/protocol/httpbind' xmlns:xmpp='urn:xmpp:xbosh' xmlns:stream='http://etherx.jabber.org/streams' sid='s1' wait='60' requests='2' inactivity='30' polling='5' maxpause='120' hold='1' ver='1.6' from='example.org' stream='t0' ack='1000' xmpp:version='1.0' xmpp:restartlogic='true'><stream:features/></body>\nout 1 <body xmlns='http://jabber.org/protocol/httpbind' xmlns:xmpp='urn:xmpp:xbosh' xmlns:stream='http://etherx.jabber.org/streams' sid='s2' wait='60' requests='2' inactivity='30' polling='5' maxpause='120' hold='1' ver='1.6' from='example.org' stream='t0' ack='1000' xmpp:version='1.0' xmpp:restartlogic='true'><stream:features/></body>\ndone 4\n"
unfolding scripts_compute
two_sessions = refl
