-- The definitions compute: traces and the reports that they must give.
use Rattle.std.proofs.Common.{◌≡◌, refl}
use Rattle.std.specs.Prelude.{codes, List, [], ℕ, ⊤, ◌++◌}
use Rattle.std.specs.Fmt.{digits}
use Rattle.body_cutter.proofs.Rows.{cuts_compute}
use Rattle.line_reader.specs.Lines.{lines_of}
use Rattle.session_attrs.specs.Attributes.{is_named, value_of}
use Rattle.session_attrs.specs.Forms.{is_httpbind, number_of, pause_of, version_of, wish_of, ack_of, terminate_of, flag_of}
use Rattle.session_attrs.specs.Reading.{rid_in, creation_in, asked_in, request_with, request_of}
use Rattle.trace_audit.specs.Bodies.{posted_of, reply_of}
use Rattle.trace_audit.specs.Line.{in_of, later_line, line_of}
use Rattle.trace_audit.specs.Report.{outcome_text}
use Rattle.trace_audit.specs.Rules.{broken_by}
use Rattle.trace_audit.proofs.OutcomeLemmas.{judge_from}

-- what a row unfolds: the reading of bodies, the meaning of attributes, lines, rules and reports
unfoldable traces_compute : ⊤
unfolding cuts_compute digits is_named value_of is_httpbind number_of pause_of version_of wish_of ack_of terminate_of flag_of rid_in creation_in asked_in request_with request_of posted_of reply_of in_of later_line line_of broken_by outcome_text
traces_compute = tt

-- the bytes of a trace's report
abbrev report_of : List ℕ → List ℕ
report_of text = outcome_text (judge_from [] (lines_of text))

-- an empty text ends before its end
empty : report_of (codes "") ≡ codes "bad 1 end\n"
unfolding traces_compute
empty = refl

-- a line that says nothing
out_of_form : report_of (codes "gave\nend\n") ≡ codes "bad 1 grammar\n"
unfolding traces_compute
out_of_form = refl

-- a stanza that is none
no_stanza : report_of (codes "gave <a>\nend\n") ≡ codes "bad 1 grammar\n"
unfolding traces_compute
no_stanza = refl

abbrev creation : List ℕ
creation = codes "<body rid='7' to='a' xmlns='http://jabber.org/protocol/httpbind'/>"

abbrev opening : List ℕ
opening = codes "gave <f/>\nsent " ++ creation ++ codes "\ncame " ++ creation
    ++ codes "\nanswer 7 <body xmlns='http://jabber.org/protocol/httpbind' sid='k'><f/></body>\ntook 7\ngot <f/>\n"

abbrev later : List ℕ
later = codes "<body rid='8' sid='k' xmlns='http://jabber.org/protocol/httpbind'><a/></body>\n"

abbrev last_one : List ℕ
last_one = codes "<body rid='8' sid='k' type='terminate' xmlns='http://jabber.org/protocol/httpbind'/>\n"

abbrev ninth : List ℕ
ninth = codes "<body rid='9' sid='k' xmlns='http://jabber.org/protocol/httpbind'><a/></body>\n"

-- one request more, and its stanza goes inward
kept : report_of (opening ++ codes "sent " ++ later ++ codes "came " ++ later ++ codes "in <a/>\nend\n") ≡ codes "yes 2 1 1\n"
unfolding traces_compute
kept = refl

-- it goes inward before it came
exchanged : report_of (opening ++ codes "sent " ++ later ++ codes "in <a/>\ncame " ++ later ++ codes "end\n") ≡ codes "no 8 inward\n"
unfolding traces_compute
exchanged = refl

-- it goes inward twice
doubled : report_of (opening ++ codes "sent " ++ later ++ codes "came " ++ later ++ codes "in <a/>\nin <a/>\nend\n") ≡ codes "no 10 inward\n"
unfolding traces_compute
doubled = refl

-- nothing follows a terminate
after_terminate : report_of (opening ++ codes "sent " ++ last_one ++ codes "came " ++ last_one ++ codes "sent " ++ ninth ++ codes "came " ++ ninth ++ codes "in <a/>\nend\n") ≡ codes "no 11 inward\n"
unfolding traces_compute
after_terminate = refl

-- a byte was altered
altered : report_of (opening ++ codes "sent " ++ later ++ codes "came <body rid='8' sid='k' xmlns='http://jabber.org/protocol/httpbind'><b/></body>\nend\n") ≡ codes "no 8 altered\n"
unfolding traces_compute
altered = refl

-- an answer that was given once is given otherwise
changed : report_of (opening ++ codes "answer 7 <body xmlns='http://jabber.org/protocol/httpbind' sid='k'/>\nend\n") ≡ codes "no 7 changed\n"
unfolding traces_compute
changed = refl

-- what an answer hands out was given later
given_later : report_of (codes "sent " ++ creation ++ codes "\ncame " ++ creation ++ codes "\nanswer 7 <body xmlns='http://jabber.org/protocol/httpbind'><f/></body>\ngave <f/>\nend\n") ≡ codes "no 3 payload\n"
unfolding traces_compute
given_later = refl

-- an answer with a type counts for nothing
typed : report_of (codes "sent " ++ creation ++ codes "\ncame " ++ creation ++ codes "\nanswer 7 <body xmlns='http://jabber.org/protocol/httpbind' type='error'/>\ntook 7\nend\n") ≡ codes "no 4 took\n"
unfolding traces_compute
typed = refl

-- the ids go on by one
gap : report_of (opening ++ codes "sent " ++ ninth ++ codes "end\n") ≡ codes "no 7 number\n"
unfolding traces_compute
gap = refl

-- exactly the first is a creation
second_creation : report_of (opening ++ codes "sent " ++ creation ++ codes "\nend\n") ≡ codes "no 7 body\n"
unfolding traces_compute
second_creation = refl

-- nothing came with this id
unasked : report_of (opening ++ codes "answer 8 <body xmlns='http://jabber.org/protocol/httpbind'/>\nend\n") ≡ codes "no 7 order\n"
unfolding traces_compute
unasked = refl
