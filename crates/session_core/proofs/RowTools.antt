-- What the rows of sessions are made of: a session with the host example.org, requests for it, and what comes of calls.
use Rattle.std.specs.Prelude.{ℕ, ◌+◌, false, List, [], ◌∷◌, ◌++◌, length, Option, Some, None, codes, ⊤}
use Rattle.std.specs.Fmt.{decimal, digits}
use Rattle.bosh_types.specs.declared.ending.Ending.{Ending}
use Rattle.bosh_types.specs.declared.inward.Inward.{Inward}
use Rattle.body_writer.specs.Answer.{answer_text}
use Rattle.body_writer.specs.AnswerRows.{answer_attributes, xmpp_rows, stream_rows, kind_rows, version_value, terms_rows, created_rows, ack_rows, report_rows, restart_rows}
use Rattle.body_writer.specs.Rows.{named_rows}
use Rattle.body_writer.specs.Attribute.{attribute, escaped_byte, closed_with}
use Rattle.hex.specs.Hex.{encode_with}
use Rattle.key_sequence.specs.Chain.{hex_digest}
use Rattle.sha1.specs.Sha1.{first_words, schedule, rounds, compress, hash_after, digest_bytes, sha1}
use Rattle.session_attrs.specs.declared.request.Creation.{Creation}
use Rattle.session_attrs.specs.declared.request.Kind.TheVariants as kinds
use Rattle.session_attrs.specs.declared.request.Request.{Request}
use Rattle.session_attrs.specs.Terms.{terms_of}
use Rattle.stream_names.specs.Streams.{those}
use Rattle.session_core.specs.Journal.{Call, Arrive, Reply, Entered, Entry, Journal, step, entered_by}
use Rattle.session_core.specs.Machine.{opened}
use Rattle.session_core.specs.declared.opening.Opening.{Opening}
use Rattle.session_core.specs.declared.outward.Outward.{Outward}
use Rattle.session_core.specs.State.{PlainSession, last_of, answered_of, inward, waiting}

-- what a creation asks for where nothing else is said
abbrev pub usual : Creation
usual = record { wait = Some 60; hold = Some 1; version = (1, 6); asks_ack = false }

abbrev pub creating : Creation → Option (List ℕ) → ℕ → Request
creating creation newkey rid = record {
  rid = rid;
  kind = kinds.Creation creation;
  ack = None;
  key = None;
  newkey = newkey;
  pause = None;
  stream = None;
  to = Some (codes "example.org");
  restart = false;
  terminate = false;
  stanzas = [];
}

abbrev pub opening_with : Creation → Option (List ℕ) → ℕ → Opening
opening_with creation newkey rid = record {
  request = creating creation newkey rid;
  body = codes "<body rid='1000' to='example.org' wait='60' hold='1' ver='1.6' xmlns='http://jabber.org/protocol/httpbind'/>";
  terms = terms_of creation;
  sid = codes "s1";
  host = codes "example.org";
  greeting = codes "<stream:features/>" ∷ [];
  at = 0;
  limit = 16777216;
  gap_waits = 1;
}

abbrev pub opening : Opening
opening = opening_with usual None 1000

-- a request for the session, without stanzas
abbrev pub empty : ℕ → Request
empty rid = record {
  rid = rid;
  kind = kinds.Later (codes "s1");
  ack = None;
  key = None;
  newkey = None;
  pause = None;
  stream = None;
  to = None;
  restart = false;
  terminate = false;
  stanzas = [];
}

-- an empty request that names a host: it adds a stream
abbrev pub adding : ℕ → Request
adding rid = record (empty rid) { to = Some (codes "other.org") }

-- an empty request for one stream
abbrev pub naming : List ℕ → ℕ → Request
naming name rid = record (empty rid) { stream = Some name }

-- the request arrives with this stanza
abbrev pub carrying : Request → List ℕ → ℕ → Call
carrying request stanza now =
    Arrive (record request { stanzas = record { start = 6; end = 6 + length stanza } ∷ [] }) (codes "<body>" ++ stanza ++ codes "</body>") now

-- the request arrives as it is
abbrev pub plain : Request → ℕ → Call
plain request now = Arrive request (codes "<body/>") now

-- what comes of calls: their replies, the highest ids processed and answered, all inward items, what waits, and the ending
pub record Outcome : Type 0 where
  pub replies : List Reply
  pub last : ℕ
  pub answered : ℕ
  pub inward : List Inward
  pub waiting : List Outward
  pub ending : Option Ending

abbrev pub outcome_of : List Reply → PlainSession → Outcome
outcome_of replies s =
    record { replies = replies; last = last_of s; answered = answered_of s; inward = inward s; waiting = waiting s; ending = s.ending }

abbrev pub outcome_after : List Reply → PlainSession → List Call → Outcome
outcome_after replies s [] = outcome_of replies s
outcome_after replies s (call ∷ calls) = outcome_after (replies ++ (step s call).1 ∷ []) (step s call).0 calls

abbrev pub outcome : Opening → List Call → Outcome
outcome opening calls = outcome_after [] (opened opening) calls

-- the entries that calls make in a session
abbrev pub with_entry : List Entry → Option Entered → List Entry
with_entry entries None = entries
with_entry entries (Some entered) = entries ++ record { caller = 0; entered = entered } ∷ []

abbrev pub entries_of : List Entry → PlainSession → List Call → List Entry
entries_of entries s [] = entries
entries_of entries s (call ∷ calls) = entries_of (with_entry entries (entered_by s call)) (step s call).0 calls

abbrev pub journal_of : Opening → List Call → Journal
journal_of opening calls = record { opening = opening; entries = entries_of [] (opened opening) calls }

-- the bodies of answers
abbrev pub empty_body : List ℕ
empty_body = codes "<body xmlns='http://jabber.org/protocol/httpbind'/>"

abbrev pub ack_body : ℕ → List ℕ
ack_body rid = codes "<body xmlns='http://jabber.org/protocol/httpbind' ack='" ++ decimal rid ++ codes "'/>"

abbrev pub payload_body : List ℕ → List ℕ
payload_body stanza =
    codes "<body xmlns='http://jabber.org/protocol/httpbind' xmlns:stream='http://etherx.jabber.org/streams'>" ++ stanza ++ codes "</body>"

-- an answer that names a stream, without and with a payload
abbrev pub named_body : List ℕ → List ℕ
named_body name = codes "<body xmlns='http://jabber.org/protocol/httpbind' stream='" ++ name ++ codes "'/>"

abbrev pub named_payload_body : List ℕ → List ℕ → List ℕ
named_payload_body name stanza =
    codes "<body xmlns='http://jabber.org/protocol/httpbind' xmlns:stream='http://etherx.jabber.org/streams' stream='" ++ name ++ codes "'>" ++ stanza ++ codes "</body>"

abbrev pub terminal_body : List ℕ → List ℕ
terminal_body condition =
    codes "<body xmlns='http://jabber.org/protocol/httpbind' type='terminate' condition='" ++ condition ++ codes "'/>"

abbrev pub terminate_body : List ℕ
terminate_body = codes "<body xmlns='http://jabber.org/protocol/httpbind' type='terminate'/>"

-- what the request of a struck copy is told
abbrev pub error_body : List ℕ
error_body = codes "<body xmlns='http://jabber.org/protocol/httpbind' type='error'/>"

-- a creation that asks for ten seconds at most
abbrev pub short : Creation
short = record usual { wait = Some 10 }

-- what an answer unfolds to compute a body, and a key
unfoldable pub bodies_compute : ⊤
unfolding digits answer_text answer_attributes xmpp_rows stream_rows kind_rows version_value terms_rows created_rows named_rows ack_rows report_rows restart_rows attribute escaped_byte closed_with terms_of those
bodies_compute = tt

unfoldable pub keys_compute : ⊤
unfolding hex_digest encode_with first_words schedule rounds compress hash_after digest_bytes sha1
keys_compute = tt
