-- Requests whose parts meet what reading back asks of them, with their texts and what they mean.
use Rattle.std.proofs.Common.{◌≡◌, ℕ, true, false, List, [], ◌∷◌, refl, arith, subst, sym}
use Rattle.std.specs.Prelude.{None, Some, codes, length, ◌≤◌, ⊤}
use Rattle.std.specs.Fmt.{digits}
use Rattle.std.proofs.Math.Utf8.{encode}
use Rattle.std.proofs.lemmas.List.Elements.{All-nil, All-cons}
use Rattle.body_cutter.specs.Chars.{is_allowed, is_name_start, begins_name_plainly, is_letter}
use Rattle.body_cutter.specs.Grammar.{Name, NameRest, TagRest, Element, Single}
use Rattle.body_cutter.specs.Parts.{single_parts, most_in_element, depth_of, count_of}
use Rattle.body_cutter.specs.Built.{IsElementWithin}
use Rattle.body_writer.specs.declared.request.RequestParts.{RequestParts}
use Rattle.body_writer.specs.Attribute.{attribute, escaped_byte, closed_with}
use Rattle.body_writer.specs.ReadBack.{IsAllowed, IsRequest, longest}
use Rattle.body_writer.specs.Request.{request_text}
use Rattle.body_writer.specs.RequestRows.{request_attributes, xmpp_rows, sid_rows, creation_rows, host_rows, number_rows, key_rows, terminate_rows, version_rows, restart_rows}
use Rattle.body_writer.specs.Rows.{named_rows}
use Rattle.body_writer.proofs.Texts.{texts_ascii}
use Rattle.session_core.specs.ReadBack.{IsInForm}

unfoldable requests_compute : ⊤
unfolding digits request_text request_attributes xmpp_rows sid_rows named_rows creation_rows host_rows number_rows key_rows terminate_rows version_rows restart_rows attribute escaped_byte closed_with
requests_compute = tt

abbrev stanza : List ℕ
stanza = codes "<a/>"

-- an element by itself
element : IsElementWithin 32 64 stanza
unfolding is_name_start begins_name_plainly is_letter most_in_element depth_of count_of single_parts
element =
    let x : Single stanza = Single.single (Element.empty_element (Name.begins {b = 97} refl NameRest.none) TagRest.empty) in
    (single_parts x, (texts_ascii stanza refl, x, refl), omega arith, omega arith)

-- characters below U+0080
sid_is : IsAllowed (codes "s1")
unfolding is_allowed encode
sid_is = record { characters = codes "s1"; pass = refl; spell = refl }

host_is : IsAllowed (codes "h'")
unfolding is_allowed encode
host_is = record { characters = codes "h'"; pass = refl; spell = refl }

-- a creation
abbrev creation : RequestParts
creation = record {
  rid = 1000;
  sid = None;
  stream = None;
  to = None;
  creation = Some (codes "h'", 60, 1);
  ack = Some 1;
  key = None;
  newkey = None;
  pause = None;
  terminate = false;
  restart = false;
  payloads = [];
}

creation_writes : request_text creation ≡ codes "<body xmlns='http://jabber.org/protocol/httpbind' xmlns:xmpp='urn:xmpp:xbosh' rid='1000' to='h&apos;' xml:lang='en' wait='60' hold='1' ver='1.11' content='text/xml; charset=utf-8' ack='1' xmpp:version='1.0'/>"
unfolding requests_compute
creation_writes = refl

creation_is : IsRequest creation × IsInForm creation creation.creation
creation_is = (
  record {
    rid = (omega arith, omega arith);
    sid = tt;
    stream = tt;
    to = tt;
    creation = (host_is, omega arith, omega arith);
    ack = omega arith;
    key = tt;
    newkey = tt;
    pause = tt;
    payloads = (All-nil (IsElementWithin 32 64), omega arith);
    fits = subst (λ (text : List ℕ). length text ≤ longest) (sym creation_writes) (omega arith);
  },
  record { sid = refl; key = refl; pause = refl; terminate = refl; restart = refl; wait_within = omega arith; hold_within = omega arith; ack = refl },
)

-- a request for a session
abbrev later : RequestParts
later = record {
  rid = 1001;
  sid = Some (codes "s1");
  stream = Some 1;
  to = None;
  creation = None;
  ack = Some 1000;
  key = None;
  newkey = None;
  pause = Some 120;
  terminate = true;
  restart = true;
  payloads = stanza ∷ [];
}

later_writes : request_text later ≡ codes "<body xmlns='http://jabber.org/protocol/httpbind' xmlns:xmpp='urn:xmpp:xbosh' rid='1001' sid='s1' stream='t1' ack='1000' pause='120' type='terminate' xmpp:restart='true'><a/></body>"
unfolding requests_compute
later_writes = refl

later_is : IsRequest later × IsInForm later later.creation
later_is = (
  record {
    rid = (omega arith, omega arith);
    sid = sid_is;
    stream = omega arith;
    to = tt;
    creation = tt;
    ack = omega arith;
    key = tt;
    newkey = tt;
    pause = omega arith;
    payloads = (All-cons (IsElementWithin 32 64) stanza [] element (All-nil (IsElementWithin 32 64)), omega arith);
    fits = subst (λ (text : List ℕ). length text ≤ longest) (sym later_writes) (omega arith);
  },
  record { sid = refl; ack = (omega arith, omega arith); pause = (omega arith, omega arith) },
)
