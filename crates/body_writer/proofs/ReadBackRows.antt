-- Answers whose parts meet what reading back asks of them, with their texts.
use Rattle.std.proofs.Common.{◌≡◌, ℕ, List, [], ◌∷◌, refl, arith, subst, sym}
use Rattle.std.specs.Prelude.{None, Some, codes, length, ◌≤◌, false, ⊤}
use Rattle.std.specs.Fmt.{digits}
use Rattle.std.proofs.Math.Utf8.{encode}
use Rattle.std.proofs.lemmas.List.Elements.{All-nil, All-cons}
use Rattle.bosh_types.specs.declared.condition.Condition.TheVariants.{ItemNotFound}
use Rattle.body_cutter.specs.Chars.{is_allowed, is_name_start, begins_name_plainly, is_letter}
use Rattle.body_cutter.specs.Grammar.{Name, NameRest, TagRest, Element, Single}
use Rattle.body_cutter.specs.Parts.{single_parts, most_in_element, depth_of, count_of}
use Rattle.body_cutter.specs.Built.{IsElementWithin}
use Rattle.body_writer.specs.declared.answer.AnswerKind.TheVariants.{Usual, Terminate}
use Rattle.body_writer.specs.declared.answer.AnswerParts.{AnswerParts}
use Rattle.body_writer.specs.Answer.{answer_text}
use Rattle.body_writer.specs.AnswerRows.{answer_attributes, xmpp_rows, stream_rows, kind_rows, version_value, terms_rows, created_rows, ack_rows, report_rows, restart_rows}
use Rattle.body_writer.specs.Attribute.{attribute, escaped_byte, closed_with}
use Rattle.body_writer.specs.Rows.{named_rows}
use Rattle.body_writer.specs.ReadBack.{IsAllowed, IsAnswer, longest}
use Rattle.body_writer.proofs.Texts.{texts_ascii}

unfoldable answers_compute : ⊤
unfolding digits answer_text answer_attributes xmpp_rows stream_rows kind_rows version_value terms_rows created_rows named_rows ack_rows report_rows restart_rows attribute escaped_byte closed_with
answers_compute = tt

abbrev stanza : List ℕ
stanza = codes "<a/>"

-- an element by itself
element : IsElementWithin 32 64 stanza
unfolding is_name_start begins_name_plainly is_letter most_in_element depth_of count_of single_parts
element =
    let x : Single stanza = Single.single (Element.empty_element (Name.begins {b = 97} refl NameRest.none) TagRest.empty) in
    (single_parts x, (texts_ascii stanza refl, x, refl), omega arith, omega arith)

sid_is : IsAllowed (codes "s1")
unfolding is_allowed encode
sid_is = record { characters = codes "s1"; pass = refl; spell = refl }

host_is : IsAllowed (codes "h'")
unfolding is_allowed encode
host_is = record { characters = codes "h'"; pass = refl; spell = refl }

-- the answer to a creation
abbrev creation : AnswerParts
creation = record {
  created = Some (record {
    sid = codes "s1";
    terms = record { wait = 60; hold = 1; requests = 2; inactivity = 30; polling = 5; maxpause = 120; version = (1, 6); polled = false };
    from = codes "h'";
  });
  kind = Usual;
  condition = None;
  stream = Some 0;
  ack = Some 1000;
  report = None;
  payloads = stanza ∷ [];
}

creation_writes : answer_text creation ≡ codes "<body xmlns='http://jabber.org/protocol/httpbind' xmlns:xmpp='urn:xmpp:xbosh' xmlns:stream='http://etherx.jabber.org/streams' sid='s1' wait='60' requests='2' inactivity='30' polling='5' maxpause='120' hold='1' ver='1.6' from='h&apos;' stream='t0' ack='1000' xmpp:version='1.0' xmpp:restartlogic='true'><a/></body>"
unfolding answers_compute
creation_writes = refl

creation_is : IsAnswer creation
creation_is = record {
  created = (sid_is, (omega arith, omega arith, omega arith, omega arith, omega arith, omega arith, omega arith, omega arith), host_is);
  stream = omega arith;
  ack = omega arith;
  report = tt;
  payloads = (All-cons (IsElementWithin 32 64) stanza [] element (All-nil (IsElementWithin 32 64)), omega arith);
  fits = subst (λ (text : List ℕ). length text ≤ longest) (sym creation_writes) (omega arith);
}

-- a terminal answer with a report
abbrev terminal : AnswerParts
terminal = record { created = None; kind = Terminate; condition = Some ItemNotFound; stream = None; ack = None; report = Some (1001, 250); payloads = [] }

terminal_writes : answer_text terminal ≡ codes "<body xmlns='http://jabber.org/protocol/httpbind' type='terminate' condition='item-not-found' report='1001' time='250'/>"
unfolding answers_compute
terminal_writes = refl

terminal_is : IsAnswer terminal
terminal_is = record {
  created = tt;
  stream = tt;
  ack = tt;
  report = (omega arith, omega arith);
  payloads = (All-nil (IsElementWithin 32 64), omega arith);
  fits = subst (λ (text : List ℕ). length text ≤ longest) (sym terminal_writes) (omega arith);
}
