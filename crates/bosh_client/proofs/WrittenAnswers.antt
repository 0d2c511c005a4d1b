-- The text of an answer tells its parts.
use Rattle.std.proofs.Common.{◌≡◌, ◌∙◌, ℕ, ◌<◌, ◌≤◌, inl, inr, List, [], ◌∷◌, refl, sym, ap, subst, append-nil}
use Rattle.std.specs.Prelude.{Option, None, Some, Ok, is_some, IfSome, codes}
use Rattle.std.specs.List.{All}
use Rattle.std.specs.Option.{option_map}
use Rattle.std.specs.Fmt.{decimal}
use Rattle.bosh_types.specs.Condition.{name_of}
use Rattle.bosh_types.specs.Limits.{most_streams}
use Rattle.bosh_types.specs.Rid.{IsRid}
use Rattle.bosh_types.specs.declared.condition.Condition.{Condition}
use Rattle.bosh_types.specs.declared.condition.Condition.TheVariants.{BadRequest, HostUnknown, ImproperAddressing, ItemNotFound, OtherRequest, PolicyViolation, RemoteConnectionFailed, RemoteStreamError, SystemShutdown, UndefinedCondition}
use Rattle.bosh_types.proofs.RidLemmas.{rid_of-decimal}
use Rattle.body_cutter.specs.declared.parts.Cut.{Cut}
use Rattle.body_cutter.specs.BodyText.{IsBody}
use Rattle.body_cutter.specs.Built.{Written}
use Rattle.body_cutter.specs.Cutting.{body_cut_of}
use Rattle.body_cutter.specs.Pieces.{IsNamed}
use Rattle.body_cutter.proofs.Cuts.{body_cut}
use Rattle.body_cutter.proofs.NamePieces.{attributes_are_named}
use Rattle.body_writer.specs.declared.answer.AnswerKind.{AnswerKind}
use Rattle.body_writer.specs.declared.answer.AnswerKind.TheVariants.{Usual, Terminate, Error}
use Rattle.body_writer.specs.declared.answer.AnswerParts.{AnswerParts}
use Rattle.body_writer.specs.declared.answer.Created.{Created}
use Rattle.body_writer.specs.Answer.{answer_text}
use Rattle.body_writer.specs.AnswerRows.{answer_attributes, xmpp_rows, stream_rows, kind_rows, version_value, terms_rows, created_rows, ack_rows, report_rows, restart_rows}
use Rattle.body_writer.specs.Rows.{httpbind_row, named_rows}
use Rattle.stream_names.specs.Streams as names
use Rattle.body_writer.specs.ReadBack.{IsAnswer}
use Rattle.body_writer.proofs.AnswerBlocks.{answer_reads}
use Rattle.session_attrs.specs.Forms.{is_httpbind, number_of}
use Rattle.session_attrs.specs.Rows.{Says, told}
use Rattle.session_attrs.proofs.NamedValues.{value_in, value_of_written, first, Looks, look_for, looks_none, looks_one, looks_both}
use Rattle.session_attrs.proofs.WrittenNumbers.{told_number}
use Rattle.bosh_client.specs.AnswerMeaning.{HasType, MeansAck, MeansAnswer, MeansEnd, condition_of, naming_by, naming_of, type_of}
use Rattle.bosh_client.specs.declared.said.AnswerType.{AnswerType}
use Rattle.bosh_client.specs.declared.said.AnswerType.TheVariants as types
use Rattle.bosh_client.specs.AnswerReading.{answer_in, answer_of, answer_with, payloads_at}
use Rattle.bosh_client.specs.AnswerValues.{AnswerValues, values_by, values_of}
use Rattle.bosh_client.specs.ReadBack.{IsInForm, end_in, is_error_kind, naming_in, told_of}
use Rattle.bosh_client.proofs.NamingLemmas.{name_found}
use Rattle.bosh_client.proofs.ReadingLemmas.{means_told}

-- Each value by its name, block by block.

abbrev present : Option Created → List ℕ → Option (List ℕ)
present created text = option_map (λ (c : Created). text) created

looks_xmpp : (created : Option Created) → Looks (xmpp_rows created) (look_for (codes "xmlns:xmpp") (present created (codes "urn:xmpp:xbosh")))
unfolding xmpp_rows
looks_xmpp None = looks_none (codes "xmlns:xmpp")
looks_xmpp (Some created) = looks_one _

abbrev streams : Option Created → List (List ℕ) → Option (List ℕ)
streams None [] = None
streams None (payload ∷ payloads) = Some (codes "http://etherx.jabber.org/streams")
streams (Some created) payloads = Some (codes "http://etherx.jabber.org/streams")

looks_stream : (created : Option Created) (payloads : List (List ℕ)) → Looks (stream_rows created payloads) (look_for (codes "xmlns:stream") (streams created payloads))
unfolding stream_rows
looks_stream None [] = looks_none (codes "xmlns:stream")
looks_stream None (payload ∷ payloads) = looks_one _
looks_stream (Some created) payloads = looks_one _

abbrev type_value : AnswerKind → Option (List ℕ)
type_value Usual = None
type_value Terminate = Some (codes "terminate")
type_value Error = Some (codes "error")

abbrev condition_value : AnswerKind → Option Condition → Option (List ℕ)
condition_value Usual condition = None
condition_value Terminate condition = option_map name_of condition
condition_value Error condition = None

abbrev look_kind : AnswerKind → Option Condition → List ℕ → Option (List ℕ) → Option (List ℕ)
look_kind kind condition name rest = look_for (codes "type") (type_value kind) name (look_for (codes "condition") (condition_value kind condition) name rest)

looks_kind : (kind : AnswerKind) (condition : Option Condition) → Looks (kind_rows kind condition) (look_kind kind condition)
unfolding kind_rows
looks_kind Usual condition = looks_both (looks_none (codes "type")) (looks_none (codes "condition"))
looks_kind Terminate None = looks_both (looks_one _) (looks_none (codes "condition"))
looks_kind Terminate (Some condition) = looks_both (looks_one _) (looks_one _)
looks_kind Error condition = looks_both (looks_one _) (looks_none (codes "condition"))

abbrev number_in : (Created → ℕ) → Option Created → Option (List ℕ)
number_in field created = option_map (λ c. decimal (field c)) created

abbrev look_created : Option Created → List ℕ → Option (List ℕ) → Option (List ℕ)
look_created created name rest =
    look_for (codes "sid") (option_map (λ (c : Created). c.sid) created) name (look_for (codes "wait") (number_in (λ c. c.terms.wait) created) name
    (look_for (codes "requests") (number_in (λ c. c.terms.requests) created) name (look_for (codes "inactivity") (number_in (λ c. c.terms.inactivity) created) name
    (look_for (codes "polling") (number_in (λ c. c.terms.polling) created) name (look_for (codes "maxpause") (number_in (λ c. c.terms.maxpause) created) name
    (look_for (codes "hold") (number_in (λ c. c.terms.hold) created) name (look_for (codes "ver") (option_map (λ (c : Created). version_value c.terms.version) created) name
    (look_for (codes "from") (option_map (λ (c : Created). c.from) created) name rest))))))))

looks_created : (created : Option Created) → Looks (created_rows created) (look_created created)
unfolding created_rows terms_rows
looks_created None =
    looks_both (looks_none (codes "sid")) (looks_both (looks_none (codes "wait")) (looks_both (looks_none (codes "requests")) (looks_both (looks_none (codes "inactivity"))
    (looks_both (looks_none (codes "polling")) (looks_both (looks_none (codes "maxpause")) (looks_both (looks_none (codes "hold")) (looks_both (looks_none (codes "ver")) (looks_none (codes "from")))))))))
looks_created (Some created) = record { gives = λ rest name. refl }

looks_named : (stream : Option ℕ) → Looks (named_rows stream) (look_for (codes "stream") (option_map names.name_of stream))
unfolding named_rows
looks_named None = looks_none (codes "stream")
looks_named (Some stream) = looks_one _

looks_ack : (ack : Option ℕ) → Looks (ack_rows ack) (look_for (codes "ack") (option_map decimal ack))
unfolding ack_rows
looks_ack None = looks_none (codes "ack")
looks_ack (Some rid) = looks_one _

abbrev look_report : Option (ℕ × ℕ) → List ℕ → Option (List ℕ) → Option (List ℕ)
look_report report name rest =
    look_for (codes "report") (option_map (λ (r : ℕ × ℕ). decimal r.0) report) name (look_for (codes "time") (option_map (λ (r : ℕ × ℕ). decimal r.1) report) name rest)

looks_report : (report : Option (ℕ × ℕ)) → Looks (report_rows report) (look_report report)
unfolding report_rows
looks_report None = looks_both (looks_none (codes "report")) (looks_none (codes "time"))
looks_report (Some (rid, millis)) = record { gives = λ rest name. refl }

abbrev look_restart : Option Created → List ℕ → Option (List ℕ) → Option (List ℕ)
look_restart created name rest = look_for (codes "xmpp:version") (present created (codes "1.0")) name (look_for (codes "xmpp:restartlogic") (present created (codes "true")) name rest)

looks_restart : (created : Option Created) → Looks (restart_rows created) (look_restart created)
unfolding restart_rows
looks_restart None = looks_both (looks_none (codes "xmpp:version")) (looks_none (codes "xmpp:restartlogic"))
looks_restart (Some created) = record { gives = λ rest name. refl }

abbrev look_by : Option Created → AnswerKind → Option Condition → Option ℕ → Option ℕ → Option (ℕ × ℕ) → List (List ℕ) → List ℕ → Option (List ℕ)
look_by created kind condition stream ack report payloads name =
    look_for (codes "xmlns") (Some (codes "http://jabber.org/protocol/httpbind")) name
    (look_for (codes "xmlns:xmpp") (present created (codes "urn:xmpp:xbosh")) name
    (look_for (codes "xmlns:stream") (streams created payloads) name
    (look_kind kind condition name
    (look_created created name
    (look_for (codes "stream") (option_map names.name_of stream) name
    (look_for (codes "ack") (option_map decimal ack) name
    (look_report report name
    (look_restart created name None))))))))

abbrev look_in : AnswerParts → List ℕ → Option (List ℕ)
look_in parts name = look_by parts.created parts.kind parts.condition parts.stream parts.ack parts.report parts.payloads name

looks_answer : (parts : AnswerParts) (name : List ℕ) → value_in (answer_attributes parts) name ≡ look_in parts name
unfolding answer_attributes
looks_answer parts name =
    let all =
    looks_both (looks_both (looks_both (looks_both (looks_both (looks_both (looks_both (looks_both
    (looks_one httpbind_row)
    (looks_xmpp parts.created))
    (looks_stream parts.created parts.payloads))
    (looks_kind parts.kind parts.condition))
    (looks_created parts.created))
    (looks_named parts.stream))
    (looks_ack parts.ack))
    (looks_report parts.report))
    (looks_restart parts.created) in
    ap (λ (rows : List Written). value_in rows name) (sym (append-nil (answer_attributes parts))) ∙ all.gives [] name

-- What they mean.

condition_of-name : (condition : Condition) → condition_of (name_of condition) ≡ condition
unfolding condition_of
condition_of-name BadRequest = refl
condition_of-name HostUnknown = refl
condition_of-name ImproperAddressing = refl
condition_of-name ItemNotFound = refl
condition_of-name OtherRequest = refl
condition_of-name PolicyViolation = refl
condition_of-name RemoteConnectionFailed = refl
condition_of-name RemoteStreamError = refl
condition_of-name SystemShutdown = refl
condition_of-name UndefinedCondition = refl

abbrev values_in : AnswerParts → AnswerValues
values_in parts = values_by (look_in parts)

type_means : (parts : AnswerParts) (kind : AnswerKind) (says : AnswerType) (text : List ℕ) → parts.kind ≡ kind → type_value kind ≡ Some text → type_of text ≡ Some says
    → HasType (values_in parts) says
type_means parts kind says text is value reads = (text, ap (λ k. first (type_value k) None) is ∙ ap (λ o. first o None) value, reads)

-- the stream as it is named
stream_value : (parts : AnswerParts) (stream : Option ℕ) → parts.stream ≡ stream → (values_in parts).stream ≡ option_map names.name_of stream
stream_value parts None is = ap (λ (s : Option ℕ). first (option_map names.name_of s) None) is
stream_value parts (Some stream) is = ap (λ (s : Option ℕ). first (option_map names.name_of s) None) is

end_means : (parts : AnswerParts) (kind : AnswerKind) (stream : Option ℕ) (condition : Option Condition) → parts.kind ≡ kind → parts.stream ≡ stream → parts.condition ≡ condition
    → MeansEnd (values_in parts) (end_in kind stream condition) (is_error_kind kind)
unfolding type_of
end_means parts Usual stream condition kind on is = inl (ap (λ k. first (type_value k) None) kind)
end_means parts Terminate (Some stream) condition kind on is =
    inr (type_means parts Terminate types.Terminate (codes "terminate") kind refl refl, ap is_some (stream_value parts (Some stream) on))
end_means parts Terminate None None kind on is = (
  type_means parts Terminate types.Terminate (codes "terminate") kind refl refl,
  stream_value parts None on,
  sym (ap (option_map condition_of) (ap (λ k. first (condition_value k parts.condition) None) kind ∙ ap (λ c. first (condition_value Terminate c) None) is)),
  refl,
)
end_means parts Terminate None (Some condition) kind on is = (
  type_means parts Terminate types.Terminate (codes "terminate") kind refl refl,
  stream_value parts None on,
  ap Some (sym (condition_of-name condition)) ∙ sym (ap (option_map condition_of) (ap (λ k. first (condition_value k parts.condition) None) kind ∙ ap (λ c. first (condition_value Terminate c) None) is)),
  refl,
)
end_means parts Error stream condition kind on is = type_means parts Error types.Error (codes "error") kind refl refl

number_means : (field : Created → ℕ) (created : Option Created) → IfSome created (λ c. field c ≤ 999999999) → Says (told number_of) None (first (number_in field created) None) (option_map field created)
number_means field None within = refl
number_means field (Some c) within = told_number (field c) within

ack_means : (ack : Option ℕ) → IfSome ack IsRid → MeansAck (first (option_map decimal ack) None) (is_some ack)
ack_means None is = refl
ack_means (Some rid) is = (ap is_some (rid_of-decimal rid is), refl)

sid_means : (created : Option Created) → option_map (λ (c : Created). c.sid) created ≡ first (option_map (λ (c : Created). c.sid) created) None
sid_means None = refl
sid_means (Some created) = refl

naming_means : (parts : AnswerParts) (stream : Option ℕ) → parts.stream ≡ stream → IfSome stream (λ n. n < most_streams) → naming_in stream ≡ naming_of (values_in parts).stream
naming_means parts None is small = ap naming_of (sym (stream_value parts None is))
naming_means parts (Some stream) is small =
    sym (ap naming_by (name_found stream (names.name_of stream) small refl)) ∙ ap naming_of (sym (stream_value parts (Some stream) is))

parts_mean : (parts : AnswerParts) → IfSome parts.stream (λ n. n < most_streams) → IsInForm parts → MeansAnswer (values_in parts) parts.payloads (told_of parts)
unfolding is_httpbind
parts_mean parts small form = record {
  xmlns = refl;
  end = end_means parts parts.kind parts.stream parts.condition refl refl refl;
  sid = sid_means parts.created;
  requests = number_means (λ c. c.terms.requests) parts.created form.requests;
  polling = number_means (λ c. c.terms.polling) parts.created form.polling;
  maxpause = number_means (λ c. c.terms.maxpause) parts.created form.maxpause;
  ack = ack_means parts.ack form.ack;
  stream = naming_means parts parts.stream refl small;
  payloads_are = refl;
}

-- The values of a text are those that were written.

named_attrs : (text : List ℕ) (cut : Cut) → IsBody text cut → All (IsNamed text) cut.attrs
named_attrs text cut (within, parts, has, limits, e) = subst (λ (c : Cut). All (IsNamed text) c.attrs) (sym e) (attributes_are_named text parts has)

values_same : (look other : List ℕ → Option (List ℕ)) → ((name : List ℕ) → look name ≡ other name) → values_by look ≡ values_by other
values_same look other same = λ i. values_by (λ name. same name i)

values_are : (parts : AnswerParts) (cut : Cut) → IsAnswer parts → IsBody (answer_text parts) cut → values_of (answer_text parts) cut.attrs ≡ values_in parts
values_are parts cut is body =
    let text = answer_text parts in
    let into = (answer_reads parts is).1 cut body in
    values_same _ _ (λ name. value_of_written text name cut.attrs (answer_attributes parts) (named_attrs text cut body) into.names into.values ∙ looks_answer parts name)

pub answer_tells : (parts : AnswerParts) → IsAnswer parts → IsInForm parts → answer_of (answer_text parts) ≡ Ok (told_of parts)
unfolding answer_of
answer_tells parts is form =
    let text = answer_text parts in
    let cut = (answer_reads parts is).0.0 in
    let body = (answer_reads parts is).0.1 in
    let into = (answer_reads parts is).1 cut body in
    let cuts : body_cut_of text ≡ Ok cut = (body_cut text cut).1 body in
    ap (answer_in text) cuts ∙ ap (λ v. answer_with v (payloads_at text cut.children)) (values_are parts cut is body)
    ∙ ap (answer_with (values_in parts)) into.children_are ∙ means_told (values_in parts) parts.payloads (told_of parts) (parts_mean parts is.stream form)
