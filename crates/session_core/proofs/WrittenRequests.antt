-- The text of a request means what the client asked for.
use Rattle.std.proofs.Common.{◌≡◌, ◌∙◌, ℕ, ◌<◌, ◌≤◌, Bool, true, false, List, [], refl, sym, ap, subst, arith, append-nil}
use Rattle.std.specs.Prelude.{Option, None, Some, Ok, is_some, IsSome, IfSome, codes, map, if◌then◌else◌}
use Rattle.std.specs.List.{All}
use Rattle.std.specs.Option.{option_map, unwrap_or}
use Rattle.std.specs.Fmt.{decimal}
use Rattle.std.proofs.lemmas.Fmt.{decimal_digit}
use Rattle.bosh_types.specs.Rid.{IsRid}
use Rattle.bosh_types.proofs.RidLemmas.{rid_of-decimal}
use Rattle.body_cutter.specs.declared.parts.Cut.{Cut}
use Rattle.body_cutter.specs.declared.parts.Span.{Span}
use Rattle.body_cutter.specs.BodyText.{IsBody}
use Rattle.body_cutter.specs.Built.{Written}
use Rattle.body_cutter.specs.Pieces.{IsNamed, bytes_at}
use Rattle.body_cutter.proofs.NamePieces.{attributes_are_named}
use Rattle.stream_names.specs.Streams.{name_of}
use Rattle.body_writer.specs.declared.request.RequestParts.{RequestParts}
use Rattle.body_writer.specs.Request.{request_text}
use Rattle.body_writer.specs.RequestRows.{request_attributes, xmpp_rows, sid_rows, creation_rows, host_rows, number_rows, key_rows, terminate_rows, version_rows, restart_rows}
use Rattle.body_writer.specs.Rows.{httpbind_row, named_rows, number_row}
use Rattle.body_writer.specs.ReadBack.{IsRequest}
use Rattle.body_writer.proofs.RequestBlocks.{request_reads}
use Rattle.session_attrs.specs.Forms.{number_of, pause_of, version_of, wish_of, ack_of, terminate_of, flag_of, is_httpbind}
use Rattle.session_attrs.specs.Meaning.{Means}
use Rattle.session_attrs.specs.Reading.{request_of}
use Rattle.session_attrs.specs.Rows.{Says, told}
use Rattle.session_attrs.specs.Values.{Values, values_of}
use Rattle.session_attrs.proofs.MeaningLemmas.{means_reads}
use Rattle.session_core.specs.ReadBack.{IsCreation, IsLater, IsInForm, asked_for, asked_by, greatest_number}
use Rattle.session_attrs.proofs.NamedValues.{value_in, value_of_written, values_by, values_same, first, first-none, Looks, look_for, looks_none, looks_one, looks_nothing, looks_both}
use Rattle.session_attrs.proofs.WrittenNumbers.{told_number, pause_of-decimal, ack_of-decimal}

-- a value that stands there or not
abbrev flag : Bool → List ℕ → Option (List ℕ)
flag stands value = if stands then Some value else None

-- the namespace of `xmpp:` is no value of a request
abbrev xmpp_value : Option (List ℕ × ℕ × ℕ) → Bool → Option (List ℕ)
xmpp_value None restart = flag restart (codes "urn:xmpp:xbosh")
xmpp_value (Some creation) restart = Some (codes "urn:xmpp:xbosh")

looks_xmpp : (creation : Option (List ℕ × ℕ × ℕ)) (restart : Bool) → Looks (xmpp_rows creation restart) (look_for (codes "xmlns:xmpp") (xmpp_value creation restart))
unfolding xmpp_rows
looks_xmpp None false = looks_none (codes "xmlns:xmpp")
looks_xmpp None true = looks_one _
looks_xmpp (Some creation) restart = looks_one _

looks_sid : (sid : Option (List ℕ)) → Looks (sid_rows sid) (look_for (codes "sid") sid)
unfolding sid_rows
looks_sid None = looks_none (codes "sid")
looks_sid (Some sid) = looks_one _

looks_number : (name : List ℕ) (number : Option ℕ) → Looks (number_rows name number) (look_for name (option_map decimal number))
unfolding number_rows
looks_number name None = looks_none name
looks_number name (Some number) = looks_one _

looks_key : (name : List ℕ) (key : Option (List ℕ)) → Looks (key_rows name key) (look_for name key)
unfolding key_rows
looks_key name None = looks_none name
looks_key name (Some key) = looks_one _

looks_terminate : (terminate : Bool) → Looks (terminate_rows terminate) (look_for (codes "type") (flag terminate (codes "terminate")))
unfolding terminate_rows
looks_terminate true = looks_one _
looks_terminate false = looks_none (codes "type")

looks_restart : (restart : Bool) → Looks (restart_rows restart) (look_for (codes "xmpp:restart") (flag restart (codes "true")))
unfolding restart_rows
looks_restart true = looks_one _
looks_restart false = looks_none (codes "xmpp:restart")

-- the version of XMPP is no value of a request either
looks_version : (creation : Option (List ℕ × ℕ × ℕ)) → Looks (version_rows creation) (look_for (codes "xmpp:version") (option_map (λ c. codes "1.0") creation))
unfolding version_rows
looks_version None = looks_none (codes "xmpp:version")
looks_version (Some creation) = looks_one _

looks_named : (stream : Option ℕ) → Looks (named_rows stream) (look_for (codes "stream") (option_map name_of stream))
unfolding named_rows
looks_named None = looks_none (codes "stream")
looks_named (Some stream) = looks_one _

-- the host of a creation with what it asks for besides, or that of another request
abbrev look_host : Option (List ℕ × ℕ × ℕ) → Option (List ℕ) → List ℕ → Option (List ℕ) → Option (List ℕ)
look_host None to name rest = look_for (codes "to") to name rest
look_host (Some (to, wait, hold)) other name rest =
    look_for (codes "to") (Some to) name (look_for (codes "xml:lang") (Some (codes "en")) name
    (look_for (codes "wait") (Some (decimal wait)) name (look_for (codes "hold") (Some (decimal hold)) name
    (look_for (codes "ver") (Some (codes "1.11")) name (look_for (codes "content") (Some (codes "text/xml; charset=utf-8")) name rest)))))

looks_host : (creation : Option (List ℕ × ℕ × ℕ)) (to : Option (List ℕ)) → Looks (host_rows creation to) (look_host creation to)
unfolding host_rows creation_rows
looks_host None None = looks_none (codes "to")
looks_host None (Some to) = looks_one _
looks_host (Some (to, wait, hold)) other = record { gives = λ rest name. refl }

-- each value of a request, by its name
abbrev look_by : RequestParts → Option (List ℕ × ℕ × ℕ) → List ℕ → Option (List ℕ)
look_by parts creation name =
    look_for (codes "xmlns") (Some (codes "http://jabber.org/protocol/httpbind")) name
    (look_for (codes "xmlns:xmpp") (xmpp_value creation parts.restart) name
    (look_for (codes "rid") (Some (decimal parts.rid)) name
    (look_for (codes "sid") parts.sid name
    (look_for (codes "stream") (option_map name_of parts.stream) name
    (look_host creation parts.to name
    (look_for (codes "ack") (option_map decimal parts.ack) name
    (look_for (codes "key") parts.key name
    (look_for (codes "newkey") parts.newkey name
    (look_for (codes "pause") (option_map decimal parts.pause) name
    (look_for (codes "type") (flag parts.terminate (codes "terminate")) name
    (look_for (codes "xmpp:version") (option_map (λ c. codes "1.0") creation) name
    (look_for (codes "xmpp:restart") (flag parts.restart (codes "true")) name None))))))))))))

looks_request : (parts : RequestParts) (name : List ℕ) → value_in (request_attributes parts) name ≡ look_by parts parts.creation name
unfolding request_attributes
looks_request parts name =
    let all =
    looks_both (looks_both (looks_both (looks_both (looks_both (looks_both (looks_both (looks_both (looks_both (looks_both (looks_both (looks_both
    (looks_one httpbind_row)
    (looks_xmpp parts.creation parts.restart))
    (looks_one (number_row (codes "rid") parts.rid)))
    (looks_sid parts.sid))
    (looks_named parts.stream))
    (looks_host parts.creation parts.to))
    (looks_number (codes "ack") parts.ack))
    (looks_key (codes "key") parts.key))
    (looks_key (codes "newkey") parts.newkey))
    (looks_number (codes "pause") parts.pause))
    (looks_terminate parts.terminate))
    (looks_version parts.creation))
    (looks_restart parts.restart) in
    ap (λ (rows : List Written). value_in rows name) (sym (append-nil (request_attributes parts))) ∙ all.gives [] name

says_first : {X : Type 0} (read : List ℕ → Option X) (usual : X) (value : Option (List ℕ)) (x : X) → Says read usual value x → Says read usual (first value None) x
says_first read usual None x is = is
says_first read usual (Some text) x is = is

says_ack : (rid : ℕ) (ack : Option ℕ) → IsRid rid → IfSome ack (λ n. (1 ≤ n) × (n < rid)) → Says (told (ack_of rid)) None (option_map decimal ack) ack
says_ack rid None is within = refl
says_ack rid (Some n) is within = ap (λ o. option_map Some o) (ack_of-decimal rid n is within.0 within.1)

says_pause : (pause : Option ℕ) → IfSome pause (λ n. (1 ≤ n) × (n ≤ greatest_number)) → Says (told pause_of) None (option_map decimal pause) pause
says_pause None within = refl
says_pause (Some n) within = ap (λ o. option_map Some o) (pause_of-decimal n within.0 within.1)

says_terminate : (terminate : Bool) → Says terminate_of false (flag terminate (codes "terminate")) terminate
unfolding terminate_of
says_terminate true = refl
says_terminate false = refl

says_restart : (restart : Bool) → Says flag_of false (flag restart (codes "true")) restart
unfolding flag_of
says_restart true = refl
says_restart false = refl

named : (sid : Option (List ℕ)) → IsSome sid → first sid None ≡ Some (unwrap_or sid [])
named (Some sid) is = refl
named None is = cc

-- a request for a session
later_means : (parts : RequestParts) (children : List Span) → IsRid parts.rid → IsLater parts → Means (values_by (look_by parts None)) children (asked_for parts children None)
unfolding is_httpbind
later_means parts children rid later = record {
  xmlns = refl;
  rid = rid_of-decimal parts.rid rid;
  kind = (
    named parts.sid later.sid,
    record {
      ack = says_first (told (ack_of parts.rid)) None (option_map decimal parts.ack) parts.ack (says_ack parts.rid parts.ack rid later.ack);
      key = sym (first-none parts.key);
      pause = says_first (told pause_of) None (option_map decimal parts.pause) parts.pause (says_pause parts.pause later.pause);
      stream = sym (first-none (option_map name_of parts.stream));
      restart = says_first flag_of false (flag parts.restart (codes "true")) parts.restart (says_restart parts.restart);
      terminate = says_first terminate_of false (flag parts.terminate (codes "terminate")) parts.terminate (says_terminate parts.terminate);
    },
  );
  newkey = sym (first-none parts.newkey);
  to = sym (first-none parts.to);
  stanzas = refl;
}

says_wish : (ack : Option ℕ) → IfSome ack (λ n. n ≡ 1) → Says wish_of false (option_map decimal ack) (is_some ack)
unfolding wish_of
says_wish None is = refl
says_wish (Some n) is = subst (λ (m : ℕ). wish_of (decimal m) ≡ Some true) (sym is) (ap wish_of (decimal_digit 1 (omega arith)))

says_version : version_of (codes "1.11") ≡ Some (1, 11)
unfolding version_of number_of
says_version = refl

-- a creation
creation_means : (parts : RequestParts) (children : List Span) (to : List ℕ) (wait hold : ℕ) → IsRid parts.rid → IsCreation parts wait hold →
    Means (values_by (look_by parts (Some (to, wait, hold)))) children (asked_for parts children (Some (to, wait, hold)))
unfolding is_httpbind
creation_means parts children to wait hold rid is = record {
  xmlns = refl;
  rid = rid_of-decimal parts.rid rid;
  kind = (
    first-none parts.sid ∙ is.sid,
    record {
      wait = told_number wait is.wait_within;
      hold = told_number hold is.hold_within;
      version = says_version;
      asks_ack = says_first wish_of false (option_map decimal parts.ack) (is_some parts.ack) (says_wish parts.ack is.ack);
      no_type = first-none (flag parts.terminate (codes "terminate")) ∙ ap (λ (b : Bool). flag b (codes "terminate")) is.terminate;
      flag = (parts.restart, says_first flag_of false (flag parts.restart (codes "true")) parts.restart (says_restart parts.restart));
    },
    record { ack = refl; key = refl; pause = refl; stream = refl; restart = refl; terminate = refl },
  );
  newkey = sym (first-none parts.newkey);
  to = refl;
  stanzas = refl;
}

parts_mean : (parts : RequestParts) (children : List Span) (creation : Option (List ℕ × ℕ × ℕ)) → IsRid parts.rid → IsInForm parts creation → Means (values_by (look_by parts creation)) children (asked_for parts children creation)
parts_mean parts children None rid is = later_means parts children rid is
parts_mean parts children (Some (to, wait, hold)) rid is = creation_means parts children to wait hold rid is

-- the names of a body stand in its text
named_attrs : (text : List ℕ) (cut : Cut) → IsBody text cut → All (IsNamed text) cut.attrs
named_attrs text cut (within, parts, has, limits, e) = subst (λ (c : Cut). All (IsNamed text) c.attrs) (sym e) (attributes_are_named text parts has)

-- the values of a text are those that were written
values_are : (parts : RequestParts) (cut : Cut) → IsRequest parts → IsBody (request_text parts) cut → values_by (look_by parts parts.creation) ≡ values_of (request_text parts) cut.attrs
values_are parts cut is body =
    let text = request_text parts in
    let into = (request_reads parts is).1 cut body in
    values_same _ _ (λ name. sym (looks_request parts name) ∙ sym (value_of_written text name cut.attrs (request_attributes parts) (named_attrs text cut body) into.names into.values))

pub request_means : (parts : RequestParts) → IsRequest parts → IsInForm parts parts.creation → (cut : Cut) → IsBody (request_text parts) cut → Means (values_of (request_text parts) cut.attrs) cut.children (asked_by parts cut.children)
request_means parts is form cut body =
    subst (λ (v : Values). Means v cut.children (asked_by parts cut.children)) (values_are parts cut is body) (parts_mean parts cut.children parts.creation is.rid form)

pub request_read : (parts : RequestParts) → IsRequest parts → IsInForm parts parts.creation → (cut : Cut) → IsBody (request_text parts) cut → request_of (values_of (request_text parts) cut.attrs) cut.children ≡ Ok (asked_by parts cut.children)
request_read parts is form cut body = means_reads _ cut.children (asked_by parts cut.children) (request_means parts is form cut body)

pub request_body : (parts : RequestParts) → IsRequest parts → (cut : Cut) × IsBody (request_text parts) cut
request_body parts is = (request_reads parts is).0

pub request_children : (parts : RequestParts) → IsRequest parts → (cut : Cut) → IsBody (request_text parts) cut → map (λ child. bytes_at (request_text parts) child) cut.children ≡ parts.payloads
request_children parts is cut body = ((request_reads parts is).1 cut body).children_are
