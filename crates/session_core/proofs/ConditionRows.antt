-- The conditions of a session's calls can be met by bodies as clients send them, and leave out what they are to leave out.
use Rattle.std.proofs.Common.{◌≡◌, refl, arith}
use Rattle.std.specs.Prelude.{⊤, [], ◌∷◌, None, codes}
use Rattle.std.proofs.lemmas.Str.{IsUtf8-from_is_utf8}
use Rattle.body_cutter.proofs.Rows.{cuts_compute}
use Rattle.session_attrs.specs.declared.request.Creation.{Creation}
use Rattle.session_attrs.specs.declared.request.Kind.{Kind}
use Rattle.session_attrs.specs.declared.request.Kind.TheVariants as kinds
use Rattle.session_attrs.specs.declared.request.Request.{Request}
use Rattle.session_attrs.specs.Attributes.{is_named, value_of}
use Rattle.session_attrs.specs.Forms.{is_httpbind, number_of, pause_of, version_of, wish_of, ack_of, terminate_of, flag_of}
use Rattle.session_attrs.specs.Meaning.{IsPlain, MeansKind}
use Rattle.session_attrs.specs.Reading.{rid_in, creation_in, asked_in, request_with, request_of}
use Rattle.session_attrs.specs.Terms.{terms_of}
use Rattle.session_attrs.specs.Values.{Values, values_of}
use Rattle.session_attrs.proofs.MeaningLemmas.{reads_means}
use Rattle.session_core.specs.Journal.{Arrive, Back, IsAllowed, IsOpening}
use Rattle.session_core.specs.declared.opening.Opening.{Opening}
use Rattle.session_core.proofs.RowTools.{usual, creating, empty}

-- what a row unfolds that reads a body
unfoldable reads_compute : ⊤
unfolding cuts_compute is_named value_of is_httpbind number_of pause_of version_of wish_of ack_of terminate_of flag_of rid_in creation_in asked_in request_with request_of terms_of
reads_compute = tt

-- a usual creation opens a session
abbrev pub creation : Opening
creation = record {
  request = creating usual None 1000;
  body = codes "<body rid='1000' to='example.org' wait='60' hold='1' ver='1.6' xmlns='http://jabber.org/protocol/httpbind'/>";
  terms = terms_of usual;
  sid = codes "s1";
  host = codes "example.org";
  greeting = codes "<stream:features/>" ∷ [];
  at = 0;
  limit = 16777216;
  gap_waits = 1;
}

pub opens : IsOpening creation
unfolding reads_compute
opens = record {
  read = (_, refl, refl);
  creation = (usual, refl, refl);
  sid = ((IsUtf8-from_is_utf8 (codes "s1") refl, refl), omega arith, omega arith);
  host = ((IsUtf8-from_is_utf8 (codes "example.org") refl, refl), omega arith, omega arith);
  gap = (omega arith, omega arith);
  greeting = (refl, omega arith, omega arith);
}

-- a request for the session with a stanza may arrive, and the server may give a stanza
arrives : IsAllowed (Arrive (record (empty 1001) { stanzas = record { start = 70; end = 74 } ∷ [] }) (codes "<body rid='1001' sid='s1' xmlns='http://jabber.org/protocol/httpbind'><a/></body>") 0)
unfolding reads_compute
arrives = ((_, refl, refl), (codes "s1", refl))

gives : IsAllowed (Back 0 (codes "<iq/>") 0)
unfolding reads_compute
gives = refl

by_kind : (v : Values) (request : Request) (created : Creation) (kind : Kind) → kind ≡ kinds.Creation created → MeansKind v request kind → IsPlain request
by_kind v request created (kinds.Creation other) is means = means.2
by_kind v request created (kinds.Later sid) is means = absurd (cc)

-- what opens a session acknowledges, pauses, restarts and ends nothing
pub opens_plainly : (o : Opening) → IsOpening o → IsPlain o.request
opens_plainly o is =
    by_kind (values_of o.body is.read.0.attrs) o.request is.creation.0 o.request.kind is.creation.1
    (reads_means (values_of o.body is.read.0.attrs) is.read.0.children o.request is.read.2).kind
