-- What values and children mean, attribute by attribute.
use Rattle.std.specs.Prelude.{◌≡◌, ℕ, Bool, false, IsTrue, List, Option, None, Some}
use Rattle.std.specs.Option.{option_and_then}
use Rattle.body_cutter.specs.declared.parts.Span.{Span}
use Rattle.bosh_types.specs.Rid.{rid_of}
use Rattle.session_attrs.specs.declared.request.Creation.{Creation}
use Rattle.session_attrs.specs.declared.request.Kind.{Kind}
use Rattle.session_attrs.specs.declared.request.Kind.TheVariants as kinds
use Rattle.session_attrs.specs.declared.request.Request.{Request}
use Rattle.session_attrs.specs.Forms.{number_of, pause_of, version_of, wish_of, ack_of, terminate_of, flag_of, says_httpbind}
use Rattle.session_attrs.specs.Rows.{Says, told}
use Rattle.session_attrs.specs.Values.{Values}

-- what a creation asks for, XEP-0124 section 7.1: a version that isn't there is 1.0
pub record MeansCreation (v : Values) (creation : Creation) : Type 0 where
  pub wait : Says (told number_of) None v.wait creation.wait
  pub hold : Says (told number_of) None v.hold creation.hold
  pub version : Says version_of (1, 0) v.ver creation.version
  -- XEP-0124 section 9
  pub asks_ack : Says wish_of false v.ack creation.asks_ack
  pub no_type : v.type ≡ None
  -- a creation restarts nothing, whatever the flag says
  pub flag : (restart : Bool) × Says flag_of false v.restart restart

-- what only a later request says is not in a creation
pub record IsPlain (request : Request) : Type 0 where
  pub ack : request.ack ≡ None
  pub key : request.key ≡ None
  pub pause : request.pause ≡ None
  pub stream : request.stream ≡ None
  pub restart : request.restart ≡ false
  pub terminate : request.terminate ≡ false

-- what a request for a session says
pub record MeansLater (v : Values) (request : Request) : Type 0 where
  -- XEP-0124 section 9
  pub ack : Says (told (ack_of request.rid)) None v.ack request.ack
  -- XEP-0124 section 15
  pub key : request.key ≡ v.key
  -- XEP-0124 section 10
  pub pause : Says (told pause_of) None v.pause request.pause
  -- XEP-0124 section 16
  pub stream : request.stream ≡ v.stream
  -- XEP-0206
  pub restart : Says flag_of false v.restart request.restart
  -- XEP-0124 section 13
  pub terminate : Says terminate_of false v.type request.terminate

-- a request that names no session creates one, XEP-0124 section 7.1
abbrev pub MeansKind : Values → Request → Kind → Type 0
MeansKind v request (kinds.Creation creation) = (v.sid ≡ None) × MeansCreation v creation × IsPlain request
MeansKind v request (kinds.Later sid) = (v.sid ≡ Some sid) × MeansLater v request

-- the values and the children mean this request
pub record Means (v : Values) (children : List Span) (request : Request) : Type 0 where
  -- XEP-0124 section 6
  pub xmlns : IsTrue (says_httpbind v.xmlns)
  -- XEP-0124 section 14
  pub rid : option_and_then rid_of v.rid ≡ Some request.rid
  pub kind : MeansKind v request request.kind
  -- XEP-0124 section 15
  pub newkey : request.newkey ≡ v.newkey
  -- XEP-0124 section 7.1
  pub to : request.to ≡ v.to
  pub stanzas : request.stanzas ≡ children
