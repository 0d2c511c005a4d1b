-- The request that values and children make, or the first refusal.
use Rattle.std.specs.Prelude.{ℕ, Bool, false, List, Option, None, Some, Result, Ok, Err, if◌then◌else◌}
use Rattle.std.specs.Option.{ok_or}
use Rattle.body_cutter.specs.declared.parts.Span.{Span}
use Rattle.bosh_types.specs.Rid.{rid_of}
use Rattle.session_attrs.specs.declared.refusal.AttrRefusal.{AttrRefusal}
use Rattle.session_attrs.specs.declared.refusal.AttrRefusal.TheVariants.{WrongNamespace, NoRid, BadRid, BadNumber, BadAck, BadType, BadFlag}
use Rattle.session_attrs.specs.declared.refusal.Numbered.TheVariants.{Wait, Hold, Ver, Pause}
use Rattle.session_attrs.specs.declared.request.Creation.{Creation}
use Rattle.session_attrs.specs.declared.request.Kind.TheVariants as kinds
use Rattle.session_attrs.specs.declared.request.Request.{Request}
use Rattle.session_attrs.specs.declared.rows.Asked.{Asked}
use Rattle.session_attrs.specs.Forms.{number_of, pause_of, version_of, wish_of, ack_of, terminate_of, no_type_of, flag_of, says_httpbind}
use Rattle.session_attrs.specs.Rows.{row, told, ◌>>=◌}
use Rattle.session_attrs.specs.Values.{Values}

-- the request id, which must be there
abbrev pub rid_row : Option (List ℕ) → Result ℕ AttrRefusal
rid_row None = Err NoRid
rid_row (Some text) = ok_or (rid_of text) BadRid

-- what every request says: its namespace and its id
unfoldable pub rid_in : Values → Result ℕ AttrRefusal
rid_in v = if says_httpbind v.xmlns then rid_row v.rid else Err WrongNamespace

-- what a creation says
unfoldable pub creation_in : Values → Result Creation AttrRefusal
creation_in v = do
  wait ← row (told number_of) None (BadNumber Wait) v.wait
  hold ← row (told number_of) None (BadNumber Hold) v.hold
  version ← row version_of (1, 0) (BadNumber Ver) v.ver
  asks_ack ← row wish_of false BadAck v.ack
  terminate ← row no_type_of false BadType v.type
  restart ← row flag_of false BadFlag v.restart
  Ok (record { wait = wait; hold = hold; version = version; asks_ack = asks_ack })

-- what a later request with this id says
unfoldable pub asked_in : Values → ℕ → Result Asked AttrRefusal
asked_in v rid = do
  pause ← row (told pause_of) None (BadNumber Pause) v.pause
  ack ← row (told (ack_of rid)) None BadAck v.ack
  terminate ← row terminate_of false BadType v.type
  restart ← row flag_of false BadFlag v.restart
  Ok (record { pause = pause; ack = ack; terminate = terminate; restart = restart })

-- the request that creates a session
abbrev pub creating : Values → List Span → ℕ → Creation → Request
creating v children rid creation = record {
  rid = rid;
  kind = kinds.Creation creation;
  ack = None;
  key = None;
  newkey = v.newkey;
  pause = None;
  stream = None;
  to = v.to;
  restart = false;
  terminate = false;
  stanzas = children;
}

-- the request for the session with this name
abbrev pub continuing : Values → List Span → ℕ → List ℕ → Asked → Request
continuing v children rid sid asked = record {
  rid = rid;
  kind = kinds.Later sid;
  ack = asked.ack;
  key = v.key;
  newkey = v.newkey;
  pause = asked.pause;
  stream = v.stream;
  to = v.to;
  restart = asked.restart;
  terminate = asked.terminate;
  stanzas = children;
}

-- with this id: a request that names no session creates one
unfoldable pub request_with : Values → List Span → ℕ → Option (List ℕ) → Result Request AttrRefusal
request_with v children rid None = creation_in v >>= λ creation. Ok (creating v children rid creation)
request_with v children rid (Some sid) = asked_in v rid >>= λ asked. Ok (continuing v children rid sid asked)

-- the request, or the first refusal
unfoldable pub request_of : Values → List Span → Result Request AttrRefusal
request_of v children = rid_in v >>= λ rid. request_with v children rid v.sid
