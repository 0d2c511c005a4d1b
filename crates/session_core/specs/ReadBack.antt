-- What the text of a request means to the one who reads it.
use Rattle.std.specs.Prelude.{◌≡◌, ℕ, ◌<◌, ◌≤◌, false, List, [], Option, None, Some, is_some, IsSome, IfSome}
use Rattle.std.specs.Option.{option_map, unwrap_or}
use Rattle.stream_names.specs.Streams.{name_of}
use Rattle.body_cutter.specs.declared.parts.Span.{Span}
use Rattle.body_writer.specs.declared.request.RequestParts.{RequestParts}
use Rattle.session_attrs.specs.declared.request.Kind.TheVariants as kinds
use Rattle.session_attrs.specs.declared.request.Request.{Request}

-- the greatest number of 9 digits
abbrev pub greatest_number : ℕ
greatest_number = 999999999

-- a creation names no session, neither ends nor restarts one, and asks for acknowledgements by `1`, XEP-0124 sections 7.1 and 9
pub record IsCreation (parts : RequestParts) (wait hold : ℕ) : Type 0 where
  pub sid : parts.sid ≡ None
  pub key : parts.key ≡ None
  pub pause : parts.pause ≡ None
  pub terminate : parts.terminate ≡ false
  pub restart : parts.restart ≡ false
  pub wait_within : wait ≤ greatest_number
  pub hold_within : hold ≤ greatest_number
  pub ack : IfSome parts.ack (λ ack. ack ≡ 1)

-- every other request names its session, and acknowledges an id lower than its own, XEP-0124 sections 9 and 10
pub record IsLater (parts : RequestParts) : Type 0 where
  pub sid : IsSome parts.sid
  pub ack : IfSome parts.ack (λ ack. (1 ≤ ack) × (ack < parts.rid))
  pub pause : IfSome parts.pause (λ pause. (1 ≤ pause) × (pause ≤ greatest_number))

abbrev pub IsInForm : RequestParts → Option (List ℕ × ℕ × ℕ) → Type 0
IsInForm parts None = IsLater parts
IsInForm parts (Some (to, wait, hold)) = IsCreation parts wait hold

-- what a client asks for by these parts, with these children: a creation, or a request for its session
abbrev pub asked_for : RequestParts → List Span → Option (List ℕ × ℕ × ℕ) → Request
asked_for parts children None = record {
  rid = parts.rid;
  kind = kinds.Later (unwrap_or parts.sid []);
  ack = parts.ack;
  key = parts.key;
  newkey = parts.newkey;
  pause = parts.pause;
  stream = option_map name_of parts.stream;
  to = parts.to;
  restart = parts.restart;
  terminate = parts.terminate;
  stanzas = children;
}
asked_for parts children (Some (to, wait, hold)) = record {
  rid = parts.rid;
  kind = kinds.Creation (record { wait = Some wait; hold = Some hold; version = (1, 11); asks_ack = is_some parts.ack });
  ack = None;
  key = None;
  newkey = parts.newkey;
  pause = None;
  stream = None;
  to = Some to;
  restart = false;
  terminate = false;
  stanzas = children;
}

abbrev pub asked_by : RequestParts → List Span → Request
asked_by parts children = asked_for parts children parts.creation
