-- What the values and the payloads of an answer mean to a client, attribute by attribute.
use Rattle.std.specs.Prelude.{◌≡◌, ℕ, Bool, true, false, ◌||◌, ◌⊎◌, not, IsSome, IsTrue, List, [], ◌∷◌, Option, None, Some, is_some, codes, if◌then◌else◌}
use Rattle.std.specs.List.{find}
use Rattle.std.specs.Option.{option_map, unwrap_or}
use Rattle.std.specs.Str.{bytes_eq}
use Rattle.bosh_types.specs.Condition.{name_of}
use Rattle.bosh_types.specs.Rid.{rid_of}
use Rattle.bosh_types.specs.declared.condition.Condition.{Condition}
use Rattle.bosh_types.specs.declared.condition.Condition.TheVariants.{BadRequest, HostUnknown, ImproperAddressing, ItemNotFound, OtherRequest, PolicyViolation, RemoteConnectionFailed, RemoteStreamError, SystemShutdown, UndefinedCondition}
use Rattle.bosh_types.specs.Limits.{most_streams}
use Rattle.stream_names.specs.Streams.{named, numbers_from}
use Rattle.session_attrs.specs.Forms.{number_of, says_httpbind}
use Rattle.session_attrs.specs.Rows.{Says, is_bad, told}
use Rattle.bosh_client.specs.declared.replies.ClientEnd.{ClientEnd}
use Rattle.bosh_client.specs.declared.replies.Why.{Why}
use Rattle.bosh_client.specs.declared.replies.Why.TheVariants.{Cut, Namespace, Attribute, NoSid}
use Rattle.bosh_client.specs.declared.said.AnswerType.{AnswerType}
use Rattle.bosh_client.specs.declared.said.AnswerType.TheVariants.{Terminate, Error}
use Rattle.bosh_client.specs.declared.told.Naming.{Naming}
use Rattle.bosh_client.specs.declared.told.Naming.TheVariants.{Unnamed, Stream, Unknown}
use Rattle.bosh_client.specs.declared.told.Told.{Told}
use Rattle.bosh_client.specs.AnswerValues.{AnswerValues}

abbrev pub conditions : List Condition
conditions =
    BadRequest ∷ HostUnknown ∷ ImproperAddressing ∷ ItemNotFound ∷ OtherRequest ∷ PolicyViolation ∷ RemoteConnectionFailed
    ∷ RemoteStreamError ∷ SystemShutdown ∷ UndefinedCondition ∷ []

-- `condition`, XEP-0124 section 17.2: one that has no name here is an undefined one
unfoldable pub condition_of : List ℕ → Condition
condition_of text = unwrap_or (find (λ condition. bytes_eq (name_of condition) text) conditions) UndefinedCondition

-- `type`, XEP-0124 section 17: the session ends, or the request counts as not received
unfoldable pub type_of : List ℕ → Option AnswerType
type_of text =
    if bytes_eq text (codes "terminate") then Some Terminate else if bytes_eq text (codes "error") then Some Error else None

-- its type says this
abbrev pub HasType : AnswerValues → AnswerType → Type 0
HasType v kind = (text : List ℕ) × (v.type ≡ Some text) × (type_of text ≡ Some kind)

-- an answer is terminal exactly where its type says so and it names no stream, XEP-0124 sections 13, 16 and 17, and only then its condition
-- is read: one that names a stream tells that this one is closed; it is an error exactly where its type says so, and says nothing of the
-- session's end then
abbrev pub MeansEnd : AnswerValues → Option ClientEnd → Bool → Type 0
MeansEnd v None false = (v.type ≡ None) ⊎ (HasType v Terminate × IsSome v.stream)
MeansEnd v None true = HasType v Error
MeansEnd v (Some end) error =
    HasType v Terminate × (v.stream ≡ None) × (end.condition ≡ option_map condition_of v.condition) × (error ≡ false)

-- which of the eight streams has the name, XEP-0124 section 16
abbrev pub naming_by : Option ℕ → Naming
naming_by None = Unknown
naming_by (Some stream) = Stream stream

abbrev pub naming_of : Option (List ℕ) → Naming
naming_of None = Unnamed
naming_of (Some name) = naming_by (named (numbers_from 0 most_streams) name)

-- an acknowledgement is a request id, XEP-0124 section 9
abbrev pub MeansAck : Option (List ℕ) → Bool → Type 0
MeansAck None acknowledges = acknowledges ≡ false
MeansAck (Some text) acknowledges = IsTrue (is_some (rid_of text)) × (acknowledges ≡ true)

-- the values and the payloads mean this
pub record MeansAnswer (v : AnswerValues) (payloads : List (List ℕ)) (t : Told) : Type 0 where
  -- XEP-0124 section 6
  pub xmlns : IsTrue (says_httpbind v.xmlns)
  pub end : MeansEnd v t.end t.error
  -- XEP-0124 section 7.2
  pub sid : t.sid ≡ v.sid
  -- XEP-0124 sections 7.2, 10 and 11
  pub requests : Says (told number_of) None v.requests t.requests
  pub polling : Says (told number_of) None v.polling t.polling
  pub maxpause : Says (told number_of) None v.maxpause t.maxpause
  pub ack : MeansAck v.ack t.acknowledges
  -- XEP-0124 section 16
  pub stream : t.stream ≡ naming_of v.stream
  pub payloads_are : t.payloads ≡ payloads

-- an attribute is out of form
abbrev pub has_bad_attribute : AnswerValues → Bool
has_bad_attribute v =
    (((is_bad type_of v.type || is_bad rid_of v.ack) || is_bad number_of v.requests) || is_bad number_of v.polling) || is_bad number_of v.maxpause

-- the fact of each reason that values can give
abbrev pub fact : AnswerValues → Why → Bool
fact v Namespace = not (says_httpbind v.xmlns)
fact v Attribute = has_bad_attribute v
fact v (Cut refusal) = false
fact v NoSid = false

-- the first that holds
unfoldable pub broken_values : AnswerValues → Option Why
broken_values v = find (fact v) (Namespace ∷ Attribute ∷ [])
