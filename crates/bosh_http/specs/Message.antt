-- What a request message is, and what refuses the bytes of a connection.
use Rattle.std.specs.Prelude.{◌≡◌, ℕ, ◌+◌, ◌<◌, ◌≤◌, ◌⊎◌, Bool, not, nat_lt, List, [], ◌∷◌, ◌++◌, length, take, map, Option, None, Some, codes, if◌then◌else◌}
use Rattle.std.specs.Str.{bytes_eq}
use Rattle.httparse.specs.Grammar.{RequestHead, print_request, ReadsRequest, HasNoRequest, NeverHasRequest, MayBecomeRequest, EndsInTarget}
use Rattle.httparse.specs.Spans.{name_and_value}
use Rattle.bosh_http.specs.Fields.{has_too_many, has_bad_host, has_transfer, has_encoding, has_no_length, has_bad_length, lengths_of, first_length, is_closing}
use Rattle.bosh_http.specs.declared.refusal.HttpRefusal.{HttpRefusal}
use Rattle.bosh_http.specs.declared.refusal.HttpRefusal.TheVariants.{Cut, Malformed, HeadTooLarge, BadHost, Get, Method, Path, Transfer, Encoding, NoLength, BadLength, TooLong}

-- the most bytes that a head may have
abbrev pub longest_head : ℕ
longest_head = 8192

-- the most bytes that a content may have
abbrev pub longest_content : ℕ
longest_content = 1048576

-- the names and the values of a head
abbrev pub fields_of : RequestHead → List (List ℕ × List ℕ)
fields_of head = map name_and_value head.fields

-- how many bytes the head says that its content has
abbrev pub content_length : RequestHead → ℕ
content_length head = first_length (lengths_of (fields_of head))

-- the first reason in this list that holds of a head
abbrev pub first_reason : List (Bool × HttpRefusal) → Option HttpRefusal
first_reason [] = None
first_reason (reason ∷ others) = if reason.0 then Some reason.1 else first_reason others

-- why a head with this version, method, target and fields may be refused, in this order
abbrev pub reasons_of : ℕ → List ℕ → List ℕ → List (List ℕ × List ℕ) → List (Bool × HttpRefusal)
reasons_of minor method target fields =
    (has_too_many fields, HeadTooLarge)
    ∷ (has_bad_host minor fields, BadHost)
    ∷ (bytes_eq method (codes "GET"), Get)
    ∷ (not (bytes_eq method (codes "POST")), Method)
    ∷ (not (bytes_eq target (codes "/http-bind")), Path)
    ∷ (has_transfer fields, Transfer)
    ∷ (has_encoding fields, Encoding)
    ∷ (has_no_length fields, NoLength)
    ∷ (has_bad_length fields, BadLength)
    ∷ (nat_lt longest_content (first_length (lengths_of fields)), TooLong)
    ∷ []

-- what refuses it
unfoldable pub refusal_of : ℕ → List ℕ → List ℕ → List (List ℕ × List ℕ) → Option HttpRefusal
refusal_of minor method target fields = first_reason (reasons_of minor method target fields)

-- what refuses a whole head
abbrev pub head_refusal : RequestHead → Option HttpRefusal
head_refusal head = refusal_of head.minor head.method head.target (fields_of head)

-- the stream begins with this head, which fits the limit, and goes on with these bytes
abbrev pub BeginsWith : List ℕ → RequestHead → List ℕ → Type 0
BeginsWith stream head rest = ReadsRequest stream head rest × (length (print_request head) ≤ longest_head)

-- the first count bytes of the stream are one request with this content, and the connection ends after it or goes on
pub record IsRequestMessage (stream : List ℕ) (count : ℕ) (content : List ℕ) (closing : Bool) : Type 0 where
  pub head : RequestHead
  pub rest : List ℕ
  pub begins : BeginsWith stream head rest
  pub served : head_refusal head ≡ None
  pub whole : content_length head ≤ length rest
  pub content_is : content ≡ take (content_length head) rest
  pub count_is : count ≡ length (print_request head) + content_length head
  pub closing_is : closing ≡ is_closing head.minor (fields_of head)

-- the stream begins with a head that is refused so
abbrev pub HasRefusedHead : List ℕ → HttpRefusal → Type 0
HasRefusedHead stream refusal = (head : RequestHead) × (rest : List ℕ) × BeginsWith stream head rest × (head_refusal head ≡ Some refusal)

-- these bytes have no whole head, and may begin one
abbrev pub IsHeadBegun : List ℕ → Type 0
IsHeadBegun bytes = HasNoRequest bytes × MayBecomeRequest bytes

-- the stream ends inside the content of a request that is served
abbrev pub EndsInContent : List ℕ → Type 0
EndsInContent stream = (head : RequestHead) × (rest : List ℕ) × BeginsWith stream head rest × (head_refusal head ≡ None) × (length rest < content_length head)

-- some bytes at the front of the stream, within the limit, begin no head
abbrev pub BeginsNoHead : List ℕ → Type 0
BeginsNoHead stream = (front : List ℕ) × (rest : List ℕ) × (stream ≡ front ++ rest) × (length front ≤ longest_head) × NeverHasRequest front × ¬ (EndsInTarget front)

-- what refuses a stream
abbrev pub IsRefused : List ℕ → HttpRefusal → Type 0
IsRefused stream (Cut count) = (count ≡ length stream) × (0 < count) × (((count < longest_head) × IsHeadBegun stream) ⊎ EndsInContent stream)
IsRefused stream Malformed = BeginsNoHead stream
IsRefused stream HeadTooLarge = ((longest_head ≤ length stream) × IsHeadBegun (take longest_head stream)) ⊎ HasRefusedHead stream HeadTooLarge
IsRefused stream BadHost = HasRefusedHead stream BadHost
IsRefused stream Get = HasRefusedHead stream Get
IsRefused stream Method = HasRefusedHead stream Method
IsRefused stream Path = HasRefusedHead stream Path
IsRefused stream Transfer = HasRefusedHead stream Transfer
IsRefused stream Encoding = HasRefusedHead stream Encoding
IsRefused stream NoLength = HasRefusedHead stream NoLength
IsRefused stream BadLength = HasRefusedHead stream BadLength
IsRefused stream TooLong = HasRefusedHead stream TooLong
