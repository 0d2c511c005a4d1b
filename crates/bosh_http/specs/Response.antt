-- What a response message is as it is read, and what is none.
use Rattle.std.specs.Prelude.{◌≡◌, ℕ, ◌+◌, ◌<◌, ◌≤◌, ◌⊎◌, Bool, true, false, nat_lt, List, [], ◌∷◌, ◌++◌, length, take, map, if◌then◌else◌}
use Rattle.httparse.specs.Grammar.{ResponseHead, print_response, status_code, ReadsResponse, HasNoResponse, NeverHasResponse, MayBecomeResponse}
use Rattle.httparse.specs.Spans.{name_and_value}
use Rattle.bosh_http.specs.Fields.{has_too_many, has_transfer, has_no_length, has_bad_length, lengths_of, first_length}
use Rattle.bosh_http.specs.Message.{longest_head, longest_content}

-- one of these holds
abbrev pub is_one_so : List Bool → Bool
is_one_so [] = false
is_one_so (fault ∷ others) = if fault then true else is_one_so others

-- a whole head with this status and these fields is no response that is read: too many fields, no status, another framing,
-- or not one length of a content that is read
unfoldable pub is_bad : ℕ → List (List ℕ × List ℕ) → Bool
is_bad status fields = is_one_so (
    has_too_many fields
    ∷ nat_lt status 100
    ∷ has_transfer fields
    ∷ has_no_length fields
    ∷ has_bad_length fields
    ∷ nat_lt longest_content (first_length (lengths_of fields))
    ∷ []
    )

-- the names and the values of a head
abbrev pub response_fields : ResponseHead → List (List ℕ × List ℕ)
response_fields head = map name_and_value head.fields

-- how many bytes the head says that its content has
abbrev pub response_length : ResponseHead → ℕ
response_length head = first_length (lengths_of (response_fields head))

-- the stream begins with this head, which fits the limit, and goes on with these bytes
abbrev pub BeginsWithResponse : List ℕ → ResponseHead → List ℕ → Type 0
BeginsWithResponse stream head rest = ReadsResponse stream head rest × (length (print_response head) ≤ longest_head)

-- the first count bytes of the stream are one response with this status and content
pub record IsResponseMessage (stream : List ℕ) (count status : ℕ) (content : List ℕ) : Type 0 where
  pub head : ResponseHead
  pub rest : List ℕ
  pub begins : BeginsWithResponse stream head rest
  pub good : is_bad (status_code head) (response_fields head) ≡ false
  pub whole : response_length head ≤ length rest
  pub content_is : content ≡ take (response_length head) rest
  pub count_is : count ≡ length (print_response head) + response_length head
  pub status_is : status ≡ status_code head

-- some bytes at the front of the stream, within the limit, begin no head
abbrev pub BeginsNoResponse : List ℕ → Type 0
BeginsNoResponse stream = (front : List ℕ) × (rest : List ℕ) × (stream ≡ front ++ rest) × (length front ≤ longest_head) × NeverHasResponse front

-- the limit comes before the end of a head
abbrev pub HasLongResponse : List ℕ → Type 0
HasLongResponse stream = (longest_head ≤ length stream) × HasNoResponse (take longest_head stream)

-- the stream begins with a head that is no response that is read
abbrev pub HasBadHead : List ℕ → Type 0
HasBadHead stream = (head : ResponseHead) × (rest : List ℕ) × BeginsWithResponse stream head rest × (is_bad (status_code head) (response_fields head) ≡ true)

-- the stream begins with no response that is read
abbrev pub IsBadStream : List ℕ → Type 0
IsBadStream stream = BeginsNoResponse stream ⊎ (HasLongResponse stream ⊎ HasBadHead stream)

-- these bytes have no whole head, and may begin one
abbrev pub IsResponseBegun : List ℕ → Type 0
IsResponseBegun bytes = HasNoResponse bytes × MayBecomeResponse bytes

-- the stream ends inside the content of a response
abbrev pub EndsInResponse : List ℕ → Type 0
EndsInResponse stream = (head : ResponseHead) × (rest : List ℕ) × BeginsWithResponse stream head rest × (is_bad (status_code head) (response_fields head) ≡ false) × (length rest < response_length head)

-- the stream ends before a whole response that may have begun
abbrev pub EndsEarly : List ℕ → Type 0
EndsEarly stream = ((length stream < longest_head) × IsResponseBegun stream) ⊎ EndsInResponse stream
