-- What reading the next response answers.
use Rattle.std.specs.Prelude.{◌≡◌, ◌≢◌, ℕ, ◌<◌, ◌==◌, ◌⊎◌, if◌then◌else◌, ⊤, List, ◌++◌, length, drop, Option, None, Some}
use Rattle.std.specs.Io.KnownBytes.{Consumes}
use Rattle.httparse.specs.Grammar.{HasNoResponse}
use Rattle.bosh_http.specs.Message.{longest_head}
use Rattle.bosh_http.specs.Reading.{IsAllOf}
use Rattle.bosh_http.specs.Response.{IsResponseMessage, IsBadStream, EndsInResponse, EndsEarly}
use Rattle.bosh_http.specs.declared.reader.Came.{Came}
use Rattle.bosh_http.specs.declared.reader.Came.TheVariants as came
use Rattle.bosh_http.specs.declared.reader.Front.{Front}
use Rattle.bosh_http.specs.declared.reader.Front.TheVariants as front
use Rattle.bosh_http.specs.declared.responding.ResponseIn.{ResponseIn}
use Rattle.bosh_http.specs.declared.responding.ResponseIn.TheVariants.{Body, Status, Bad, End, ReadFault}

-- these bytes give no response yet: no head is whole in them, or some of the content is to come
abbrev pub GivesNoResponse : List ℕ → Type 0
GivesNoResponse bytes = ((length bytes < longest_head) × HasNoResponse bytes) ⊎ EndsInResponse bytes

-- the answer by the bytes that have been seen, and what is kept of them; where the stream ended these were all
abbrev pub RespondsBy : List ℕ → List ℕ → Type 0 → ResponseIn → Type 0
RespondsBy seen kept all (Body body) = (count : ℕ) × IsResponseMessage seen count 200 body × (kept ≡ drop count seen)
RespondsBy seen kept all (Status status) = (status ≢ 200) × (count : ℕ) × (content : List ℕ) × IsResponseMessage seen count status content × (kept ≡ drop count seen)
RespondsBy seen kept all Bad = IsBadStream seen × (kept ≡ seen)
RespondsBy seen kept all End = EndsEarly seen × all × (kept ≡ seen)
RespondsBy seen kept all ReadFault = GivesNoResponse seen × (kept ≡ seen)

-- what the bytes that have come give: an answer that needs no more of them, or nothing, where more are wanted
abbrev pub FrontResponds : List ℕ → List ℕ → Option ResponseIn → Type 0
FrontResponds seen kept None = GivesNoResponse seen × (kept ≡ seen)
FrontResponds seen kept (Some answer) = RespondsBy seen kept ⊥ answer × (answer ≢ ReadFault)

-- the answer by a response with this status and content
unfoldable pub answered : ℕ → List ℕ → ResponseIn
answered status body = if status == 200 then Body body else Status status

-- what stands at the front as an answer
abbrev pub front_response : Front ℕ ⊤ → Option ResponseIn
front_response (front.Message body status) = Some (answered status body)
front_response (front.Wrong fault) = Some Bad
front_response front.More = None

-- what was read of responses as an answer
abbrev pub response_of : Came ℕ ⊤ → ResponseIn
response_of (came.Message body status) = answered status body
response_of (came.Wrong fault) = Bad
response_of came.Ended = End
response_of came.Failed = ReadFault

-- some bytes were taken off the link, and the answer is by those that had been kept and these
abbrev pub Responds : Option (List ℕ) → Option (List ℕ) → List ℕ → List ℕ → ResponseIn → Type 0
Responds left left' kept kept' answer = (taken : List ℕ) × Consumes left left' taken × RespondsBy (kept ++ taken) kept' (IsAllOf left taken) answer

-- the answer by the whole rest of the stream, and by what is left of it then
abbrev pub ReadsBack : Option (List ℕ) → Option (List ℕ) → ResponseIn → Type 0
ReadsBack None rest answer = Unit {0}
ReadsBack (Some stream) None answer = ⊥
ReadsBack (Some stream) (Some rest) (Body body) = (count : ℕ) × IsResponseMessage stream count 200 body × (rest ≡ drop count stream)
ReadsBack (Some stream) (Some rest) (Status status) = (status ≢ 200) × (count : ℕ) × (content : List ℕ) × IsResponseMessage stream count status content × (rest ≡ drop count stream)
ReadsBack (Some stream) (Some rest) Bad = IsBadStream stream × (rest ≡ stream)
ReadsBack (Some stream) (Some rest) End = EndsEarly stream × (rest ≡ stream)
ReadsBack (Some stream) (Some rest) ReadFault = rest ≡ stream
