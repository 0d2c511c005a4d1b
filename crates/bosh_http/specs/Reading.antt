-- What reading the next request answers.
use Rattle.std.specs.Prelude.{◌≡◌, ◌≢◌, ℕ, ◌<◌, ◌==◌, ◌⊎◌, Bool, if◌then◌else◌, List, [], ◌++◌, length, drop, Option, None, Some, IfSome}
use Rattle.std.specs.Io.KnownBytes.{Consumes}
use Rattle.bosh_http.specs.Judging.{IsSettled}
use Rattle.httparse.specs.Grammar.{HasNoRequest}
use Rattle.bosh_http.specs.Message.{longest_head, EndsInContent, IsRequestMessage, IsRefused}
use Rattle.bosh_http.specs.declared.reader.Came.{Came}
use Rattle.bosh_http.specs.declared.reader.Came.TheVariants as came
use Rattle.bosh_http.specs.declared.reading.HttpIn.{HttpIn}
use Rattle.bosh_http.specs.declared.reading.HttpIn.TheVariants.{Request, Refused, End, ReadFault}
use Rattle.bosh_http.specs.declared.refusal.HttpRefusal.{HttpRefusal}
use Rattle.bosh_http.specs.declared.refusal.HttpRefusal.TheVariants.{Cut}

-- these are all of the bytes that were left, where the link tells them
abbrev pub IsAllOf : Option (List ℕ) → List ℕ → Type 0
IsAllOf left taken = IfSome left (λ bytes. taken ≡ bytes)

-- these bytes give no message yet: no head is whole in them, or some of the content of a request that is served is to come
abbrev pub GivesNothing : List ℕ → Type 0
GivesNothing bytes = ((length bytes < longest_head) × HasNoRequest bytes) ⊎ EndsInContent bytes

-- the answer by the bytes that have been seen, and what is kept of them: a refusal needs no more bytes, or these were all
abbrev pub AnswersBy : List ℕ → List ℕ → Type 0 → HttpIn → Type 0
AnswersBy seen kept all (Request body closing) = (count : ℕ) × IsRequestMessage seen count body closing × (kept ≡ drop count seen)
AnswersBy seen kept all (Refused refusal) = IsRefused seen refusal × (IsSettled refusal ⊎ all) × (kept ≡ seen)
AnswersBy seen kept all End = (seen ≡ []) × all × (kept ≡ [])
AnswersBy seen kept all ReadFault = GivesNothing seen × (kept ≡ seen)

-- what the bytes that have come give: an answer that needs no more of them, or nothing, where more are wanted
abbrev pub FrontGives : List ℕ → List ℕ → Option HttpIn → Type 0
FrontGives seen kept None = GivesNothing seen × (kept ≡ seen)
FrontGives seen kept (Some answer) = AnswersBy seen kept ⊥ answer × (answer ≢ ReadFault)

-- the answer where the stream ended and no request is whole in these many bytes
unfoldable pub ended_answer : ℕ → HttpIn
ended_answer count = if count == 0 then End else Refused (Cut count)

-- what was read of requests as an answer, where so many bytes are kept
abbrev pub answer_of : ℕ → Came Bool HttpRefusal → HttpIn
answer_of count (came.Message body closing) = Request body closing
answer_of count (came.Wrong refusal) = Refused refusal
answer_of count came.Ended = ended_answer count
answer_of count came.Failed = ReadFault

-- some bytes were taken off the link, and the answer is by those that had been kept and these
abbrev pub Answers : Option (List ℕ) → Option (List ℕ) → List ℕ → List ℕ → HttpIn → Type 0
Answers left left' kept kept' answer = (taken : List ℕ) × Consumes left left' taken × AnswersBy (kept ++ taken) kept' (IsAllOf left taken) answer

-- the answer by the whole rest of the stream, and by what is left of it then
abbrev pub Reads : Option (List ℕ) → Option (List ℕ) → HttpIn → Type 0
Reads None rest answer = Unit {0}
Reads (Some stream) None answer = ⊥
Reads (Some stream) (Some rest) (Request body closing) = (count : ℕ) × IsRequestMessage stream count body closing × (rest ≡ drop count stream)
Reads (Some stream) (Some rest) (Refused refusal) = IsRefused stream refusal × (rest ≡ stream)
Reads (Some stream) (Some rest) End = (stream ≡ []) × (rest ≡ [])
Reads (Some stream) (Some rest) ReadFault = rest ≡ stream
