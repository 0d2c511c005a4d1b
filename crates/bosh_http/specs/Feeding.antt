-- What reading the next request answers, where its content goes to a feed.
use Rattle.std.specs.Prelude.{◌≡◌, ℕ, ◌⊎◌, List, [], ◌++◌, drop, Option, None, Some}
use Rattle.std.specs.Io.KnownBytes.{Consumes}
use Rattle.bosh_http.specs.Judging.{IsSettled}
use Rattle.bosh_http.specs.Message.{IsRequestMessage, IsRefused}
use Rattle.bosh_http.specs.Reading.{IsAllOf, GivesNothing}
use Rattle.bosh_http.specs.declared.feeding.HttpFed.{HttpFed}
use Rattle.bosh_http.specs.declared.feeding.HttpFed.TheVariants.{Request, Refused, End, ReadFault}

-- some bytes at the front were let go of, and these are the others
abbrev pub IsEndOf : List ℕ → List ℕ → Type 0
IsEndOf kept seen = (gone : List ℕ) × (seen ≡ gone ++ kept)

-- the answer by the bytes that have been seen, what is kept of them, and the content that was fed
abbrev pub FedBy : List ℕ → List ℕ → Type 0 → List ℕ → HttpFed → Type 0
FedBy seen kept all content (Request closing) = (count : ℕ) × IsRequestMessage seen count content closing × (kept ≡ drop count seen)
FedBy seen kept all content (Refused refusal) = IsRefused seen refusal × (IsSettled refusal ⊎ all) × IsEndOf kept seen
FedBy seen kept all content End = (seen ≡ []) × all × (kept ≡ [])
FedBy seen kept all content ReadFault = GivesNothing seen × IsEndOf kept seen

-- some bytes were taken off the link, and the answer is by those that had been kept and these
abbrev pub FedOver : Option (List ℕ) → Option (List ℕ) → List ℕ → List ℕ → List ℕ → HttpFed → Type 0
FedOver left left' kept kept' content answer = (taken : List ℕ) × Consumes left left' taken × FedBy (kept ++ taken) kept' (IsAllOf left taken) content answer

-- some bytes were taken off the link, and some of all were let go of
abbrev pub LetsGo : Option (List ℕ) → Option (List ℕ) → List ℕ → List ℕ → Type 0
LetsGo left left' kept kept' = (taken : List ℕ) × Consumes left left' taken × IsEndOf kept' (kept ++ taken)

-- the answer by the whole rest of the stream, by what is left of it then, and by the content that was fed
abbrev pub ReadsFed : Option (List ℕ) → Option (List ℕ) → List ℕ → HttpFed → Type 0
ReadsFed None rest content answer = Unit {0}
ReadsFed (Some stream) None content answer = ⊥
ReadsFed (Some stream) (Some rest) content (Request closing) = (count : ℕ) × IsRequestMessage stream count content closing × (rest ≡ drop count stream)
ReadsFed (Some stream) (Some rest) content (Refused refusal) = IsRefused stream refusal × IsEndOf rest stream
ReadsFed (Some stream) (Some rest) content End = (stream ≡ []) × (rest ≡ [])
ReadsFed (Some stream) (Some rest) content ReadFault = IsEndOf rest stream
