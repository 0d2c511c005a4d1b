-- What is asked of the parts of an answer and of a request, and what their texts are read as.
use Rattle.std.specs.Prelude.{◌≡◌, ℕ, Bool, ◌<◌, ◌≤◌, ◌^◌, ◌&&◌, ◌||◌, nat_le, List, length, map, IsTrue, IfSome}
use Rattle.std.specs.List.{All}
use Rattle.bosh_types.specs.Limits.{most_streams}
use Rattle.bosh_types.specs.Rid.{IsRid}
use Rattle.bosh_types.specs.declared.terms.Terms.{Terms}
use Rattle.body_cutter.specs.declared.parts.Cut.{Cut}
use Rattle.body_cutter.specs.Chars.{is_allowed, is_digit}
use Rattle.body_cutter.specs.BodyText.{IsBody}
use Rattle.body_cutter.specs.Built.{IsElementWithin, Written}
use Rattle.body_cutter.specs.Pieces.{bytes_at}
use Rattle.body_cutter.specs.Utf8.{IsUtf8Of}
use Rattle.body_writer.specs.declared.answer.AnswerParts.{AnswerParts}
use Rattle.body_writer.specs.declared.answer.Created.{Created}
use Rattle.body_writer.specs.declared.request.RequestParts.{RequestParts}
use Rattle.body_writer.specs.Answer.{answer_text}
use Rattle.body_writer.specs.Request.{request_text}

-- UTF-8 of allowed characters (XML 1.0 section 2.2)
abbrev pub IsAllowed : List ℕ → Type 0
IsAllowed text = IsUtf8Of is_allowed text

-- a number of 64 bits
abbrev pub IsWord : ℕ → Type 0
IsWord number = number < 2 ^ 64

-- one of the eight streams that a session may have
abbrev pub IsStream : ℕ → Type 0
IsStream stream = stream < most_streams

-- lower-case hexadecimal digits, XEP-0124 section 15
abbrev pub is_key_digit : ℕ → Bool
is_key_digit byte = is_digit byte || (nat_le 97 byte && nat_le byte 102)

abbrev pub IsKey : List ℕ → Type 0
IsKey key = All (λ byte. IsTrue (is_key_digit byte)) key

-- elements by themselves, no more and no deeper than a body may have
abbrev pub ArePayloads : List (List ℕ) → Type 0
ArePayloads payloads = All (IsElementWithin 32 64) payloads × (length payloads ≤ 1024)

-- the longest body
abbrev pub longest : ℕ
longest = 1048576

abbrev pub AreTerms : Terms → Type 0
AreTerms terms =
    IsWord terms.wait × IsWord terms.requests × IsWord terms.inactivity × IsWord terms.polling × IsWord terms.maxpause
    × IsWord terms.hold × IsWord terms.version.0 × IsWord terms.version.1

abbrev pub IsCreated : Created → Type 0
IsCreated created = IsAllowed created.sid × AreTerms created.terms × IsAllowed created.from

-- parts of an answer whose text is within the limits of a body
pub record IsAnswer (parts : AnswerParts) : Type 0 where
  pub created : IfSome parts.created IsCreated
  pub stream : IfSome parts.stream IsStream
  pub ack : IfSome parts.ack IsWord
  pub report : IfSome parts.report (λ report. IsWord report.0 × IsWord report.1)
  pub payloads : ArePayloads parts.payloads
  pub fits : length (answer_text parts) ≤ longest

-- parts of a request whose text is within the limits of a body
pub record IsRequest (parts : RequestParts) : Type 0 where
  pub rid : IsRid parts.rid
  pub sid : IfSome parts.sid IsAllowed
  pub stream : IfSome parts.stream IsStream
  pub to : IfSome parts.to IsAllowed
  pub creation : IfSome parts.creation (λ creation. IsAllowed creation.0 × IsWord creation.1 × IsWord creation.2)
  pub ack : IfSome parts.ack IsWord
  pub key : IfSome parts.key IsKey
  pub newkey : IfSome parts.newkey IsKey
  pub pause : IfSome parts.pause IsWord
  pub payloads : ArePayloads parts.payloads
  pub fits : length (request_text parts) ≤ longest

-- the body's text was cut into attributes with these names and values and into these children
pub record IsCutInto (text : List ℕ) (cut : Cut) (attributes : List Written) (children : List (List ℕ)) : Type 0 where
  pub names : map (λ attribute. bytes_at text attribute.name) cut.attrs ≡ map (λ attribute. attribute.name) attributes
  pub values : map (λ attribute. attribute.value) cut.attrs ≡ map (λ attribute. attribute.value) attributes
  pub children_are : map (λ child. bytes_at text child) cut.children ≡ children

-- the text is a body's, and it is cut into these alone
abbrev pub ReadsAs : List ℕ → List Written → List (List ℕ) → Type 0
ReadsAs text attributes children =
    ((cut : Cut) × IsBody text cut) × ((cut : Cut) → IsBody text cut → IsCutInto text cut attributes children)
