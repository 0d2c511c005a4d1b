-- How long the text of an answer is at most.
use Rattle.std.proofs.Common.{◌≡◌, ℕ, ◌+◌, ◌*◌, ◌≤◌, List, [], ◌∷◌, ◌++◌, length, ap, arith, length-append}
use Rattle.std.specs.Prelude.{Option, None, Some, IfSome, ◌==◌, codes}
use Rattle.std.specs.Fmt.{decimal}
use Rattle.std.proofs.lemmas.Fmt.{length-decimal-le}
use Rattle.bosh_types.specs.Condition.{name_of}
use Rattle.bosh_types.specs.declared.condition.Condition.{Condition}
use Rattle.bosh_types.specs.declared.condition.Condition.TheVariants as conditions
use Rattle.bosh_types.specs.declared.terms.Terms.{Terms}
use Rattle.body_cutter.specs.Built.{Written}
use Rattle.body_writer.specs.declared.answer.AnswerKind.{AnswerKind}
use Rattle.body_writer.specs.declared.answer.AnswerKind.TheVariants.{Usual, Terminate, Error}
use Rattle.body_writer.specs.declared.answer.AnswerParts.{AnswerParts}
use Rattle.body_writer.specs.declared.answer.Created.{Created}
use Rattle.body_writer.specs.Answer.{answer_text}
use Rattle.body_writer.specs.AnswerRows.{ack_rows, answer_attributes, created_rows, kind_rows, report_rows, restart_rows, stream_rows, terms_rows, version_value, xmpp_rows}
use Rattle.body_writer.specs.Attribute.{attribute, closed_with, escaped, escaped_byte, joined}
use Rattle.body_writer.specs.ReadBack.{AreTerms, IsStream, IsWord}
use Rattle.body_writer.specs.Rows.{httpbind_row, named_rows, number_row, rows_text, stream_row, text_row, value_row, xbosh_row, xmpp_version_row}
use Rattle.body_writer.proofs.RowsTexts.{rows_append}
use Rattle.session_laws.proofs.Tests.{split}

-- these rows are at most so long
record Short (rows : List Written) (size : ℕ) : Type 0 where
  short : length (rows_text rows) ≤ size

row_long : (name value : List ℕ) → length (attribute name value) ≡ length name + length value + 4
unfolding attribute
row_long name value =
    omega (
      arith,
      length-append (codes " " ++ name ++ codes "='" ++ value) (codes "'"),
      length-append (codes " " ++ name ++ codes "='") value,
      length-append (codes " " ++ name) (codes "='"),
      length-append (codes " ") name,
    )

none : (size : ℕ) → Short [] size
none size = record { short = omega arith }

one : (row : Written) (size : ℕ) → length row.name + length row.spelling + 4 ≤ size → Short (row ∷ []) size
one row size fits = record { short = omega (arith, fits, row_long row.name row.spelling, length-append (attribute row.name row.spelling) []) }

both : {rows more : List Written} {n m : ℕ} → Short rows n → Short more m → Short (rows ++ more) (n + m)
both {rows = rows} {more = more} a b = record { short = omega (arith, a.short, b.short, ap length (rows_append rows more), length-append (rows_text rows) (rows_text more)) }

-- a byte is written as six at most
byte_long : (b : ℕ) → length (escaped_byte b) ≤ 6
unfolding escaped_byte
byte_long b =
    let P : List ℕ → Type 0 = λ t. length t ≤ 6 in
    split P (b == 38) _ _ (λ _. omega arith) (λ _. split P (b == 60) _ _ (λ _. omega arith) (λ _. split P (b == 39) _ _ (λ _. omega arith)
    (λ _. split P (b == 9) _ _ (λ _. omega arith) (λ _. split P (b == 10) _ _ (λ _. omega arith) (λ _. split P (b == 13) _ _ (λ _. omega arith) (λ _. omega arith))))))

escaped_long : (text : List ℕ) → length (escaped text) ≤ 6 * length text
escaped_long [] = omega arith
escaped_long (b ∷ bytes) = omega (arith, length-append (escaped_byte b) (escaped bytes), byte_long b, escaped_long bytes)

word_long : (number : ℕ) → IsWord number → length (decimal number) ≤ 20
word_long number word = length-decimal-le 20 number (omega arith) (omega (arith, word)) word

number_one : (name : List ℕ) (number size : ℕ) → IsWord number → length name + 24 ≤ size → Short (number_row name number ∷ []) size
number_one name number size word fits = one (number_row name number) size (omega (arith, word_long number word, fits))

-- what is asked of the parts
abbrev pub IsShortCreated : Created → Type 0
IsShortCreated created = (length created.sid ≤ 1024) × AreTerms created.terms × (length created.from ≤ 1023)

pub record AreShort (parts : AnswerParts) : Type 0 where
  pub created : IfSome parts.created IsShortCreated
  pub stream : IfSome parts.stream IsStream
  pub ack : IfSome parts.ack IsWord
  pub report : IfSome parts.report (λ report. IsWord report.0 × IsWord report.1)
  pub payloads : length (joined parts.payloads) ≤ 1000000

xmpp_short : (created : Option Created) → Short (xmpp_rows created) 60
unfolding xmpp_rows
xmpp_short None = none 60
xmpp_short (Some created) = one xbosh_row 60 (omega arith)

stream_short : (created : Option Created) (payloads : List (List ℕ)) → Short (stream_rows created payloads) 60
unfolding stream_rows
stream_short None [] = none 60
stream_short None (payload ∷ payloads) = one stream_row 60 (omega arith)
stream_short (Some created) payloads = one stream_row 60 (omega arith)

name_long : (condition : Condition) → length (name_of condition) ≤ 30
name_long conditions.BadRequest = omega arith
name_long conditions.HostUnknown = omega arith
name_long conditions.ImproperAddressing = omega arith
name_long conditions.ItemNotFound = omega arith
name_long conditions.OtherRequest = omega arith
name_long conditions.PolicyViolation = omega arith
name_long conditions.RemoteConnectionFailed = omega arith
name_long conditions.RemoteStreamError = omega arith
name_long conditions.SystemShutdown = omega arith
name_long conditions.UndefinedCondition = omega arith

kind_short : (kind : AnswerKind) (condition : Option Condition) → Short (kind_rows kind condition) 100
unfolding kind_rows
kind_short Usual condition = none 100
kind_short Terminate None = one (value_row (codes "type") (codes "terminate")) 100 (omega arith)
kind_short Terminate (Some condition) =
    both (one (value_row (codes "type") (codes "terminate")) 40 (omega arith)) (one (value_row (codes "condition") (name_of condition)) 60 (omega (arith, name_long condition)))
kind_short Error condition = one (value_row (codes "type") (codes "error")) 100 (omega arith)

version_long : (version : ℕ × ℕ) → IsWord version.0 → IsWord version.1 → length (version_value version) ≤ 41
unfolding version_value
version_long (major, minor) one two =
    omega (arith, length-append (decimal major ++ codes ".") (decimal minor), length-append (decimal major) (codes "."), word_long major one, word_long minor two)

terms_short : (terms : Terms) → AreTerms terms → Short (terms_rows terms) 320
unfolding terms_rows
terms_short terms (wait, requests, inactivity, polling, maxpause, hold, major, minor) =
    let rows =
    both (number_one (codes "wait") terms.wait 40 wait (omega arith))
    (both (number_one (codes "requests") terms.requests 40 requests (omega arith))
    (both (number_one (codes "inactivity") terms.inactivity 40 inactivity (omega arith))
    (both (number_one (codes "polling") terms.polling 40 polling (omega arith))
    (both (number_one (codes "maxpause") terms.maxpause 40 maxpause (omega arith))
    (both (number_one (codes "hold") terms.hold 40 hold (omega arith))
    (one (value_row (codes "ver") (version_value terms.version)) 60 (omega (arith, version_long terms.version major minor)))))))) in
    record { short = omega (arith, rows.short) }

created_short : (created : Option Created) → IfSome created IsShortCreated → Short (created_rows created) 13000
unfolding created_rows
created_short None is = none 13000
created_short (Some created) (sid, terms, from) =
    let rows =
    both (one (text_row (codes "sid") created.sid) 6200 (omega (arith, sid, escaped_long created.sid)))
    (both (terms_short created.terms terms) (one (text_row (codes "from") created.from) 6200 (omega (arith, from, escaped_long created.from)))) in
    record { short = omega (arith, rows.short) }

named_short : (stream : Option ℕ) → IfSome stream IsStream → Short (named_rows stream) 40
unfolding named_rows
named_short None few = none 40
named_short (Some stream) few = one _ 40 (omega arith)

ack_short : (ack : Option ℕ) → IfSome ack IsWord → Short (ack_rows ack) 40
unfolding ack_rows
ack_short None word = none 40
ack_short (Some rid) word = number_one (codes "ack") rid 40 word (omega arith)

report_short : (report : Option (ℕ × ℕ)) → IfSome report (λ report. IsWord report.0 × IsWord report.1) → Short (report_rows report) 80
unfolding report_rows
report_short None words = none 80
report_short (Some (rid, millis)) words = both (number_one (codes "report") rid 40 words.0 (omega arith)) (number_one (codes "time") millis 40 words.1 (omega arith))

restart_short : (created : Option Created) → Short (restart_rows created) 100
unfolding restart_rows
restart_short None = none 100
restart_short (Some created) = both (one xmpp_version_row 40 (omega arith)) (one (value_row (codes "xmpp:restartlogic") (codes "true")) 60 (omega arith))

closed_long : (payloads : List (List ℕ)) → length (closed_with payloads) ≤ length (joined payloads) + 8
unfolding closed_with
closed_long [] = omega arith
closed_long (payload ∷ payloads) =
    omega (
      arith,
      length-append (codes ">" ++ joined (payload ∷ payloads)) (codes "</body>"),
      length-append (codes ">") (joined (payload ∷ payloads)),
    )

rows_short : (parts : AnswerParts) → AreShort parts → Short (answer_attributes parts) 13600
unfolding answer_attributes
rows_short parts s =
    let rows =
    both (both (both (both (both (both (both (both
    (one httpbind_row 60 (omega arith))
    (xmpp_short parts.created))
    (stream_short parts.created parts.payloads))
    (kind_short parts.kind parts.condition))
    (created_short parts.created s.created))
    (named_short parts.stream s.stream))
    (ack_short parts.ack s.ack))
    (report_short parts.report s.report))
    (restart_short parts.created) in
    record { short = omega (arith, rows.short) }

pub answer_fits : (parts : AnswerParts) → AreShort parts → length (answer_text parts) ≤ 1048576
unfolding answer_text
answer_fits parts s =
    let rows = answer_attributes parts in
    omega (
      arith,
      s.payloads,
      (rows_short parts s).short,
      closed_long parts.payloads,
      length-append (codes "<body" ++ rows_text rows) (closed_with parts.payloads),
      length-append (codes "<body") (rows_text rows),
    )
