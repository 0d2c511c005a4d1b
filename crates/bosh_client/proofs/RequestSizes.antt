-- How long the text of a request is at most.
use Rattle.std.proofs.Common.{◌≡◌, ℕ, ◌+◌, ◌*◌, ◌≤◌, Bool, true, false, List, [], ◌∷◌, ◌++◌, length, ap, arith, length-append}
use Rattle.std.specs.Prelude.{Option, None, Some, IfSome, ◌==◌, codes}
use Rattle.std.specs.Fmt.{decimal}
use Rattle.std.proofs.lemmas.Fmt.{length-decimal-le}
use Rattle.body_cutter.specs.Built.{Written}
use Rattle.body_writer.specs.declared.request.RequestParts.{RequestParts}
use Rattle.body_writer.specs.Attribute.{attribute, closed_with, escaped, escaped_byte, joined}
use Rattle.stream_names.specs.Streams.{name_of}
use Rattle.body_writer.specs.ReadBack.{IsStream, IsWord}
use Rattle.body_writer.specs.Request.{request_text}
use Rattle.body_writer.specs.RequestRows.{request_attributes, xmpp_rows, sid_rows, creation_rows, host_rows, number_rows, key_rows, terminate_rows, version_rows, restart_rows}
use Rattle.body_writer.specs.Rows.{httpbind_row, named_rows, number_row, rows_text, text_row, value_row, xbosh_row, xmpp_version_row}
use Rattle.body_writer.proofs.RowsTexts.{rows_append}
use Rattle.bosh_client.proofs.RunLemmas.{by_if}

-- these rows are at most so long
record Short (rows : List Written) (size : ℕ) : Type 0 where
  short : length (rows_text rows) ≤ size

row_long : (name value : List ℕ) → length (attribute name value) ≡ length name + length value + 4
unfolding attribute
row_long name value =
    omega (
      arith,
      length-append (codes " " ++ name ++ codes "='" ++ value) (codes "'"),
      length-append (codes " " ++ name ++ codes "='") value,
      length-append (codes " " ++ name) (codes "='"),
      length-append (codes " ") name,
    )

none : (size : ℕ) → Short [] size
none size = record { short = omega arith }

one : (row : Written) (size : ℕ) → length row.name + length row.spelling + 4 ≤ size → Short (row ∷ []) size
one row size fits = record { short = omega (arith, fits, row_long row.name row.spelling, length-append (attribute row.name row.spelling) []) }

both : {rows more : List Written} {n m : ℕ} → Short rows n → Short more m → Short (rows ++ more) (n + m)
both {rows = rows} {more = more} a b = record { short = omega (arith, a.short, b.short, ap length (rows_append rows more), length-append (rows_text rows) (rows_text more)) }

-- a byte is written as six at most
byte_long : (b : ℕ) → length (escaped_byte b) ≤ 6
unfolding escaped_byte
byte_long b =
    let P : List ℕ → Type 0 = λ t. length t ≤ 6 in
    by_if P (b == 38) _ _ (λ _. omega arith) (λ _. by_if P (b == 60) _ _ (λ _. omega arith) (λ _. by_if P (b == 39) _ _ (λ _. omega arith)
    (λ _. by_if P (b == 9) _ _ (λ _. omega arith) (λ _. by_if P (b == 10) _ _ (λ _. omega arith) (λ _. by_if P (b == 13) _ _ (λ _. omega arith) (λ _. omega arith))))))

escaped_long : (text : List ℕ) → length (escaped text) ≤ 6 * length text
escaped_long [] = omega arith
escaped_long (b ∷ bytes) = omega (arith, length-append (escaped_byte b) (escaped bytes), byte_long b, escaped_long bytes)

word_long : (number : ℕ) → IsWord number → length (decimal number) ≤ 20
word_long number word = length-decimal-le 20 number (omega arith) (omega (arith, word)) word

number_one : (name : List ℕ) (number size : ℕ) → IsWord number → length name + 24 ≤ size → Short (number_row name number ∷ []) size
number_one name number size word fits = one (number_row name number) size (omega (arith, word_long number word, fits))

-- what is asked of the parts
pub record AreShort (parts : RequestParts) : Type 0 where
  pub rid : IsWord parts.rid
  pub sid : IfSome parts.sid (λ sid. length sid ≤ 1024)
  pub stream : IfSome parts.stream IsStream
  pub to : IfSome parts.to (λ to. length to ≤ 1023)
  pub creation : IfSome parts.creation (λ creation. (length creation.0 ≤ 1023) × IsWord creation.1 × IsWord creation.2)
  pub ack : IfSome parts.ack IsWord
  pub key : IfSome parts.key (λ key. length key ≤ 40)
  pub newkey : IfSome parts.newkey (λ key. length key ≤ 40)
  pub pause : IfSome parts.pause IsWord
  pub payloads : length (joined parts.payloads) ≤ 1000000

xmpp_short : (creation : Option (List ℕ × ℕ × ℕ)) (restart : Bool) → Short (xmpp_rows creation restart) 60
unfolding xmpp_rows
xmpp_short None false = none 60
xmpp_short None true = one xbosh_row 60 (omega arith)
xmpp_short (Some creation) restart = one xbosh_row 60 (omega arith)

sid_short : (sid : Option (List ℕ)) → IfSome sid (λ sid. length sid ≤ 1024) → Short (sid_rows sid) 6200
unfolding sid_rows
sid_short None few = none 6200
sid_short (Some sid) few = one (text_row (codes "sid") sid) 6200 (omega (arith, few, escaped_long sid))

named_short : (stream : Option ℕ) → Short (named_rows stream) 40
unfolding named_rows
named_short None = none 40
named_short (Some stream) = one (value_row (codes "stream") (name_of stream)) 40 (omega arith)

creation_short : (creation : Option (List ℕ × ℕ × ℕ)) (to : Option (List ℕ)) → IfSome creation (λ creation. (length creation.0 ≤ 1023) × IsWord creation.1 × IsWord creation.2) → IfSome to (λ to. length to ≤ 1023) → Short (host_rows creation to) 6500
unfolding host_rows creation_rows
creation_short None None few long = none 6500
creation_short None (Some to) few long = one (text_row (codes "to") to) 6500 (omega (arith, long, escaped_long to))
creation_short (Some (to, wait, hold)) other few long =
    let rows =
    both (one (text_row (codes "to") to) 6200 (omega (arith, few.0, escaped_long to)))
    (both (one (value_row (codes "xml:lang") (codes "en")) 40 (omega arith))
    (both (number_one (codes "wait") wait 40 few.1 (omega arith))
    (both (number_one (codes "hold") hold 40 few.2 (omega arith))
    (both (one (value_row (codes "ver") (codes "1.11")) 40 (omega arith)) (one (value_row (codes "content") (codes "text/xml; charset=utf-8")) 60 (omega arith)))))) in
    record { short = omega (arith, rows.short) }

number_short : (name : List ℕ) (number : Option ℕ) → IfSome number IsWord → length name ≤ 10 → Short (number_rows name number) 40
unfolding number_rows
number_short name None word few = none 40
number_short name (Some number) word few = number_one name number 40 word (omega (arith, few))

key_short : (name : List ℕ) (key : Option (List ℕ)) → IfSome key (λ key. length key ≤ 40) → length name ≤ 10 → Short (key_rows name key) 60
unfolding key_rows
key_short name None long few = none 60
key_short name (Some key) long few = one (value_row name key) 60 (omega (arith, long, few))

terminate_short : (terminate : Bool) → Short (terminate_rows terminate) 40
unfolding terminate_rows
terminate_short true = one (value_row (codes "type") (codes "terminate")) 40 (omega arith)
terminate_short false = none 40

version_short : (creation : Option (List ℕ × ℕ × ℕ)) → Short (version_rows creation) 40
unfolding version_rows
version_short None = none 40
version_short (Some creation) = one xmpp_version_row 40 (omega arith)

restart_short : (restart : Bool) → Short (restart_rows restart) 40
unfolding restart_rows
restart_short true = one (value_row (codes "xmpp:restart") (codes "true")) 40 (omega arith)
restart_short false = none 40

closed_long : (payloads : List (List ℕ)) → length (closed_with payloads) ≤ length (joined payloads) + 8
unfolding closed_with
closed_long [] = omega arith
closed_long (payload ∷ payloads) =
    omega (
      arith,
      length-append (codes ">" ++ joined (payload ∷ payloads)) (codes "</body>"),
      length-append (codes ">") (joined (payload ∷ payloads)),
    )

rows_short : (parts : RequestParts) → AreShort parts → Short (request_attributes parts) 13300
unfolding request_attributes
rows_short parts s =
    let rows =
    both (both (both (both (both (both (both (both (both (both (both (both
    (one httpbind_row 60 (omega arith))
    (xmpp_short parts.creation parts.restart))
    (number_one (codes "rid") parts.rid 40 s.rid (omega arith)))
    (sid_short parts.sid s.sid))
    (named_short parts.stream))
    (creation_short parts.creation parts.to s.creation s.to))
    (number_short (codes "ack") parts.ack s.ack (omega arith)))
    (key_short (codes "key") parts.key s.key (omega arith)))
    (key_short (codes "newkey") parts.newkey s.newkey (omega arith)))
    (number_short (codes "pause") parts.pause s.pause (omega arith)))
    (terminate_short parts.terminate))
    (version_short parts.creation))
    (restart_short parts.restart) in
    record { short = omega (arith, rows.short) }

pub request_fits : (parts : RequestParts) → AreShort parts → length (request_text parts) ≤ 1048576
unfolding request_text
request_fits parts s =
    let rows = request_attributes parts in
    omega (
      arith,
      s.payloads,
      (rows_short parts s).short,
      closed_long parts.payloads,
      length-append (codes "<body" ++ rows_text rows) (closed_with parts.payloads),
      length-append (codes "<body") (rows_text rows),
    )
