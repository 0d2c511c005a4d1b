-- What is known of lines that were read well.
use Rattle.std.proofs.Common.{◌≡◌, ℕ, List, Bool, true, false, Option, Some, None, [], ◌+◌, length, if◌then◌else◌, refl}
use Rattle.std.specs.Prelude.{◌&&◌, ⊤, IsTrue, codes}
use Rattle.std.specs.Str.{bytes_eq}
use Rattle.bosh_types.specs.Rid.{rid_of}
use Rattle.bosh_types.specs.declared.ending.Closing.{Closing}
use Rattle.body_cutter.specs.declared.parts.Cut.{Cut}
use Rattle.body_cutter.specs.Cutting.{is_stanza}
use Rattle.session_core.specs.Copy.{unnamed}
use Rattle.script_text.specs.declared.line.BadKind.TheVariants.{Grammar}
use Rattle.script_text.specs.declared.line.LineRead.{LineRead}
use Rattle.script_text.specs.declared.line.LineRead.TheVariants.{Line, BadLine}
use Rattle.script_text.specs.declared.line.ScriptLine.TheVariants.{Open, At, Close}
use Rattle.session_attrs.specs.Serving.{is_host_name, may_greet}
use Rattle.script_text.specs.Line.{word_of, rest_of, open_of, short_of, request_of, host_of, host_with, greeting_of, post_of, body_of, connection_of, moment_of, at_of, close_of, given_of, given_on, named_given, back_of, back_on_of, closing_of, shutting_of, closed_of, closed_on, named_closed, shut_of, shut_on_of, stream_of, later_line, line_of}
use Rattle.script_text.specs.Names.{is_sid}
use Rattle.script_text.specs.Said.{IsWellRead}
use Rattle.script_text.specs.Stanza.{parts_of, within_body, slices_of, is_row, greeting_in, row_in, row_of}

-- by a test
either : (b : Bool) (one other : LineRead) → (b ≡ true → IsWellRead one) → IsWellRead other → IsWellRead (if b then one else other)
either true one other if_one if_other = if_one refl
either false one other if_one if_other = if_other

both : (a b : Bool) → a ≡ true → b ≡ true → IsTrue (a && b)
both true true a_is b_is = refl
both true false a_is b_is = absurd (cc)
both false b a_is b_is = absurd (cc)

well_open : (text : Option (List ℕ)) → IsWellRead (open_of text)
well_open None = tt
well_open (Some text) = at (rid_of text)
  where
    at : (o : Option ℕ) → IsWellRead (elim o [ None ↦ BadLine Grammar | Some rid ↦ Line (Open rid) ])
    at None = tt
    at (Some rid) = tt

well_request : (rid : Option ℕ) (stanza : Option (List ℕ)) → IsWellRead (request_of rid stanza)
well_request None stanza = tt
well_request (Some rid) None = tt
well_request (Some rid) (Some stanza) = either (is_stanza stanza) _ _ (λ _. tt) tt

well_short : (text : Option (List ℕ)) → IsWellRead (short_of text)
well_short None = tt
well_short (Some text) = well_request (rid_of (word_of text)) (rest_of text)

-- a row is a greeting that one answer may take
abbrev May : Option (List (List ℕ)) → Type 0
May None = ⊤
May (Some greeting) = may_greet greeting ≡ true

greeting_may : (stanzas : List (List ℕ)) → May (greeting_in stanzas)
greeting_may stanzas = by (may_greet stanzas) refl
  where
    by : (b : Bool) → may_greet stanzas ≡ b → May (if b then Some stanzas else None)
    by true is = is
    by false is = tt

row_may : (text : List ℕ) (cut : Option Cut) → May (row_in text cut)
row_may text None = tt
row_may text (Some cut) = by (is_row 6 cut.children (6 + length text))
  where
    by : (b : Bool) → May (if b then greeting_in (slices_of (within_body text) cut.children) else None)
    by true = greeting_may _
    by false = tt

rows_may : (text : List ℕ) → May (row_of text)
unfolding row_of
rows_may text = row_may text (parts_of (within_body text))

none_may : may_greet [] ≡ true
unfolding may_greet
none_may = refl

greetings_may : (text : Option (List ℕ)) → May (greeting_of text)
greetings_may None = none_may
greetings_may (Some text) = rows_may text

well_with : (name : List ℕ) (greeting : Option (List (List ℕ))) → May greeting → IsWellRead (host_with name greeting)
well_with name None may = tt
well_with name (Some greeting) may = either (is_host_name name) _ _ (λ is. both (is_host_name name) (may_greet greeting) is may) tt

well_host : (text : Option (List ℕ)) → IsWellRead (host_of text)
well_host None = tt
well_host (Some text) = well_with (word_of text) (greeting_of (rest_of text)) (greetings_may (rest_of text))

well_body : (conn : Option ℕ) (body : Option (List ℕ)) → IsWellRead (body_of conn body)
well_body None body = tt
well_body (Some conn) None = tt
well_body (Some conn) (Some body) = tt

well_post : (text : Option (List ℕ)) → IsWellRead (post_of text)
well_post None = tt
well_post (Some text) = well_body (connection_of (rid_of (word_of text))) (rest_of text)

well_at : (text : Option (List ℕ)) → IsWellRead (at_of text)
well_at None = tt
well_at (Some text) = at (moment_of text)
  where
    at : (o : Option ℕ) → IsWellRead (elim o [ None ↦ BadLine Grammar | Some moment ↦ Line (At moment) ])
    at None = tt
    at (Some moment) = tt

well_close : (text : Option (List ℕ)) → IsWellRead (close_of text)
well_close None = tt
well_close (Some text) = at (connection_of (rid_of text))
  where
    at : (o : Option ℕ) → IsWellRead (elim o [ None ↦ BadLine Grammar | Some conn ↦ Line (Close conn) ])
    at None = tt
    at (Some conn) = tt

well_given : (sid : List ℕ) (stream : ℕ) (stanza : Option (List ℕ)) → IsWellRead (given_of sid stream stanza)
well_given sid stream None = tt
well_given sid stream (Some stanza) = either (is_stanza stanza) _ _ (λ is. is) tt

well_back : (text : Option (List ℕ)) → IsWellRead (back_of text)
well_back None = tt
well_back (Some text) = either (is_sid (word_of text)) _ _ (λ _. well_given (word_of text) unnamed (rest_of text)) tt

well_given_on : (sid : List ℕ) (stream : Option ℕ) (stanza : Option (List ℕ)) → IsWellRead (given_on sid stream stanza)
well_given_on sid None stanza = tt
well_given_on sid (Some stream) stanza = well_given sid stream stanza

well_named_given : (sid : List ℕ) (text : Option (List ℕ)) → IsWellRead (named_given sid text)
well_named_given sid None = tt
well_named_given sid (Some text) = well_given_on sid (stream_of (word_of text)) (rest_of text)

well_back_on : (text : Option (List ℕ)) → IsWellRead (back_on_of text)
well_back_on None = tt
well_back_on (Some text) = either (is_sid (word_of text)) _ _ (λ _. well_named_given (word_of text) (rest_of text)) tt

well_shutting : (sid : List ℕ) (stream : ℕ) (closing : Option Closing) → IsWellRead (shutting_of sid stream closing)
well_shutting sid stream None = tt
well_shutting sid stream (Some closing) = tt

well_closed : (sid : List ℕ) (stream : ℕ) (word : Option (List ℕ)) → IsWellRead (closed_of sid stream word)
well_closed sid stream None = tt
well_closed sid stream (Some word) = well_shutting sid stream (closing_of word)

well_shut : (text : Option (List ℕ)) → IsWellRead (shut_of text)
well_shut None = tt
well_shut (Some text) = either (is_sid (word_of text)) _ _ (λ _. well_closed (word_of text) unnamed (rest_of text)) tt

well_closed_on : (sid : List ℕ) (stream : Option ℕ) (word : Option (List ℕ)) → IsWellRead (closed_on sid stream word)
well_closed_on sid None word = tt
well_closed_on sid (Some stream) word = well_closed sid stream word

well_named_closed : (sid : List ℕ) (text : Option (List ℕ)) → IsWellRead (named_closed sid text)
well_named_closed sid None = tt
well_named_closed sid (Some text) = well_closed_on sid (stream_of (word_of text)) (rest_of text)

well_shut_on : (text : Option (List ℕ)) → IsWellRead (shut_on_of text)
well_shut_on None = tt
well_shut_on (Some text) = either (is_sid (word_of text)) _ _ (λ _. well_named_closed (word_of text) (rest_of text)) tt

well_later : (line : List ℕ) → IsWellRead (later_line line)
unfolding later_line
well_later line =
    either (bytes_eq (word_of line) (codes "at")) _ _ (λ _. well_at (rest_of line))
    (either (bytes_eq (word_of line) (codes "close")) _ _ (λ _. well_close (rest_of line))
    (either (bytes_eq (word_of line) (codes "back")) _ _ (λ _. well_back (rest_of line))
    (either (bytes_eq (word_of line) (codes "shut")) _ _ (λ _. well_shut (rest_of line))
    (either (bytes_eq (word_of line) (codes "backon")) _ _ (λ _. well_back_on (rest_of line))
    (either (bytes_eq (word_of line) (codes "shuton")) _ _ (λ _. well_shut_on (rest_of line))
    (either (bytes_eq line (codes "end")) _ _ (λ _. tt) tt))))))

-- what a line says is well said
pub lines_well : (line : List ℕ) → IsWellRead (line_of line)
unfolding line_of
lines_well line =
    either (bytes_eq (word_of line) (codes "open")) _ _ (λ _. well_open (rest_of line))
    (either (bytes_eq (word_of line) (codes "short")) _ _ (λ _. well_short (rest_of line))
    (either (bytes_eq (word_of line) (codes "host")) _ _ (λ _. well_host (rest_of line))
    (either (bytes_eq (word_of line) (codes "post")) _ _ (λ _. well_post (rest_of line)) (well_later line))))
