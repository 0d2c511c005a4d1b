-- What one line of a script says, by its own bytes. Words are separated by one space.
use Rattle.std.specs.Prelude.{ℕ, ◌+◌, ◌==◌, nat_le, nat_lt, List, [], Option, None, Some, take, drop, position, codes, if◌then◌else◌}
use Rattle.std.specs.Str.{bytes_eq}
use Rattle.body_cutter.specs.Cutting.{is_stanza}
use Rattle.bosh_types.specs.Limits.{most_streams}
use Rattle.bosh_types.specs.Rid.{rid_of}
use Rattle.bosh_types.specs.Condition.{name_of}
use Rattle.bosh_types.specs.declared.condition.Condition.TheVariants as conditions
use Rattle.bosh_types.specs.declared.ending.Closing.{Closing}
use Rattle.bosh_types.specs.declared.ending.Closing.TheVariants.{Plain, RemoteConnectionFailed, RemoteStreamError, SystemShutdown}
use Rattle.script_text.specs.declared.line.BadKind.TheVariants.{Grammar}
use Rattle.script_text.specs.declared.line.ScriptLine.TheVariants.{Open, Short, Host, At, Post, Close, Back, Shut, End}
use Rattle.script_text.specs.declared.line.LineRead.{LineRead}
use Rattle.script_text.specs.declared.line.LineRead.TheVariants.{Line, BadLine}
use Rattle.session_attrs.specs.Serving.{is_host_name}
use Rattle.session_core.specs.Copy.{unnamed}
use Rattle.script_text.specs.Names.{is_sid}
use Rattle.script_text.specs.Stanza.{row_of}

-- the first word: what stands before the first space
abbrev pub word_of : List ℕ → List ℕ
word_of text = elim (position (λ byte. byte == 32) text) [ None ↦ text | Some i ↦ take i text ]

-- what follows the first space, if there is one
abbrev pub rest_of : List ℕ → Option (List ℕ)
rest_of text = elim (position (λ byte. byte == 32) text) [ None ↦ None | Some i ↦ Some (drop (i + 1) text) ]

-- `open RID`
abbrev pub open_of : Option (List ℕ) → LineRead
open_of None = BadLine Grammar
open_of (Some text) = elim (rid_of text) [ None ↦ BadLine Grammar | Some rid ↦ Line (Open rid) ]

-- the stanza of a request
abbrev pub request_of : Option ℕ → Option (List ℕ) → LineRead
request_of None stanza = BadLine Grammar
request_of (Some rid) None = BadLine Grammar
request_of (Some rid) (Some stanza) = if is_stanza stanza then Line (Short rid stanza) else BadLine Grammar

-- `short RID STANZA`
abbrev pub short_of : Option (List ℕ) → LineRead
short_of None = BadLine Grammar
short_of (Some text) = request_of (rid_of (word_of text)) (rest_of text)

-- a host with this greeting
abbrev pub host_with : List ℕ → Option (List (List ℕ)) → LineRead
host_with name None = BadLine Grammar
host_with name (Some greeting) = if is_host_name name then Line (Host name greeting) else BadLine Grammar

abbrev pub greeting_of : Option (List ℕ) → Option (List (List ℕ))
greeting_of None = Some []
greeting_of (Some text) = row_of text

-- `host NAME GREETING`, where the greeting may be left out with its space
abbrev pub host_of : Option (List ℕ) → LineRead
host_of None = BadLine Grammar
host_of (Some text) = host_with (word_of text) (greeting_of (rest_of text))

-- the number of a connection: 1 to 65535
abbrev pub connection_of : Option ℕ → Option ℕ
connection_of None = None
connection_of (Some number) = if nat_le number 65535 then Some number else None

abbrev pub body_of : Option ℕ → Option (List ℕ) → LineRead
body_of None body = BadLine Grammar
body_of (Some conn) None = BadLine Grammar
body_of (Some conn) (Some body) = Line (Post conn body)

-- `post CONNECTION BODY`
abbrev pub post_of : Option (List ℕ) → LineRead
post_of None = BadLine Grammar
post_of (Some text) = body_of (connection_of (rid_of (word_of text))) (rest_of text)

-- a number of milliseconds: `0`, or one that a request id might be
unfoldable pub moment_of : List ℕ → Option ℕ
moment_of text = if bytes_eq text (codes "0") then Some 0 else rid_of text

-- `at MILLISECONDS`
abbrev pub at_of : Option (List ℕ) → LineRead
at_of None = BadLine Grammar
at_of (Some text) = elim (moment_of text) [ None ↦ BadLine Grammar | Some moment ↦ Line (At moment) ]

-- `close CONNECTION`
abbrev pub close_of : Option (List ℕ) → LineRead
close_of None = BadLine Grammar
close_of (Some text) = elim (connection_of (rid_of text)) [ None ↦ BadLine Grammar | Some conn ↦ Line (Close conn) ]

-- the number of a stream: 0 to 7
abbrev pub within_streams : Option ℕ → Option ℕ
within_streams None = None
within_streams (Some number) = if nat_lt number most_streams then Some number else None

unfoldable pub stream_of : List ℕ → Option ℕ
stream_of text = if bytes_eq text (codes "0") then Some 0 else within_streams (rid_of text)

-- what a session is given on a stream: a stanza
abbrev pub given_of : List ℕ → ℕ → Option (List ℕ) → LineRead
given_of sid stream None = BadLine Grammar
given_of sid stream (Some stanza) = if is_stanza stanza then Line (Back sid stream stanza) else BadLine Grammar

-- `back SID STANZA`
abbrev pub back_of : Option (List ℕ) → LineRead
back_of None = BadLine Grammar
back_of (Some text) = if is_sid (word_of text) then given_of (word_of text) unnamed (rest_of text) else BadLine Grammar

abbrev pub given_on : List ℕ → Option ℕ → Option (List ℕ) → LineRead
given_on sid None stanza = BadLine Grammar
given_on sid (Some stream) stanza = given_of sid stream stanza

abbrev pub named_given : List ℕ → Option (List ℕ) → LineRead
named_given sid None = BadLine Grammar
named_given sid (Some text) = given_on sid (stream_of (word_of text)) (rest_of text)

-- `backon SID STREAM STANZA`
abbrev pub back_on_of : Option (List ℕ) → LineRead
back_on_of None = BadLine Grammar
back_on_of (Some text) = if is_sid (word_of text) then named_given (word_of text) (rest_of text) else BadLine Grammar

-- the word for a closing of the server
unfoldable pub closing_of : List ℕ → Option Closing
closing_of word =
    if bytes_eq word (codes "plain") then Some Plain
    else if bytes_eq word (name_of conditions.RemoteConnectionFailed) then Some RemoteConnectionFailed
    else if bytes_eq word (name_of conditions.RemoteStreamError) then Some RemoteStreamError
    else if bytes_eq word (name_of conditions.SystemShutdown) then Some SystemShutdown
    else None

abbrev pub shutting_of : List ℕ → ℕ → Option Closing → LineRead
shutting_of sid stream None = BadLine Grammar
shutting_of sid stream (Some closing) = Line (Shut sid stream closing)

abbrev pub closed_of : List ℕ → ℕ → Option (List ℕ) → LineRead
closed_of sid stream None = BadLine Grammar
closed_of sid stream (Some word) = shutting_of sid stream (closing_of word)

-- `shut SID CLOSING`
abbrev pub shut_of : Option (List ℕ) → LineRead
shut_of None = BadLine Grammar
shut_of (Some text) = if is_sid (word_of text) then closed_of (word_of text) unnamed (rest_of text) else BadLine Grammar

abbrev pub closed_on : List ℕ → Option ℕ → Option (List ℕ) → LineRead
closed_on sid None word = BadLine Grammar
closed_on sid (Some stream) word = closed_of sid stream word

abbrev pub named_closed : List ℕ → Option (List ℕ) → LineRead
named_closed sid None = BadLine Grammar
named_closed sid (Some text) = closed_on sid (stream_of (word_of text)) (rest_of text)

-- `shuton SID STREAM CLOSING`
abbrev pub shut_on_of : Option (List ℕ) → LineRead
shut_on_of None = BadLine Grammar
shut_on_of (Some text) = if is_sid (word_of text) then named_closed (word_of text) (rest_of text) else BadLine Grammar

-- a line about a session that there is, or the last one
unfoldable pub later_line : List ℕ → LineRead
later_line line =
    if bytes_eq (word_of line) (codes "at") then at_of (rest_of line)
    else if bytes_eq (word_of line) (codes "close") then close_of (rest_of line)
    else if bytes_eq (word_of line) (codes "back") then back_of (rest_of line)
    else if bytes_eq (word_of line) (codes "shut") then shut_of (rest_of line)
    else if bytes_eq (word_of line) (codes "backon") then back_on_of (rest_of line)
    else if bytes_eq (word_of line) (codes "shuton") then shut_on_of (rest_of line)
    else if bytes_eq line (codes "end") then Line End
    else BadLine Grammar

-- what a line says
unfoldable pub line_of : List ℕ → LineRead
line_of line =
    if bytes_eq (word_of line) (codes "open") then open_of (rest_of line)
    else if bytes_eq (word_of line) (codes "short") then short_of (rest_of line)
    else if bytes_eq (word_of line) (codes "host") then host_of (rest_of line)
    else if bytes_eq (word_of line) (codes "post") then post_of (rest_of line)
    else later_line line
