-- What one line of a trace says, by its own bytes. Words are separated by one space.
use Rattle.std.specs.Prelude.{ℕ, ◌+◌, ◌==◌, nat_lt, List, Option, None, Some, take, drop, position, length, codes, if◌then◌else◌}
use Rattle.std.specs.Str.{bytes_eq}
use Rattle.body_cutter.specs.Cutting.{is_stanza}
use Rattle.bosh_types.specs.Limits.{longest_line}
use Rattle.bosh_types.specs.Rid.{rid_of}
use Rattle.trace_audit.specs.declared.line.BadKind.TheVariants.{Grammar, Length}
use Rattle.trace_audit.specs.declared.line.Item.TheVariants.{Stanza, Restart}
use Rattle.trace_audit.specs.declared.line.TraceLine.{TraceLine}
use Rattle.trace_audit.specs.declared.line.TraceLine.TheVariants.{Gave, Sent, Came, In, Answer, Took, Got, End}
use Rattle.trace_audit.specs.declared.line.LineRead.{LineRead}
use Rattle.trace_audit.specs.declared.line.LineRead.TheVariants.{Line, BadLine}

-- the first word: what stands before the first space
abbrev pub word_of : List ℕ → List ℕ
word_of text = elim (position (λ byte. byte == 32) text) [ None ↦ text | Some i ↦ take i text ]

-- what follows the first space, if there is one
abbrev pub rest_of : List ℕ → Option (List ℕ)
rest_of text = elim (position (λ byte. byte == 32) text) [ None ↦ None | Some i ↦ Some (drop (i + 1) text) ]

-- a stanza, where it is one
abbrev pub stanza_in : Option (List ℕ) → Option (List ℕ)
stanza_in None = None
stanza_in (Some text) = if is_stanza text then Some text else None

-- `gave STANZA`, `got STANZA`
abbrev pub stanza_line : (List ℕ → TraceLine) → Option (List ℕ) → LineRead
stanza_line says None = BadLine Grammar
stanza_line says (Some stanza) = Line (says stanza)

-- `sent BODY`, `came BODY`, whatever the body is
abbrev pub body_line : (List ℕ → TraceLine) → Option (List ℕ) → LineRead
body_line says None = BadLine Grammar
body_line says (Some body) = Line (says body)

-- `in restart`, `in STANZA`
unfoldable pub in_of : Option (List ℕ) → LineRead
in_of None = BadLine Grammar
in_of (Some text) =
    if bytes_eq text (codes "restart") then Line (In Restart) else if is_stanza text then Line (In (Stanza text)) else BadLine Grammar

-- the answer of a request
abbrev pub answer_with : Option ℕ → Option (List ℕ) → LineRead
answer_with None body = BadLine Grammar
answer_with (Some rid) None = BadLine Grammar
answer_with (Some rid) (Some body) = Line (Answer rid body)

-- `answer RID BODY`
abbrev pub answer_of : Option (List ℕ) → LineRead
answer_of None = BadLine Grammar
answer_of (Some text) = answer_with (rid_of (word_of text)) (rest_of text)

-- `took RID`
abbrev pub took_of : Option (List ℕ) → LineRead
took_of None = BadLine Grammar
took_of (Some text) = elim (rid_of text) [ None ↦ BadLine Grammar | Some rid ↦ Line (Took rid) ]

-- a line about answers, or the last one
unfoldable pub later_line : List ℕ → LineRead
later_line line =
    if bytes_eq (word_of line) (codes "answer") then answer_of (rest_of line)
    else if bytes_eq (word_of line) (codes "took") then took_of (rest_of line)
    else if bytes_eq (word_of line) (codes "got") then stanza_line Got (stanza_in (rest_of line))
    else if bytes_eq line (codes "end") then Line End
    else BadLine Grammar

-- what a line says
unfoldable pub line_of : List ℕ → LineRead
line_of line =
    if bytes_eq (word_of line) (codes "gave") then stanza_line Gave (stanza_in (rest_of line))
    else if bytes_eq (word_of line) (codes "sent") then body_line Sent (rest_of line)
    else if bytes_eq (word_of line) (codes "came") then body_line Came (rest_of line)
    else if bytes_eq (word_of line) (codes "in") then in_of (rest_of line)
    else later_line line

-- a line that is too long is bad, whatever it says
abbrev pub read_of : List ℕ → LineRead
read_of line = if nat_lt longest_line (length line) then BadLine Length else line_of line
