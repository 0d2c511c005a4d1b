-- What the audit of a trace is, by its bytes.
use Rattle.std.specs.Prelude.{◌≡◌, ℕ, ◌+◌, ◌≤◌, nat_le, Bool, true, false, List, [], ◌∷◌, ◌++◌, Option, IfSome, ⊤, map, length, if◌then◌else◌}
use Rattle.std.specs.Io.KnownBytes.{Appends}
use Rattle.bosh_types.specs.Limits.{most_lines}
use Rattle.line_reader.specs.Lines.{lines_of}
use Rattle.line_reader.specs.declared.lines.NextLine.{NextLine}
use Rattle.line_reader.specs.declared.lines.NextLine.TheVariants.{Line as NextIs, TooLong, NoLine}
use Rattle.line_reader.specs.declared.lines.ReadError.{ReadError}
use Rattle.line_reader.specs.declared.lines.ReadError.TheVariants.{ReadFault as ReadFailed, NoMemory as ReadNoMemory}
use Rattle.trace_audit.specs.declared.line.BadKind.TheVariants.{Count, End as EndKind, Length}
use Rattle.trace_audit.specs.declared.line.TraceLine.{TraceLine}
use Rattle.trace_audit.specs.declared.line.TraceLine.TheVariants.{End}
use Rattle.trace_audit.specs.declared.line.LineRead.{LineRead}
use Rattle.trace_audit.specs.declared.line.LineRead.TheVariants.{Line, BadLine}
use Rattle.trace_audit.specs.declared.outcome.AuditError.{AuditError}
use Rattle.trace_audit.specs.declared.outcome.AuditError.TheVariants.{ReadFault, NoMemory}
use Rattle.trace_audit.specs.declared.outcome.Audited.{Audited}
use Rattle.trace_audit.specs.declared.outcome.Audited.TheVariants.{Yes, No, Bad}
use Rattle.trace_audit.specs.Line.{line_of, read_of}
use Rattle.trace_audit.specs.Prefixes.{Begins, KeepsBothPrefixes}
use Rattle.trace_audit.specs.Report.{outcome_text}
use Rattle.trace_audit.specs.Rules.{Holds, IsFirstBroken}
use Rattle.trace_audit.specs.Told.{told}

-- what comes after so many lines, where these are left: at the end of the text, and at the limit, a bad line
abbrev pub next_in : List (List ℕ) → LineRead
next_in [] = BadLine EndKind
next_in (line ∷ others) = read_of line

abbrev pub next_of : ℕ → List (List ℕ) → LineRead
next_of count left = if nat_le most_lines count then BadLine Count else next_in left

abbrev pub is_end : TraceLine → Bool
is_end End = true
is_end line = false

abbrev pub AreUnended : List TraceLine → Type 0
AreUnended [] = ⊤
AreUnended (line ∷ lines) = (is_end line ≡ false) × AreUnended lines

-- the text begins with these lines of a trace, and this comes after them
pub record GoesOn (text : List ℕ) (lines : List TraceLine) (next : LineRead) : Type 0 where
  pub read : List (List ℕ)
  pub left : List (List ℕ)
  pub parts : lines_of text ≡ read ++ left
  pub say : map read_of read ≡ map Line lines
  pub unended : AreUnended lines
  pub few : length lines ≤ most_lines
  pub next_is : next_of (length lines) left ≡ next

-- the text is a trace of these lines, up to its line `end`
abbrev pub IsTraceOf : List ℕ → List TraceLine → Type 0
IsTraceOf text lines = GoesOn text lines (Line End)

-- how many requests, items and stanzas a trace tells of
pub record Counts (lines : List TraceLine) (requests passed got : ℕ) : Type 0 where
  pub requests_are : requests ≡ length (told lines).sent
  pub passed_are : passed ≡ length (told lines).passed
  pub got_are : got ≡ length (told lines).got

-- yes: the text is a trace that holds, and so it keeps both prefixes. No: this line of it is the first that breaks a rule, and this is
-- the first that it breaks. Bad: up to this line it is one that holds
abbrev pub Audits : List ℕ → Audited → Type 0
Audits text (Yes requests passed got) =
    (lines : List TraceLine) × IsTraceOf text lines × Holds lines × KeepsBothPrefixes lines × Counts lines requests passed got
Audits text (No n rule) =
    (lines : List TraceLine) × (line : TraceLine) × GoesOn text lines (Line line) × IsFirstBroken lines line rule × (n ≡ length lines + 1)
Audits text (Bad n kind) = (lines : List TraceLine) × GoesOn text lines (BadLine kind) × Holds lines × (n ≡ length lines + 1)

-- what an error of reading is to an audit
abbrev pub audit_error_of : ReadError → AuditError
audit_error_of ReadFailed = ReadFault
audit_error_of ReadNoMemory = NoMemory

-- what reading the next line gives, as a line of a trace
abbrev pub line_read_of : NextLine → LineRead
line_read_of (NextIs line) = line_of line
line_read_of TooLong = BadLine Length
line_read_of NoLine = BadLine EndKind

-- nothing, or a front of the report of what the audit of this text is
abbrev pub IsPartOfReport : Option (List ℕ) → List ℕ → Type 0
IsPartOfReport text [] = ⊤
IsPartOfReport text (byte ∷ bytes) = (outcome : Audited) × IfSome text (λ t. Audits t outcome) × Begins (byte ∷ bytes) (outcome_text outcome)

-- this is all that was given
abbrev pub GivesPart : Option (List ℕ) → Option (List ℕ) → Option (List ℕ) → Type 0
GivesPart text old new = (front : List ℕ) × IsPartOfReport text front × Appends old new front
