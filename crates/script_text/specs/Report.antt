-- The lines of a report, as bytes.
use Rattle.std.specs.Prelude.{ℕ, List, [], ◌∷◌, ◌++◌, codes}
use Rattle.std.specs.Fmt.{decimal}
use Rattle.bosh_types.specs.Condition.{name_of}
use Rattle.bosh_types.specs.declared.condition.Condition.TheVariants.{RemoteConnectionFailed, RemoteStreamError, SystemShutdown}
use Rattle.bosh_types.specs.declared.ending.Closing.{Closing}
use Rattle.bosh_types.specs.declared.ending.Closing.TheVariants.{Plain, RemoteConnectionFailed as ByConnection, RemoteStreamError as ByStream, SystemShutdown as ByShutdown}
use Rattle.bosh_types.specs.declared.ending.Ending.{Ending}
use Rattle.bosh_types.specs.declared.inward.Inward.{Inward}
use Rattle.bosh_types.specs.declared.inward.Inward.TheVariants.{Item, Restart, Open, Close}
use Rattle.bosh_types.specs.declared.ending.Ending.TheVariants.{Terminated, Stale, Above, WrongKey, UnknownStream, PauseTooLong, Overactive, Silent, Closed, JournalFull}
use Rattle.script_text.specs.declared.line.BadKind.{BadKind}
use Rattle.script_text.specs.declared.line.BadKind.TheVariants.{Count, End, Length, Grammar, Time, Connection, Session, Copy}
use Rattle.script_text.specs.declared.report.ReportLine.{ReportLine}
use Rattle.script_text.specs.declared.report.ReportLine.TheVariants.{In, Out, Lost, Gone, Refused, Over, Done, Bad}
use Rattle.script_text.specs.declared.report.Refusal.{Refusal}
use Rattle.script_text.specs.declared.report.Refusal.TheVariants.{BackFull, BackOver, ShutOver}

-- numbers, each after a space
abbrev pub numbers_text : List ℕ → List ℕ
numbers_text [] = []
numbers_text (number ∷ numbers) = codes " " ++ decimal number ++ numbers_text numbers

-- the word for a closing
abbrev pub closing_text : Closing → List ℕ
closing_text Plain = codes "closed"
closing_text ByConnection = name_of RemoteConnectionFailed
closing_text ByStream = name_of RemoteStreamError
closing_text ByShutdown = name_of SystemShutdown

-- an ending with its numbers
unfoldable pub ending_text : Ending → List ℕ
ending_text (Terminated rid) = codes "terminate" ++ numbers_text (rid ∷ [])
ending_text (Stale rid lowest) = codes "item-not-found stale" ++ numbers_text (rid ∷ lowest ∷ [])
ending_text (Above rid last requests) = codes "item-not-found above" ++ numbers_text (rid ∷ last ∷ requests ∷ [])
ending_text (WrongKey rid) = codes "item-not-found key" ++ numbers_text (rid ∷ [])
ending_text (UnknownStream rid) = codes "item-not-found stream" ++ numbers_text (rid ∷ [])
ending_text (PauseTooLong rid pause maxpause) = codes "policy-violation pause" ++ numbers_text (rid ∷ pause ∷ maxpause ∷ [])
ending_text (Overactive rid apart) = codes "policy-violation often" ++ numbers_text (rid ∷ apart ∷ [])
ending_text (Silent since now) = codes "silent" ++ numbers_text (since ∷ now ∷ [])
ending_text (Closed closing rid) = closing_text closing ++ numbers_text (rid ∷ [])
ending_text (JournalFull counted cost) = codes "undefined-condition journal" ++ numbers_text (counted ∷ cost ∷ [])

-- the word for a kind of bad line
abbrev pub kind_text : BadKind → List ℕ
kind_text Count = codes "count"
kind_text End = codes "end"
kind_text Length = codes "length"
kind_text Grammar = codes "grammar"
kind_text Time = codes "time"
kind_text Connection = codes "connection"
kind_text Session = codes "session"
kind_text Copy = codes "copy"

-- what goes inward, on its stream
abbrev pub inward_text : Inward → List ℕ
inward_text (Item stream stanza) = decimal stream ++ codes " " ++ stanza
inward_text (Restart stream) = decimal stream ++ codes " restart"
inward_text (Open stream to) = decimal stream ++ codes " open " ++ to
inward_text (Close stream) = decimal stream ++ codes " close"

-- a line of the server that was refused for this session
abbrev pub refused_text : Refusal → ℕ → List ℕ
refused_text BackFull session = codes "refused back s" ++ decimal session ++ codes " full"
refused_text BackOver session = codes "refused back s" ++ decimal session ++ codes " over"
refused_text ShutOver session = codes "refused shut s" ++ decimal session ++ codes " over"

-- one line of a report, without its LF
unfoldable pub line_text : ReportLine → List ℕ
line_text (In session item) = codes "in s" ++ decimal session ++ codes " " ++ inward_text item
line_text (Out conn body) = codes "out " ++ decimal conn ++ codes " " ++ body
line_text (Lost conn) = codes "lost " ++ decimal conn
line_text (Gone conn) = codes "gone " ++ decimal conn
line_text (Refused session refusal) = refused_text refusal session
line_text (Over session ending) = codes "over s" ++ decimal session ++ codes " " ++ ending_text ending
line_text (Done line) = codes "done " ++ decimal line
line_text (Bad line kind) = codes "bad " ++ decimal line ++ codes " " ++ kind_text kind

-- a report: its lines, each ended by LF
abbrev pub report_text : List ReportLine → List ℕ
report_text [] = []
report_text (line ∷ lines) = line_text line ++ 10 ∷ report_text lines
