-- The lines of a report of two ends, as bytes.
use Rattle.std.specs.Prelude.{ℕ, List, [], ◌∷◌, ◌++◌, Option, None, Some, codes}
use Rattle.std.specs.Fmt.{decimal}
use Rattle.bosh_types.specs.Condition.{name_of}
use Rattle.bosh_types.specs.declared.condition.Condition.{Condition}
use Rattle.script_text.specs.Report.{ending_text, inward_text, kind_text}
use Rattle.two_ends.specs.declared.sums.Sums.{Sums}
use Rattle.world_laws.specs.declared.seen.SeenItem.{SeenItem}
use Rattle.world_laws.specs.declared.seen.SeenItem.TheVariants as seen
use Rattle.world_laws.specs.declared.seen.Word.{Word}
use Rattle.world_laws.specs.declared.seen.Word.TheVariants as words
use Rattle.pair_text.specs.declared.report.PairReport.{PairReport}
use Rattle.pair_text.specs.declared.report.PairReport.TheVariants.{Saw, Summed, Done, Bad}

-- the word of a line that was refused
abbrev pub word_text : Word → List ℕ
word_text words.Put = codes "put"
word_text words.PutOn = codes "puton"
word_text words.Add = codes "add"
word_text words.StopOn = codes "stopon"
word_text words.Restart = codes "restart"
word_text words.Pause = codes "pause"
word_text words.Stop = codes "stop"
word_text words.Give = codes "give"
word_text words.Shut = codes "shut"

-- how the client saw the session end
abbrev pub end_text : Option Condition → List ℕ
end_text None = codes "terminate"
end_text (Some condition) = name_of condition

-- a request that the client made, and an answer with its number
abbrev pub request_line : ℕ → List ℕ → List ℕ
request_line rid body = codes "req " ++ decimal rid ++ codes " " ++ body

abbrev pub answer_line : ℕ → ℕ → List ℕ → List ℕ
answer_line number rid body = codes "ans " ++ decimal number ++ codes " " ++ decimal rid ++ codes " " ++ body

-- what was handed out on a stream that isn't the first
abbrev pub got_on_line : ℕ → List ℕ → List ℕ
got_on_line stream stanza = codes "got " ++ decimal stream ++ codes " " ++ stanza

-- what was seen, without an LF
unfoldable pub seen_text : SeenItem → List ℕ
seen_text (seen.RefusedFull word) = codes "refused " ++ word_text word ++ codes " full"
seen_text (seen.RefusedOver word) = codes "refused " ++ word_text word ++ codes " over"
seen_text (seen.RefusedNone word) = codes "refused " ++ word_text word ++ codes " none"
seen_text seen.RefusedLong = codes "refused pause long"
seen_text (seen.Req rid body) = request_line rid body
seen_text seen.Nothing = codes "none"
seen_text seen.Spent = codes "spent"
seen_text (seen.Dup rid) = codes "dup " ++ decimal rid
seen_text (seen.In item) = codes "in " ++ inward_text item
seen_text (seen.Ans number rid body) = answer_line number rid body
seen_text (seen.Gone rid) = codes "gone " ++ decimal rid
seen_text (seen.Over ending) = codes "over " ++ ending_text ending
seen_text (seen.Got stanza) = codes "got " ++ stanza
seen_text (seen.GotOn stream stanza) = got_on_line stream stanza
seen_text (seen.Stale rid) = codes "stale " ++ decimal rid
seen_text (seen.Broken rid) = codes "broken " ++ decimal rid
seen_text (seen.Again first last) = codes "again " ++ decimal first ++ codes " " ++ decimal last
seen_text (seen.Ended condition) = codes "ended " ++ end_text condition
seen_text seen.NoCopy = codes "no copy"

-- how many stanzas went where
unfoldable pub sums_text : Sums → List ℕ
sums_text sums =
    codes "sums put " ++ decimal sums.put ++ codes " queued " ++ decimal sums.queued ++ codes " in " ++ decimal sums.inward
    ++ codes " given " ++ decimal sums.given ++ codes " got " ++ decimal sums.got

-- one line, without its LF
unfoldable pub pair_line_text : PairReport → List ℕ
pair_line_text (Saw item) = seen_text item
pair_line_text (Summed sums) = sums_text sums
pair_line_text (Done line) = codes "done " ++ decimal line
pair_line_text (Bad line kind) = codes "bad " ++ decimal line ++ codes " " ++ kind_text kind

-- a report: its lines, each ended by LF
abbrev pub pair_report_text : List PairReport → List ℕ
pair_report_text [] = []
pair_report_text (line ∷ lines) = pair_line_text line ++ 10 ∷ pair_report_text lines
