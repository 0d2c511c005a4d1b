-- What a script of two ends gives: its outcome, its report, and the world at its end.
use Rattle.std.specs.Prelude.{ℕ, ◌+◌, ◌≡◌, Bool, true, false, nat_lt, List, [], ◌∷◌, ◌++◌, Option, None, Some, length, map, codes, if◌then◌else◌}
use Rattle.std.specs.Io.KnownBytes.{Appends}
use Rattle.bosh_types.specs.Limits.{longest_line, most_lines}
use Rattle.bosh_client.specs.declared.setup.ClientSetup.{ClientSetup}
use Rattle.bosh_client.specs.Setup.{is_setup}
use Rattle.line_reader.specs.Lines.{lines_of}
use Rattle.line_reader.specs.declared.lines.NextLine.{NextLine}
use Rattle.line_reader.specs.declared.lines.NextLine.TheVariants as reads
use Rattle.script_text.specs.declared.line.BadKind.{BadKind}
use Rattle.script_text.specs.declared.line.BadKind.TheVariants.{Count, End, Length, Grammar, Time, Copy}
use Rattle.script_text.specs.declared.driven.Driven.{Driven}
use Rattle.script_text.specs.declared.driven.Driven.TheVariants as driven
use Rattle.two_ends.specs.declared.sums.Sums.{Sums}
use Rattle.two_ends.specs.Summed.{counted}
use Rattle.world_laws.specs.declared.event.WorldEvent.{WorldEvent}
use Rattle.world_laws.specs.declared.event.WorldEvent.TheVariants as events
use Rattle.world_laws.specs.declared.seen.SeenItem.{SeenItem}
use Rattle.world_laws.specs.declared.seen.SeenItem.TheVariants as seen
use Rattle.world_laws.specs.Steps as worlds
use Rattle.world_laws.specs.Sums.{PlainSums, sums_of}
use Rattle.world_laws.specs.World.{PlainWorld, new_world}
use Rattle.pair_text.specs.declared.line.ClientTerms.{ClientTerms}
use Rattle.pair_text.specs.declared.line.PairLine.{PairLine}
use Rattle.pair_text.specs.declared.line.PairLine.TheVariants as lines
use Rattle.pair_text.specs.declared.report.PairReport.{PairReport}
use Rattle.pair_text.specs.declared.report.PairReport.TheVariants.{Saw, Summed, Done, Bad}
use Rattle.pair_text.specs.Line.{pair_line_of}
use Rattle.pair_text.specs.Report.{pair_report_text}

-- what the lines so far make of a script: no line was read; its host was; its client was, and the world goes on
pub data PlainPairRun : Type 0 where
  Beginning : PlainPairRun
  Hosted : List ℕ → List (List ℕ) → PlainPairRun
  Meeting : PlainWorld → PlainPairRun

-- what follows a line
pub data PlainPairNext : Type 0 where
  Goes : PlainPairRun → PlainPairNext
  Ends : Driven → PlainPairNext

-- what a line does: its lines of the report, and what follows it
pub record PairStep : Type 0 where
  pub lines : List PairReport
  pub next : PlainPairNext

-- the script is bad at this line
abbrev pub bad_step : ℕ → BadKind → PairStep
bad_step n kind = record { lines = Bad n kind ∷ []; next = Ends (driven.Bad n kind) }

abbrev pub goes_silently : PlainPairRun → PairStep
goes_silently after = record { lines = []; next = Goes after }

-- The first line is that of the host, and the second that of the client.

abbrev pub first_step : ℕ → PairLine → PairStep
first_step n (lines.Host name greeting) = goes_silently (Hosted name greeting)
first_step n (lines.Client terms) = bad_step n Grammar
first_step n (lines.Event event) = bad_step n Grammar
first_step n lines.End = bad_step n Grammar

-- a client that wants to reach this host, and makes its keys from the word `seed`
abbrev pub setup_of : List ℕ → ClientTerms → ClientSetup
setup_of host terms = record {
  first = terms.first;
  to = host;
  wait = terms.wait;
  hold = terms.hold;
  ack = terms.ack;
  seed = codes "seed";
  keys = terms.keys;
}

abbrev pub client_step : List ℕ → List (List ℕ) → ℕ → ClientSetup → PairStep
client_step host greeting n setup =
    if is_setup setup then goes_silently (Meeting (new_world host greeting setup)) else bad_step n Grammar

abbrev pub second_step : List ℕ → List (List ℕ) → ℕ → PairLine → PairStep
second_step host greeting n (lines.Host name others) = bad_step n Grammar
second_step host greeting n (lines.Client terms) = client_step host greeting n (setup_of host terms)
second_step host greeting n (lines.Event event) = bad_step n Grammar
second_step host greeting n lines.End = bad_step n Grammar

-- All others tell what happens in the world, or are the last.

-- moments don't go back
abbrev pub is_past : PlainWorld → WorldEvent → Bool
is_past w (events.At moment) = nat_lt moment w.moment
is_past w _ = false

-- a copy that was never made, or an answer that was never written
abbrev pub is_no_copy : List SeenItem → Bool
is_no_copy [] = false
is_no_copy (seen.NoCopy ∷ items) = true
is_no_copy (_ ∷ items) = false

abbrev pub seen_step : ℕ → worlds.Step → PairStep
seen_step n step = if is_no_copy step.seen then bad_step n Copy else record { lines = map Saw step.seen; next = Goes (Meeting step.after) }

abbrev pub event_step : PlainWorld → ℕ → WorldEvent → PairStep
event_step w n event = if is_past w event then bad_step n Time else seen_step n (worlds.step w event)

-- the counts stand still at the end of 64 bits
abbrev pub shown_sums : PlainSums → Sums
shown_sums sums = record {
  put = counted sums.put;
  queued = sums.queued;
  inward = counted sums.inward;
  given = counted sums.given;
  got = counted sums.got;
}

abbrev pub end_step : PlainWorld → ℕ → PairStep
end_step w n = record { lines = Summed (shown_sums (sums_of w)) ∷ Done n ∷ []; next = Ends driven.Done }

abbrev pub later_step : PlainWorld → ℕ → PairLine → PairStep
later_step w n (lines.Host name greeting) = bad_step n Grammar
later_step w n (lines.Client terms) = bad_step n Grammar
later_step w n (lines.Event event) = event_step w n event
later_step w n lines.End = end_step w n

-- what a line does that says this
abbrev pub said_step : PlainPairRun → ℕ → PairLine → PairStep
said_step Beginning n said = first_step n said
said_step (Hosted host greeting) n said = second_step host greeting n said
said_step (Meeting w) n said = later_step w n said

-- what a line does, by what it says, if it says anything
abbrev pub step_by : PlainPairRun → ℕ → Option PairLine → PairStep
step_by run n None = bad_step n Grammar
step_by run n (Some said) = said_step run n said

-- a line that is too long is bad, whatever it says
abbrev pub line_step : PlainPairRun → ℕ → List ℕ → PairStep
line_step run n line = if nat_lt longest_line (length line) then bad_step n Length else step_by run n (pair_line_of line)

-- the same of the line that a reader read next
abbrev pub read_step : PlainPairRun → ℕ → NextLine → PairStep
read_step run n (reads.Line line) = step_by run n (pair_line_of line)
read_step run n reads.TooLong = bad_step n Length
read_step run n reads.NoLine = bad_step n End

-- Whole scripts.

-- what a script gives: how it ended, its report, and what it was run over at its end
pub record Pair : Type 0 where
  pub outcome : Driven
  pub report : List PairReport
  pub last : PlainPairRun

abbrev pub ended_with : PlainPairRun → PairStep → Driven → Pair
ended_with run step outcome = record { outcome = outcome; report = step.lines; last = run }

abbrev pub bad_at : PlainPairRun → ℕ → BadKind → Pair
bad_at run n kind = ended_with run (bad_step n kind) (driven.Bad n kind)

-- this step, and then what the rest of the script gives
abbrev pub after_step : PairStep → Pair → Pair
after_step step pair = record pair { report = step.lines ++ pair.report }

-- the rest of a script, from the line with this number on; past the most lines nothing is read
abbrev pub pair_on : PlainPairRun → ℕ → List (List ℕ) → Pair
pair_on run n [] = bad_at run n (if nat_lt most_lines n then Count else End)
pair_on run n (line ∷ others) =
    if nat_lt most_lines n then bad_at run n Count
    else elim (line_step run n line).next [
      | Goes after ↦ after_step (line_step run n line) (pair_on after (n + 1) others)
      | Ends outcome ↦ ended_with run (line_step run n line) outcome
    ]

-- a script by its bytes
abbrev pub pair_of : List ℕ → Pair
pair_of script = pair_on Beginning 1 (lines_of script)

-- this outcome is the script's, and the sink was given its report and nothing else
abbrev pub ReportsPair : Pair → Driven → Option (List ℕ) → Option (List ℕ) → Type 0
ReportsPair pair outcome old new = (outcome ≡ pair.outcome) × Appends old new (pair_report_text pair.report)
