-- What holds of a line wherever it stands holds of each line of a script.
use Rattle.std.proofs.Common.{◌≡◌, ℕ, ◌+◌, List, [], ◌∷◌, ◌++◌, All}
use Rattle.std.proofs.lemmas.List.Elements.{All-nil, All-cons}
use Rattle.script_text.specs.declared.line.LineRead.{LineRead}
use Rattle.script_text.specs.declared.line.LineRead.TheVariants.{BadLine}
use Rattle.script_text.specs.declared.report.ReportLine.{ReportLine}
use Rattle.script_text.specs.Answered.{Posting, Stage, postings_in, stage_of, stages_on, stages_by}
use Rattle.script_text.specs.Headline.{manager_of}
use Rattle.line_reader.specs.Lines.{lines_of}
use Rattle.script_text.specs.Live.{PlainLive}
use Rattle.script_text.specs.Said.{IsWellRead}
use Rattle.script_text.specs.Script.{PlainRun, Beginning, PlainNext, Goes, Ends, step_by, said}
use Rattle.script_text.proofs.HeadlineLemmas.{Follows, step_holds, well_said, new_holds}
use Rattle.script_text.proofs.ReportLemmas.{Holds}

-- of a line over any sessions of which the report so far tells
abbrev pub OfEach : (Stage → Type 0) → Type 0
OfEach P =
    (posted : List Posting) (report : List ReportLine) (over : List PlainLive) (run : PlainRun) → Holds report over (manager_of run)
    → (n : ℕ) (read : LineRead) → IsWellRead read → P (stage_of posted run n read)

module _ (P : Stage → Type 0) (each : OfEach P) where
  stages_each : (lines : List (List ℕ)) (run : PlainRun) (n : ℕ) (posted : List Posting) (report : List ReportLine) (over : List PlainLive) → Holds report over (manager_of run)
      → All P (stages_on posted run n lines)
  stages_each [] run n posted report over holds = All-cons P (stage_of posted run n (BadLine _)) [] (each posted report over run holds n (BadLine _) tt) (All-nil P)
  stages_each (line ∷ others) run n posted report over holds =
      by (λ after. stages_each others after (n + 1)) (step_by run n (said n line)).next (step_holds report over run holds n (said n line) (well_said n line))
    where
      here : P (stage_of posted run n (said n line))
      here = each posted report over run holds n (said n line) (well_said n line)

      by : ((after : PlainRun) (posted : List Posting) (report : List ReportLine) (over : List PlainLive) → Holds report over (manager_of after) → All P (stages_on posted after (n + 1) others))
          → (next : PlainNext) → Follows report over (manager_of run) (step_by run n (said n line)).lines (step_by run n (said n line)).over next
          → All P (stage_of posted run n (said n line) ∷ elim next [
            | Goes after ↦ stages_on (postings_in (said n line) ++ posted) after (n + 1) others
            | Ends outcome ↦ []
          ])
      by rest (Goes after) follows = All-cons P (stage_of posted run n (said n line)) _ here
          (rest after (postings_in (said n line) ++ posted) (report ++ (step_by run n (said n line)).lines) (over ++ (step_by run n (said n line)).over) follows)
      by rest (Ends outcome) follows = All-cons P (stage_of posted run n (said n line)) [] here (All-nil P)

  pub every_stage : (script : List ℕ) → All P (stages_by script)
  every_stage script = stages_each (lines_of script) Beginning 1 [] [] [] new_holds
