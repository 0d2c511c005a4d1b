-- A report that was given keeps its word.
use Rattle.std.proofs.Common.{◌≡◌, ℕ, List, Option, Some, None, All}
use Rattle.std.specs.Prelude.{IfSome}
use Rattle.script_text.specs.declared.driven.Driven.{Driven}
use Rattle.script_text.specs.Answered.{AreAccounted, GivesKept, IsRefused, lines_told, stages_by}
use Rattle.script_text.specs.Entered.{AreStill, AreTimed, IsEntered}
use Rattle.script_text.specs.Fates.{HasFates}
use Rattle.script_text.specs.Handed.{IsHanded}
use Rattle.script_text.specs.Given.{GivesItsReport}
use Rattle.script_text.specs.Headline.{KeepsItsWord, opened_by, sessions_of}
use Rattle.script_text.specs.Posted.{CameFrom, posts_by}
use Rattle.script_text.specs.Script.{Reports, drive_of}

-- what is true of every script
pub record Told : Type 0 where
  pub told : (script : List ℕ) → KeepsItsWord (drive_of script)
  pub came : (script : List ℕ) → All (CameFrom (posts_by script)) (sessions_of (drive_of script))
  pub stages : (script : List ℕ) → lines_told (stages_by script) ≡ (drive_of script).report
  pub entered : (script : List ℕ) → All IsEntered (stages_by script)
  pub moments : (script : List ℕ) → AreTimed 0 (stages_by script)
  pub still : (script : List ℕ) → All (AreStill (sessions_of (drive_of script))) (stages_by script)
  pub handed : (script : List ℕ) → All IsHanded (stages_by script)
  pub fates : (script : List ℕ) → All HasFates (stages_by script)
  pub answers : (script : List ℕ) → All (AreAccounted (opened_by (drive_of script)) (sessions_of (drive_of script))) (stages_by script)
  pub refused : (script : List ℕ) → All IsRefused (stages_by script)
  pub repeats : (script : List ℕ) → All GivesKept (stages_by script)

pub gives_report : Told → (left : Option (List ℕ)) (outcome : Driven) (old new : Option (List ℕ))
    → IfSome left (λ script. Reports (drive_of script) outcome old new) → IfSome left (λ script. GivesItsReport script old new)
gives_report laws None outcome old new reports = tt
gives_report laws (Some script) outcome old new reports =
    record {
      given = reports.1;
      told = laws.told script;
      came = laws.came script;
      stages = laws.stages script;
      entered = laws.entered script;
      moments = laws.moments script;
      still = laws.still script;
      handed = laws.handed script;
      fates = laws.fates script;
      answers = laws.answers script;
      refused = laws.refused script;
      repeats = laws.repeats script;
    }
