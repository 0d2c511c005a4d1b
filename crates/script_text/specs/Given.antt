-- What is said of a script whose whole report was given.
use Rattle.std.specs.Prelude.{◌≡◌, ℕ, List, Option, All}
use Rattle.std.specs.Io.KnownBytes.{Appends}
use Rattle.script_text.specs.Answered.{AreAccounted, GivesKept, IsRefused, lines_told, stages_by}
use Rattle.script_text.specs.Entered.{AreStill, AreTimed, IsEntered}
use Rattle.script_text.specs.Fates.{HasFates}
use Rattle.script_text.specs.Handed.{IsHanded}
use Rattle.script_text.specs.Headline.{KeepsItsWord, opened_by, sessions_of}
use Rattle.script_text.specs.Posted.{CameFrom, posts_by}
use Rattle.script_text.specs.Report.{report_text}
use Rattle.script_text.specs.Script.{drive_of}

pub record GivesItsReport (script : List ℕ) (old new : Option (List ℕ)) : Type 0 where
  -- the sink was given the report and nothing else
  pub given : Appends old new (report_text (drive_of script).report)
  -- which tells of each session, by its journal, what went inward, once and in order, and how it ended
  pub told : KeepsItsWord (drive_of script)
  -- and to each session came what the script posted for it
  pub came : All (CameFrom (posts_by script)) (sessions_of (drive_of script))
  -- line by line of the script
  pub stages : lines_told (stages_by script) ≡ (drive_of script).report
  -- each line is the entry that it says, at the moment of the last line `at`, of the live session that it names, and of no other; and what a line leaves of a
  -- session is a beginning of what that session is in the end
  pub entered : All IsEntered (stages_by script)
  pub moments : AreTimed 0 (stages_by script)
  pub still : All (AreStill (sessions_of (drive_of script))) (stages_by script)
  -- what the server hands to a session it was given, or a line `refused` says so, and then nothing is left of it but the bytes of its entry
  pub handed : All IsHanded (stages_by script)
  -- each request that is posted is answered, lost, gone, or waits, one of these and once
  pub fates : All HasFates (stages_by script)
  -- each answer that went out is what a session gave, for good, the id of the latest request on its connection, or is the
  -- error of a copy of that id that was struck, or refuses the body that its line posts with the condition of its cause
  pub answers : All (AreAccounted (opened_by (drive_of script)) (sessions_of (drive_of script))) (stages_by script)
  -- a body that there is a cause to refuse was refused with its condition, and touched no session
  pub refused : All IsRefused (stages_by script)
  -- and a request whose id has a kept answer was given its bytes
  pub repeats : All GivesKept (stages_by script)
