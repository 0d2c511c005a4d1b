-- The last words of a session, as its code makes them.
use Rattle.std.specs.Prelude.{ℕ, ◌<◌, ⊤}
use Rattle.bosh_types.specs.Rid.{greatest_rid}
use Rattle.bosh_types.specs.declared.ending.Ending.{Ending}
use Rattle.bosh_types.specs.declared.ending.Ending.TheVariants.{Terminated, Stale, Above, WrongKey, UnknownStream, PauseTooLong, Overactive, Silent, Closed, JournalFull}
use Rattle.body_writer.specs.declared.answer.AnswerParts.{AnswerParts}
use Rattle.session_core.specs.declared.words.LastWord.{LastWord}
use Rattle.session_core.specs.declared.words.LastWord.TheVariants.{Nothing, Terminal}
use Rattle.session_core.specs.Endings.{terminal, nothing}

abbrev pub parts_of : LastWord → AnswerParts
parts_of Nothing = nothing
parts_of (Terminal condition) = terminal condition

-- at a terminate there is an id after those that were answered
abbrev pub IsAnswerable : ℕ → Ending → Type 0
IsAnswerable answered (Terminated rid) = answered < greatest_rid
IsAnswerable answered (Stale rid lowest) = ⊤
IsAnswerable answered (Above rid last requests) = ⊤
IsAnswerable answered (WrongKey rid) = ⊤
IsAnswerable answered (UnknownStream rid) = ⊤
IsAnswerable answered (PauseTooLong rid pause maxpause) = ⊤
IsAnswerable answered (Overactive rid apart) = ⊤
IsAnswerable answered (Silent since now) = ⊤
IsAnswerable answered (Closed closing rid) = ⊤
IsAnswerable answered (JournalFull counted cost) = ⊤
