-- Under which name a session was opened.
use Rattle.std.specs.Prelude.{ℕ, ◌==◌, List, [], ◌∷◌, Option, Some, None, if◌then◌else◌}
use Rattle.session_journal.specs.declared.entry.Entered.{Entered}
use Rattle.session_journal.specs.declared.entry.Entered.TheVariants as stored
use Rattle.session_journal.specs.declared.entry.Entry.{Entry}

abbrev pub sid_in : Entered → Option (List ℕ)
sid_in (stored.Open sid host greeting body now limit gap_waits) = Some sid
sid_in _ = None

-- a session's history begins with its opening, which the directory makes: its caller is 0
abbrev pub opened_sid : List Entry → Option (List ℕ)
opened_sid [] = None
opened_sid (e ∷ es) = if e.caller == 0 then sid_in e.call else None
