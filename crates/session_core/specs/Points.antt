-- The places of a journal's entries: the state at each, and the one at which its call is tested.
use Rattle.std.specs.Prelude.{List, [], ◌∷◌}
use Rattle.session_core.specs.Journal.{Arrive, Collect, Back, BackClosed, Tick, TakeInward, Entered, Made, Limit, Entry, Journal, after_entry}
use Rattle.session_core.specs.Machine.{opened}
use Rattle.session_core.specs.State.{PlainSession}
use Rattle.session_core.specs.Time.{time_applied}

-- an entry, and the state at its place: that after the entries before it
pub record Point : Type 0 where
  pub before : PlainSession
  pub entered : Entered

abbrev pub points_from : PlainSession → List Entry → List Point
points_from s [] = []
points_from s (entry ∷ entries) = record { before = s; entered = entry.entered } ∷ points_from (after_entry s entry.entered) entries

abbrev pub points_of : Journal → List Point
points_of journal = points_from (opened journal.opening) journal.entries

-- the state that tests a call which is entered so: that before it, once time was applied
abbrev pub tested_at : PlainSession → Entered → PlainSession
tested_at s (Made (Arrive request body now)) = time_applied s now
tested_at s (Made (Collect ticket)) = s
tested_at s (Made (Back stream stanza now)) = time_applied s now
tested_at s (Made (BackClosed stream closing now)) = time_applied s now
tested_at s (Made (Tick now)) = time_applied s now
tested_at s (Made TakeInward) = s
tested_at s (Limit kind cost now) = s
