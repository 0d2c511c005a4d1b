-- The sessions of a file, with which a script goes on.
use Rattle.std.specs.Prelude.{◌≡◌, ⊤, ℕ, zero, suc, ◌+◌, max, false, List, [], ◌∷◌, ◌++◌, flat_map, length}
use Rattle.session_journal.specs.declared.entry.Entered.{Entered}
use Rattle.session_journal.specs.declared.entry.Entered.TheVariants as stored
use Rattle.session_journal.specs.declared.entry.Entry.{Entry}
use Rattle.session_journal.specs.Stored.{IsJournalOf}
use Rattle.script_text.specs.declared.live.Parked.{Parked}
use Rattle.script_text.specs.declared.resumed.Sessions.{Sessions}
use Rattle.script_text.specs.Live.{PlainLive, if_live, if_over, state}
use Rattle.script_text.specs.Manager.{PlainManager, new_manager}
use Rattle.script_text.specs.Stands.{IsManager}

-- the moment of a call, and 0 where it has none; one that met the limit of the journal doesn't move it
abbrev pub moment_in : Entered → ℕ
moment_in (stored.Open sid host greeting body now limit gap_waits) = now
moment_in (stored.Arrive body now) = now
moment_in (stored.Collect ticket) = 0
moment_in (stored.Back stream stanza now) = now
moment_in (stored.BackClosed stream closing now) = now
moment_in (stored.Tick now) = now
moment_in stored.TakeInward = 0
moment_in (stored.Limit kind cost now) = 0

-- the latest moment of a journal, and of all
abbrev pub latest : List Entry → ℕ
latest [] = 0
latest (e ∷ entries) = max (moment_in e.call) (latest entries)

abbrev pub latest_of_all : List (List Entry) → ℕ
latest_of_all [] = 0
latest_of_all (log ∷ logs) = max (latest log) (latest_of_all logs)

-- the requests of so many tickets, whose connections were closed
abbrev pub lost_tickets : ℕ → List Parked
lost_tickets zero = []
lost_tickets (suc given) = lost_tickets given ++ record { ticket = given + 1; conn = 0; is_open = false } ∷ []

-- a session with this number and journal, and a request for each ticket that it gave
pub record IsSession (number : ℕ) (log : List Entry) (s : PlainLive) : Type 0 where
  pub numbered : s.number ≡ number
  pub journal : IsJournalOf log s.journal
  pub parked : s.parked ≡ lost_tickets (length (state s).tickets)

-- sessions with these journals, whose numbers follow this one
abbrev pub AreSessions : ℕ → List (List Entry) → List PlainLive → Type 0
AreSessions before [] [] = ⊤
AreSessions before [] (s ∷ ss) = ⊥
AreSessions before (log ∷ logs) [] = ⊥
AreSessions before (log ∷ logs) (s ∷ ss) = IsSession (before + 1) log s × AreSessions (before + 1) logs ss

-- those of them that go on, and those that have ended
abbrev pub live_of : List PlainLive → List PlainLive
live_of all = flat_map if_live all

abbrev pub over_of : List PlainLive → List PlainLive
over_of all = flat_map if_over all

-- the manager that goes on with those: no host came yet, and the moment is the latest of all their calls
abbrev pub resumed_manager : List (List Entry) → List PlainLive → PlainManager
resumed_manager logs all = record { hosts = []; moment = latest_of_all logs; begun = false; opened = length logs; live = live_of all }

abbrev pub IsResumed : Sessions → List (List Entry) → List PlainLive → Type 0
IsResumed sessions logs all = IsManager sessions.manager (resumed_manager logs all)
