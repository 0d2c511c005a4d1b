-- What a session is asked for through a handle.
use Rattle.std.specs.Prelude.{ℕ, Option, Some, None}
use Rattle.parked_gate.specs.declared.waits.Waited.{Waited}
use Rattle.parked_gate.specs.declared.waits.Waited.TheVariants as waits
use Rattle.parked_gate.specs.Passes.{Calls, Known, Looks}
use Rattle.session_journal.specs.declared.asking.Found.{Found}
use Rattle.session_journal.specs.declared.entry.Entry.{Entry}
use Rattle.session_journal.specs.Seen.{Finds, Lacks}

-- what there is for a ticket was found, or there is nothing yet in what the pass has then seen
abbrev pub PollsAs : ℕ → Option Found → Known Entry → Known Entry → Type 0
PollsAs ticket None old new = Looks (λ seen. Lacks seen ticket) old new
PollsAs ticket (Some found) old new = Calls (λ e. e.caller) (λ before made. Finds before ticket found made) old new

-- the same of a wait, which ends silent where there is nothing yet
abbrev pub WaitsAs : ℕ → Waited Found → Known Entry → Known Entry → Type 0
WaitsAs ticket waits.Silent old new = Looks (λ seen. Lacks seen ticket) old new
WaitsAs ticket (waits.Found found) old new = Calls (λ e. e.caller) (λ before made. Finds before ticket found made) old new
