-- An entry of a stored journal that is made again.
use Rattle.std.specs.Prelude.{◌≡◌, ℕ, ◌&&◌, Bool, true, false, not, List, [], ◌∷◌, ◌++◌, Option, Some, None}
use Rattle.session_core.specs.Journal as plain
use Rattle.session_core.specs.Journal.{IsAllowed, MayEnter}
use Rattle.session_core.specs.Machine.{is_full, plain_cost}
use Rattle.session_core.specs.State.{PlainSession, is_over}
use Rattle.session_core.specs.Time.{is_due}
use Rattle.session_journal.specs.declared.call.Call.{Call}
use Rattle.session_journal.specs.declared.call.Call.TheVariants as calls
use Rattle.session_journal.specs.declared.entry.Entered.{Entered}
use Rattle.session_journal.specs.declared.entry.Entered.TheVariants as stored
use Rattle.session_journal.specs.declared.entry.Entry.{Entry}
use Rattle.session_journal.specs.declared.entry.Limited.{Limited}
use Rattle.session_journal.specs.declared.entry.Limited.TheVariants as limits
use Rattle.session_journal.specs.declared.redoing.Redone.{Redone}
use Rattle.session_journal.specs.declared.redoing.Redone.TheVariants.{Done, Foreign}
use Rattle.session_journal.specs.declared.redoing.Again.{Again}
use Rattle.session_journal.specs.declared.redoing.Again.TheVariants as again
use Rattle.session_journal.specs.Calls.{call_in}
use Rattle.session_journal.specs.Entries.{entered_in}
use Rattle.session_journal.specs.Stored.{IsLegal}

-- the entry was made again where these entries with it are a journal, and it is the last of them then; otherwise nothing changed
abbrev pub Redoes : List Entry → Entry → Redone → List Entry → Type 0
Redoes log e Done later = (later ≡ log ++ e ∷ []) × IsLegal (log ++ e ∷ [])
Redoes log e Foreign later = (later ≡ log) × (IsLegal (log ++ e ∷ []) → ⊥)

-- what is stored of a call that is entered as itself
abbrev pub stored_call : Call → Entered
stored_call (calls.Arrive request body now) = stored.Arrive body now
stored_call (calls.Back stream stanza now) = stored.Back stream stanza now
stored_call (calls.BackClosed stream closing now) = stored.BackClosed stream closing now
stored_call (calls.Tick now) = stored.Tick now
stored_call calls.TakeInward = stored.TakeInward

-- what is to be done again for an entry: a call that may be made, a poll, or to meet the limit; nothing where what it tells may never be entered
abbrev pub AsksFor : Entered → Again → Type 0
AsksFor e again.Nothing = (s : PlainSession) (entered : plain.Entered) → entered_in e ≡ Some entered → MayEnter s entered → ⊥
AsksFor e (again.Call call) = (e ≡ stored_call call) × IsAllowed (call_in call)
AsksFor e (again.Poll ticket) = e ≡ stored.Collect ticket
AsksFor e (again.Limit kind cost now) = e ≡ stored.Limit kind cost now

-- a call is entered as itself, and not as the limit that it meets
abbrev pub is_itself : Option plain.Entered → Bool
is_itself None = false
is_itself (Some (plain.Made call)) = true
is_itself (Some (plain.Limit kind cost now)) = false

-- the session goes on, and its journal has room for this cost
abbrev pub fits : PlainSession → ℕ → Bool
fits s cost = not (is_over s) && not (is_full s cost)

-- a tick has something to do, and its entry fits
abbrev pub ticks : PlainSession → ℕ → Bool
ticks s now = is_due s now && not (is_full s plain_cost)

-- time meets the limit only where it has something to do
abbrev pub is_timely : PlainSession → Limited → ℕ → Bool
is_timely s limits.Arrival now = true
is_timely s limits.ServerStanza now = true
is_timely s limits.ServerClosing now = true
is_timely s limits.Time now = is_due s now

-- the limit may be entered
abbrev pub may_limit : PlainSession → Limited → ℕ → ℕ → Bool
may_limit s kind cost now = not (is_over s) && (is_full s cost && is_timely s kind now)
