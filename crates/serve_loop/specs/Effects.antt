-- What a request adds to the histories of the sessions and of their directory.
use Rattle.std.specs.Prelude.{◌≡◌, ◌≢◌, ℕ, ◌+◌, true, List, [], ◌++◌, length, Option, Some, None, ◌⊎◌}
use Rattle.std.specs.Arc.{arc_value}
use Rattle.std.specs.BTreeMap.{IsUnchanged}
use Rattle.parked_gate.specs.Histories.{StartsWith}
use Rattle.parked_gate.specs.Passes.{Calls, Grows, Known, gate_of, known}
use Rattle.session_core.specs.State.{is_over}
use Rattle.session_journal.specs.declared.entry.Entry as journal
use Rattle.session_journal.specs.Stored.{After}
use Rattle.session_table.specs.declared.entry.Entry as table
use Rattle.session_table.specs.declared.handle.SessionHandle.{SessionHandle}
use Rattle.session_table.specs.declared.opening.Opening.{Opening}
use Rattle.session_table.specs.declared.purse.Purse.{Purse}
use Rattle.session_table.specs.Handles.{IsOfSame}
use Rattle.session_table.specs.History.{live_at, opening_in, openings_of}
use Rattle.session_table.specs.Keeping.{session_of}
use Rattle.session_table.specs.Purses.{OpensOrNot, OthersStay, KeepsLive, Sessions, WasAsked, held, own_entries}

-- the handle under this number is held so; or its session was seen to have ended, and the handle is let go
abbrev pub IsLast : Sessions → ℕ → SessionHandle → Type 0
IsLast sessions number x = (held sessions number ≡ Some x) ⊎ ((held sessions number ≡ None) × After (known x.pass).seen (λ s. is_over s ≡ true))

-- the second handle is of the same session, by a pass of the same number, which has seen at least as much
pub record GoesOn (x y : SessionHandle) : Type 0 where
  pub of_same : IsOfSame x y
  pub pass_number : (known y.pass).number ≡ (known x.pass).number
  pub seen : StartsWith (known y.pass).seen (known x.pass).seen

-- no handle of the session was held under this number, and this one is of the session that the directory, asked now, has live under its name
pub record IsNew (directory : Known table.Entry) (number : ℕ) (before : Option SessionHandle) (x : SessionHandle) : Type 0 where
  pub none : (other : SessionHandle) → before ≡ Some other → other.sid ≢ x.sid
  pub numbered : x.number ≡ number
  pub live : live_at directory.seen x.sid ≡ Some (session_of x)

-- the handle goes on from the one that was held under this number; or it is new
abbrev pub ComesBy : Known table.Entry → ℕ → Option SessionHandle → SessionHandle → Type 0
ComesBy directory number before x = ((held_before : SessionHandle) × (before ≡ Some held_before) × GoesOn held_before x) ⊎ IsNew directory number before x

-- of all sessions just this one was called, and these are the entries that this worker added there; the directory was asked at most
pub record CallsOne (old new : Purse) (number : ℕ) (x : SessionHandle) (added : List journal.Entry) : Type 0 where
  pub comes : ComesBy (known new.directory) number (held old.sessions number) x
  pub mine : (known x.pass).mine ≡ own_entries x.sid (held old.sessions number) ++ added
  pub last : IsLast new.sessions number x
  pub others : OthersStay number old.sessions new.sessions
  pub directory : Grows (known old.directory) (known new.directory)

-- the entry tells that this session was opened, which has the next number
abbrev pub IsOpeningOf : List table.Entry → SessionHandle → Option table.Entry → Type 0
IsOpeningOf log x made =
    (e : table.Entry) × (made ≡ Some e) × (opening_in e ≡ Some (x.sid, gate_of (arc_value x.gate))) × (x.number ≡ length (openings_of log) + 1)

-- this session was opened, which is the one entry that this worker added to the directory's history, and nothing was called but that
pub record OpensOne (old new : Purse) (x : SessionHandle) : Type 0 where
  pub number : ℕ
  pub is : held new.sessions number ≡ Some x
  pub numbered : x.number ≡ number
  pub mine : (known x.pass).mine ≡ []
  pub others : OthersStay number old.sessions new.sessions
  pub entered : Calls (λ e. e.caller) (λ log made. IsOpeningOf log x made) (known old.directory) (known new.directory)

-- this is known of the directory, which was asked just now, once, and nothing else was called
pub record AsksDirectory (old new : Purse) (told : Known table.Entry) : Type 0 where
  pub now : told ≡ known new.directory
  pub asked : Calls (λ e. e.caller) (λ log made. made ≡ None) (known old.directory) (known new.directory)
  pub held : IsUnchanged old.sessions new.sessions

-- the session of this name was found and called at most, and nothing was added there
pub record FindsAtMost (old new : Purse) (number : ℕ) (sid : List ℕ) : Type 0 where
  pub comes : (x : SessionHandle) → held new.sessions number ≡ Some x → ComesBy (known new.directory) number (held old.sessions number) x
  pub own : own_entries sid (held new.sessions number) ≡ own_entries sid (held old.sessions number)
  pub others : OthersStay number old.sessions new.sessions
  pub directory : Grows (known old.directory) (known new.directory)

-- nothing was added anywhere
abbrev pub AddsNothing : Purse → Purse → Type 0
AddsNothing old new = (number : ℕ) × (sid : List ℕ) × FindsAtMost old new number sid

-- a session whose handle made no entry is held under this number
abbrev pub HoldsNew : Sessions → Sessions → Type 0
HoldsNew old new = (number : ℕ) × (x : SessionHandle) × (held new number ≡ Some x) × ((known x.pass).mine ≡ []) × OthersStay number old new

-- one session was opened with this at most, and nothing else was called
pub record OpensAtMost (opening : Opening) (old new : Purse) : Type 0 where
  pub entered : Calls (λ e. e.caller) (λ log made. OpensOrNot log opening made) (known old.directory) (known new.directory)
  pub held : IsUnchanged old.sessions new.sessions ⊎ HoldsNew old.sessions new.sessions

-- the directory was asked, and handles of sessions that it has no longer were let go, or none where there was no memory for its answer
pub record DropsRemoved (old new : Purse) : Type 0 where
  pub directory : Grows (known old.directory) (known new.directory)
  pub asked : WasAsked (known old.directory) (known new.directory)
  pub sessions : KeepsLive (known new.directory).seen old.sessions new.sessions ⊎ IsUnchanged old.sessions new.sessions
