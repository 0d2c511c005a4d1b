-- When time next has something to do for the sessions of a pump.
use Rattle.std.specs.Prelude.{◌≡◌, ◌≢◌, ◌≤◌, ◌++◌, ◌∷◌, ℕ, List, [], IsSome, Option, Some, None}
use Rattle.std.specs.List.{Contains}
use Rattle.pause_rules.specs.Due.{IsFirstMoment}
use Rattle.pause_rules.specs.NextDue.{moment_of}
use Rattle.parked_gate.specs.Passes.{Looks, known}
use Rattle.session_core.specs.Time.{is_due}
use Rattle.session_journal.specs.declared.entry.Entry.{Entry}
use Rattle.session_journal.specs.Stored.{After}
use Rattle.session_table.specs.declared.handle.SessionHandle.{SessionHandle}
use Rattle.session_table.specs.Purses.{OthersStay, Sessions, Turned, held}

-- numbers with the moments at which they are due
abbrev pub Dues : Type 0
Dues = List (ℕ × ℕ)

-- this moment is noted of the number, or that it has none, and what is noted of others stays
pub record IsNotedAs (number : ℕ) (due : Option ℕ) (old new : Dues) : Type 0 where
  pub this : moment_of new number ≡ due
  pub others : (other : ℕ) → other ≢ number → moment_of new other ≡ moment_of old other

-- after these entries this is the first moment at which time has something to do for the session; none where it never has
abbrev pub IsFirstDue : List Entry → Option ℕ → Type 0
IsFirstDue log due = After log (λ plain. IsFirstMoment (is_due plain) due)

-- the first moment at which time has something to do for the session of this handle, by what its pass has seen; none without a session
abbrev pub IsDueOf : Option SessionHandle → Option ℕ → Type 0
IsDueOf None due = due ≡ None
IsDueOf (Some handle) due = IsFirstDue (known handle.pass).seen due

-- the moment that is noted of this number is its session's, and none is noted where no session is held under it
abbrev pub IsNoted : ℕ → Sessions → Dues → Type 0
IsNoted number sessions dues = IsDueOf (held sessions number) (moment_of dues number)

-- a session is held under this number for which time has nothing more to do, by what is noted: as after its ending
abbrev pub IsOver : ℕ → Sessions → Dues → Type 0
IsOver number sessions dues = IsSome (held sessions number) × (moment_of dues number ≡ None)

-- the session under this number was asked when it is due, where one is held
pub data AsksDue (number : ℕ) (old : Sessions) : Sessions → Type 0 where
  not_held : held old number ≡ None → AsksDue number old old
  asked : {new : Sessions} (due : Option ℕ) → Turned number old new (Looks (λ seen. IsFirstDue seen due)) → OthersStay number old new → AsksDue number old new

-- these were asked in turn
pub data AskDues (old : Sessions) : List ℕ → Sessions → Type 0 where
  asked_none : AskDues old [] old
  asked_one : {numbers : List ℕ} {l m : Sessions} (number : ℕ) → AskDues old numbers l → AsksDue number l m → AskDues old (numbers ++ number ∷ []) m

-- a number that was due by now is noted no longer and is among these, and any other is noted as before
pub data IsTakenBy (now : ℕ) (old new : Dues) (numbers : List ℕ) (number : ℕ) : Type 0 where
  stays : moment_of new number ≡ moment_of old number → IsTakenBy now old new numbers number
  was_due : (moment : ℕ) → moment_of old number ≡ Some moment → moment ≤ now → moment_of new number ≡ None → Contains numbers number
      → IsTakenBy now old new numbers number
