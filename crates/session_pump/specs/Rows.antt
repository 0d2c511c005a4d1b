-- Calls of a pump, one after the other.
use Rattle.std.specs.Prelude.{ℕ, List, Option, Result, ⊤}
use Rattle.std.specs.declared.alloc.AllocError.{AllocError}
use Rattle.session_table.specs.Purses.{Sessions}
use Rattle.session_pump.specs.Dues.{AskDues, Dues}
use Rattle.session_pump.specs.NumberedTurns.{TurnsFor}
use Rattle.session_pump.specs.Pumping.{Pumping}
use Rattle.session_pump.specs.Turns.{ShutsDown, Turns}

-- one call of a pump: a whole turn, one for some sessions, the end, each with its answer, whichever it is; or sessions were asked when
-- they are due, and whatever is noted of that
pub data Calls (a : Pumping) : Pumping → Type 0 where
  turned : {b : Pumping} {moment : Option ℕ} {result : Result ℕ AllocError} → Turns moment a b result → Calls a b
  turned_for : {b : Pumping} {moment : Option ℕ} {numbers : List ℕ} {result : Result ⊤ AllocError} → TurnsFor moment numbers a b result → Calls a b
  shut_down : {b : Pumping} {moment : Option ℕ} {result : Result ⊤ AllocError} → ShutsDown moment a b result → Calls a b
  asked_dues : {numbers : List ℕ} (sessions : Sessions) (dues : Dues) → AskDues a.sessions numbers sessions
      → Calls a (record a { sessions = sessions; dues = dues })

-- calls one after the other
pub data Row (a : Pumping) : Pumping → Type 0 where
  no_call : Row a a
  one_more : {b c : Pumping} → Row a b → Calls b c → Row a c
