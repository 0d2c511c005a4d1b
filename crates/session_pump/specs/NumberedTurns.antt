-- A turn of the pump over a list of opening numbers: what it does for each of them, and that nobody else is served.
use Rattle.std.specs.Prelude.{◌≡◌, ◌==◌, ℕ, ⊤, false, List, length, map, Option, None, Result, Ok, Err}
use Rattle.std.specs.List.{Contains, list_any}
use Rattle.std.specs.declared.alloc.AllocError.{AllocError}
use Rattle.parked_gate.specs.Passes.{Looks}
use Rattle.session_table.specs.declared.calls.LiveSession.{LiveSession}
use Rattle.session_table.specs.Purses.{Holds, held}
use Rattle.session_pump.specs.Pumping.{AsksDirectory, Each, EachPlace, HostFacts, Pumping, Step, Then, both}
use Rattle.session_pump.specs.Turns.{AsksLive, Meets, PollsAt, ServesMet, ServesOne, TellsOne}

-- a session that is held under this number was served as in a whole turn
abbrev pub ServesHeld : Option ℕ → ℕ → List ℕ → Step
ServesHeld moment number sid = Then (Meets number) (ServesMet moment number sid)

-- The live session under this number was served as in a whole turn: one that isn't held yet by the name that the directory, asked
-- now, has for it. Where the directory has none, nothing was done
pub data ServesNumber (moment : Option ℕ) (number : ℕ) (a : Pumping) : Pumping → Result ⊤ AllocError → Type 0 where
  was_held : {b : Pumping} {result : Result ⊤ AllocError} (sid : List ℕ) → Holds a.sessions number sid → ServesHeld moment number sid a b result
      → ServesNumber moment number a b result
  was_looked_up : {b c : Pumping} {result : Result ⊤ AllocError} (live : List LiveSession) (session : LiveSession) → held a.sessions number ≡ None
      → AsksLive live a b → Contains live session → session.number ≡ number → ServesOne moment session b c result → ServesNumber moment number a c result
  is_not_live : {b : Pumping} (live : List LiveSession) → held a.sessions number ≡ None
      → AsksLive live a b → list_any (λ session. session.number == number) live ≡ false → ServesNumber moment number a b (Ok tt)
  asked_in_vain : {b : Pumping} (error : AllocError) → held a.sessions number ≡ None
      → AsksDirectory (Looks (λ log. Unit {0})) a b → ServesNumber moment number a b (Err error)
  has_no_copy : (error : AllocError) → ServesNumber moment number a a (Err error)

-- how many back ends of each host have failed
abbrev pub failures_of : List HostFacts → List ℕ
failures_of hosts = map (λ host. host.ends.failures) hosts

-- where some back end has failed since these were counted, each live session was told where its own did; nobody was told only where
-- none has
pub data TellsFailures (moment : Option ℕ) (counted : List ℕ) (a : Pumping) : Pumping → Result ⊤ AllocError → Type 0 where
  none_failed : failures_of a.hosts ≡ counted → TellsFailures moment counted a a (Ok tt)
  told_all : {b c : Pumping} {result : Result ⊤ AllocError} (live : List LiveSession) → AsksLive live a b → Each (TellsOne moment) b live c result
      → TellsFailures moment counted a c result
  told_nobody : {b : Pumping} (error : AllocError) → AsksDirectory (Looks (λ log. Unit {0})) a b → TellsFailures moment counted a b (Err error)
  not_counted : (error : AllocError) → TellsFailures moment counted a a (Err error)

-- A turn over these numbers: the session under each was served in turn, each host was polled, and where a back end failed in it the
-- live sessions were told. Nothing else was done
pub data TurnsFor (moment : Option ℕ) (numbers : List ℕ) (a : Pumping) : Pumping → Result ⊤ AllocError → Type 0 where
  not_begun : (error : AllocError) → TurnsFor moment numbers a a (Err error)
  turned_for : {b c d : Pumping} {served polled told : Result ⊤ AllocError} → Each (ServesNumber moment) a numbers b served
      → EachPlace (PollsAt moment) b (length b.hosts) c polled → TellsFailures moment (failures_of a.hosts) c d told
      → TurnsFor moment numbers a d (both served (both polled told))
