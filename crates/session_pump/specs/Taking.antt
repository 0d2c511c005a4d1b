-- What becomes of something that is given to a session.
use Rattle.std.specs.Prelude.{◌≡◌, ◌≢◌, ◌+◌, ◌&&◌, ◌||◌, ℕ, Bool, true, false, is_some, nat_lt, nat_le, List, length, Option, None, Result, Ok, Err}
use Rattle.std.specs.declared.alloc.AllocError.{AllocError}
use Rattle.bosh_types.specs.Limits.{most_waiting, waiting_bytes}
use Rattle.bosh_types.specs.declared.ending.Ending.{Ending}
use Rattle.parked_gate.specs.Passes.{Known, Looks}
use Rattle.session_core.specs.declared.replies.Taken.{Taken}
use Rattle.session_core.specs.declared.replies.Taken.TheVariants as takings
use Rattle.session_core.specs.declared.replies.Waiting.{Waiting}
use Rattle.session_journal.specs.declared.asking.Answer.TheVariants as answers
use Rattle.session_journal.specs.declared.asking.Question.TheVariants as questions
use Rattle.session_journal.specs.declared.call.Call.{Call}
use Rattle.session_journal.specs.declared.call.Call.TheVariants as calls
use Rattle.session_journal.specs.declared.call.Reply.TheVariants as replies
use Rattle.session_journal.specs.declared.entry.Entry.{Entry}
use Rattle.session_journal.specs.Seen.{Answers}
use Rattle.xmpp_backend.specs.declared.backend.Given.{Given}
use Rattle.xmpp_backend.specs.declared.backend.Given.TheVariants as given
use Rattle.session_pump.specs.Calling.{Called, ClosesStream, IsAt}
use Rattle.session_pump.specs.declared.giving.Giving.{Giving}
use Rattle.session_pump.specs.declared.giving.Giving.TheVariants as givings
use Rattle.session_pump.specs.declared.line.Owing.{Owing}

-- the session took the stanza on this stream, or has ended or that stream isn't open; or the stream was closed
abbrev pub Takes : Option ℕ → ℕ → Given → Known Entry → Known Entry → Type 0
Takes moment stream (given.Stanza text) old new =
    (now : ℕ) × (taken : Taken) × IsAt moment now × (taken ≢ takings.Full) × Called (calls.Back stream text now) (Ok (replies.Back taken)) old new
Takes moment stream (given.Closed closing) old new = ClosesStream moment stream closing (Ok tt) old new

-- the session has no room for the stanza
abbrev pub Refuses : Option ℕ → ℕ → Given → Known Entry → Known Entry → Type 0
Refuses moment stream (given.Stanza text) old new =
    (now : ℕ) × IsAt moment now × Called (calls.Back stream text now) (Ok (replies.Back takings.Full)) old new
Refuses moment stream (given.Closed closing) old new = ⊥

-- the session wasn't asked, or was asked and nothing was added
pub data IsAsked : Known Entry → Known Entry → Type 0 where
  unasked : {k : Known Entry} → IsAsked k k
  looked : {k m : Known Entry} → Looks (λ _. Unit {0}) k m → IsAsked k m

-- nothing was called, or there was no memory for the call
pub data Tried : Known Entry → Known Entry → Type 0 where
  untried : {k : Known Entry} → Tried k k
  called : {k m : Known Entry} (call : Call) (error : AllocError) → Called call (Err error) k m → Tried k m

-- what became of what was given
abbrev pub Gives : Option ℕ → ℕ → Given → Result Giving AllocError → Known Entry → Known Entry → Type 0
Gives moment stream what (Ok givings.Done) old new = Takes moment stream what old new
Gives moment stream what (Ok givings.Full) old new = Refuses moment stream what old new
Gives moment stream what (Err error) old new = Tried old new

-- whether a stanza of so many bytes may wait beside what waits
abbrev pub has_room : Waiting → ℕ → Bool
has_room waiting bytes = nat_lt waiting.items most_waiting && nat_le (waiting.bytes + bytes) waiting_bytes

-- the session hasn't ended, and so much waits in it that the stanza has no room; for a closing there is always room
abbrev pub LacksRoom : Given → List Entry → Type 0
LacksRoom (given.Stanza text) log = (waiting : Waiting) × Answers log questions.Load (Ok (answers.Load waiting None)) × (has_room waiting (length text) ≡ false)
LacksRoom (given.Closed closing) log = ⊥

-- the session has ended, or there is room in it for the stanza
abbrev pub HasRoom : Given → List Entry → Type 0
HasRoom (given.Stanza text) log =
    (waiting : Waiting) × (ending : Option Ending) × Answers log questions.Load (Ok (answers.Load waiting ending))
    × ((is_some ending || has_room waiting (length text)) ≡ true)
HasRoom (given.Closed closing) log = Unit {0}

-- what is kept wasn't refused before, or its session was asked for room just now and has it
pub data IsReady (owing : Owing) : Known Entry → Known Entry → Type 0 where
  is_new : {k : Known Entry} → owing.was_refused ≡ false → IsReady owing k k
  finds_room : {k m : Known Entry} → Looks (HasRoom owing.given) k m → IsReady owing k m

-- it is given only then
abbrev pub OnceReady : Owing → (Known Entry → Known Entry → Type 0) → Known Entry → Known Entry → Type 0
OnceReady owing Given k m = (l : Known Entry) × IsReady owing k l × Given l m

-- the session refused what is given, or was asked for room and lacks it
pub data FindsNoRoom (moment : Option ℕ) (owing : Owing) : Known Entry → Known Entry → Type 0 where
  is_full : {k m : Known Entry} → OnceReady owing (Refuses moment owing.stream owing.given) k m → FindsNoRoom moment owing k m
  lacks_room : {k m : Known Entry} → Looks (LacksRoom owing.given) k m → FindsNoRoom moment owing k m
