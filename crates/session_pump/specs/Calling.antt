-- Calls of a session that the pump makes.
use Rattle.std.specs.Prelude.{◌≡◌, ◌++◌, ◌∷◌, ℕ, ⊤, List, [], Option, IfSome, Result, Ok, Err}
use Rattle.std.specs.declared.alloc.AllocError.{AllocError}
use Rattle.bosh_types.specs.declared.ending.Closing.{Closing}
use Rattle.bosh_types.specs.declared.inward.Inward.{Inward}
use Rattle.parked_gate.specs.Passes.{Calls, Known}
use Rattle.session_journal.specs.declared.call.Call.{Call}
use Rattle.session_journal.specs.declared.call.Call.TheVariants as calls
use Rattle.session_journal.specs.declared.call.Reply.{Reply}
use Rattle.session_journal.specs.declared.call.Reply.TheVariants as replies
use Rattle.session_journal.specs.declared.entry.Entry.{Entry}
use Rattle.session_journal.specs.Seen.{RepliesTo}

-- the pass called its session so, and this was the reply; where there was no memory nothing was entered
abbrev pub Called : Call → Result Reply AllocError → Known Entry → Known Entry → Type 0
Called call result old new = Calls (λ e. e.caller) (λ before made. RepliesTo before call result made) old new

-- the moment of a call is the clock's, where that tells it
abbrev pub IsAt : Option ℕ → ℕ → Type 0
IsAt moment now = IfSome moment (λ told. now ≡ told)

-- what a call that takes the next item is replied
abbrev pub taken_as : Result (Option Inward) AllocError → Result Reply AllocError
taken_as (Ok item) = Ok (replies.TakeInward item)
taken_as (Err error) = Err error

-- time passed for the session, or there was no memory
abbrev pub Ticks : Option ℕ → Result ⊤ AllocError → Known Entry → Known Entry → Type 0
Ticks moment (Ok done) old new = (now : ℕ) × (reply : Reply) × IsAt moment now × Called (calls.Tick now) (Ok reply) old new
Ticks moment (Err error) old new = (now : ℕ) × Called (calls.Tick now) (Err error) old new

-- this stream of it was closed, or there was no memory
abbrev pub ClosesStream : Option ℕ → ℕ → Closing → Result ⊤ AllocError → Known Entry → Known Entry → Type 0
ClosesStream moment stream closing (Ok done) old new =
    (now : ℕ) × (reply : Reply) × IsAt moment now × Called (calls.BackClosed stream closing now) (Ok reply) old new
ClosesStream moment stream closing (Err error) old new = (now : ℕ) × Called (calls.BackClosed stream closing now) (Err error) old new

-- what is answered for two things that were both tried
abbrev pub both : Result ⊤ AllocError → Result ⊤ AllocError → Result ⊤ AllocError
both (Ok done) second = second
both (Err error) second = Err error

-- these streams of it were closed in turn, each though there was no memory for one before
pub data ClosesEach (moment : Option ℕ) (closing : Closing) (old : Known Entry) : List ℕ → Result ⊤ AllocError → Known Entry → Type 0 where
  closed_none : ClosesEach moment closing old [] (Ok tt) old
  closed_one : {streams : List ℕ} {first : Result ⊤ AllocError} {mid new : Known Entry} (stream : ℕ) (next : Result ⊤ AllocError)
      → ClosesEach moment closing old streams first mid → ClosesStream moment stream closing next mid new
      → ClosesEach moment closing old (streams ++ stream ∷ []) (both first next) new
