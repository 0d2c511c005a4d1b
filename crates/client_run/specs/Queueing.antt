-- Stanzas and terminates that are queued.
use Rattle.std.specs.Prelude.{◌≡◌, ℕ, List, ◌⊎◌, true, false, Bool, Result, Ok, Err}
use Rattle.std.specs.declared.alloc.AllocError.{AllocError}
use Rattle.bosh_client.specs.declared.replies.Queued.{Queued}
use Rattle.bosh_client.specs.declared.replies.Queued.TheVariants as queueings
use Rattle.parked_gate.specs.Histories.{StartsWith}
use Rattle.parked_gate.specs.Passes.{Known}
use Rattle.client_run.specs.declared.call.Call.{Call}
use Rattle.client_run.specs.declared.call.Call.TheVariants as calls
use Rattle.client_run.specs.declared.call.Reply.TheVariants as replies
use Rattle.client_run.specs.declared.entry.Entry.{Entry}
use Rattle.client_run.specs.Adding.{Adds}
use Rattle.client_run.specs.Working.{Called}

-- the call was replied so, as one that queues, or there was no memory
abbrev pub QueuesBy : Call → Known Entry → Known Entry → Result Queued AllocError → Type 0
QueuesBy call old new (Ok queued) = Called call (Ok (replies.Queued queued)) old new
QueuesBy call old new (Err error) = Called call (Err error) old new

-- the pass has seen more, and perhaps has more entries of its own
pub record GoesFurther (old new : Known Entry) : Type 0 where
  pub begins : StartsWith new.seen old.seen
  pub adds : Adds old new (λ added. Unit {0})

-- meanwhile the pass queued a terminate: it is one of its own entries then, unless the client took no more, or there was no memory for it
pub record AsksToEnd (old new : Known Entry) : Type 0 where
  pub before : Known Entry
  pub after : Known Entry
  pub result : Result Queued AllocError
  pub earlier : GoesFurther old before
  pub queues : QueuesBy calls.Terminate before after result
  pub later : GoesFurther after new

-- and it added nothing after that
pub record AsksLast (old new : Known Entry) : Type 0 where
  pub asks : AsksToEnd old new
  pub last : new.mine ≡ asks.after.mine

-- the stanza was offered, or there was no memory for a copy of it
abbrev pub OffersBy : List ℕ → Known Entry → Known Entry → Result Queued AllocError → Type 0
OffersBy stanza old new (Ok queued) = Called (calls.Put stanza) (Ok (replies.Queued queued)) old new
OffersBy stanza old new (Err error) = (new ≡ old) ⊎ Called (calls.Put stanza) (Err error) old new

-- the stanza was offered in vain, any number of times: the queue was full, or there was no memory
pub data Offers (stanza : List ℕ) : Known Entry → Known Entry → Type 0 where
  none : {s : Known Entry} → Offers stanza s s
  full : {s t : Known Entry} (new : Known Entry) → Offers stanza s t → Called (calls.Put stanza) (Ok (replies.Queued queueings.Full)) t new → Offers stanza s new
  wanting : {s t : Known Entry} (new : Known Entry) (error : AllocError) → Offers stanza s t → Called (calls.Put stanza) (Err error) t new → Offers stanza s new

-- and then there was room, or the client took no more
pub record Puts (stanza : List ℕ) (queued : Queued) (old new : Known Entry) : Type 0 where
  pub last : Known Entry
  pub offers : Offers stanza old last
  pub replied : Called (calls.Put stanza) (Ok (replies.Queued queued)) last new

abbrev pub queued_by : Bool → Queued
queued_by true = queueings.Done
queued_by false = queueings.Over

abbrev pub PutsBy : List ℕ → Known Entry → Known Entry → Result Bool AllocError → Type 0
PutsBy stanza old new (Ok done) = Puts stanza (queued_by done) old new
PutsBy stanza old new (Err error) = Offers stanza old new
