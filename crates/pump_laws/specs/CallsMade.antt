-- The calls that the pump's pass made of a session, and what they took of it.
use Rattle.std.specs.Prelude.{ℕ, zero, suc, Bool, false, ◌==◌, List, [], ◌∷◌, ◌++◌, filter, if◌then◌else◌, Option, Some, None, Result, Ok, Err, option_to_list}
use Rattle.std.specs.List.{filter_map}
use Rattle.std.specs.declared.alloc.AllocError.{AllocError}
use Rattle.bosh_types.specs.declared.inward.Inward.{Inward}
use Rattle.bosh_types.specs.declared.inward.Inward.TheVariants as inward
use Rattle.session_core.specs.declared.replies.Taken.{Taken}
use Rattle.session_core.specs.declared.replies.Taken.TheVariants as takings
use Rattle.session_journal.specs.declared.call.Call.{Call}
use Rattle.session_journal.specs.declared.call.Call.TheVariants as calls
use Rattle.session_journal.specs.declared.call.Reply.{Reply}
use Rattle.session_journal.specs.declared.call.Reply.TheVariants as replies
use Rattle.session_journal.specs.declared.entry.Entry.{Entry}
use Rattle.session_journal.specs.Seen.{RepliesTo}
use Rattle.session_pump.specs.Sides.{is_for}
use Rattle.xmpp_backend.specs.Told.{on_wire}

-- a call, and what it was replied
abbrev pub CallMade : Type 0
CallMade = Call × Result Reply AllocError

-- the item that a reply to a taking has
abbrev pub item_in : Reply → Option Inward
item_in (replies.Arrive arrived) = None
item_in (replies.Back taken) = None
item_in (replies.BackClosed taken) = None
item_in (replies.Tick ticked) = None
item_in (replies.TakeInward item) = item

abbrev pub item_of : Result Reply AllocError → Option Inward
item_of (Ok reply) = item_in reply
item_of (Err error) = None

-- the item that a call took of the session
abbrev pub taken_by : Call → Result Reply AllocError → Option Inward
taken_by (calls.Arrive request body now) result = None
taken_by (calls.Back stream stanza now) result = None
taken_by (calls.BackClosed stream closing now) result = None
taken_by (calls.Tick now) result = None
taken_by calls.TakeInward result = item_of result

-- what calls took inward, in order
abbrev pub taken : List CallMade → List Inward
taken made = filter_map (λ call. taken_by call.0 call.1) made

-- what goes to the back end of a stream of what was taken: its stanzas and restarts, from the item on that opens it; of stream 0 all
abbrev pub opens : ℕ → Inward → Bool
opens number (inward.Item stream text) = false
opens number (inward.Restart stream) = false
opens number (inward.Open stream to) = stream == number
opens number (inward.Close stream) = false

abbrev pub after_open : ℕ → List Inward → List Inward
after_open number [] = []
after_open number (item ∷ items) = if opens number item then items else after_open number items

abbrev pub since_open : ℕ → List Inward → List Inward
since_open zero items = items
since_open (suc number) items = after_open (suc number) items

abbrev pub carried : ℕ → List Inward → List Inward
carried stream items = filter (is_for stream) (since_open stream items)

-- a stanza of a call that gave one on a stream, where the session took it or answered that it is over
abbrev pub Handed : Type 0
Handed = ℕ × List ℕ

abbrev pub stanza_if : Handed → Taken → Option Handed
stanza_if stanza takings.Done = Some stanza
stanza_if stanza takings.Full = None
stanza_if stanza takings.Over = Some stanza

abbrev pub stanza_by : Handed → Reply → Option Handed
stanza_by stanza (replies.Arrive arrived) = None
stanza_by stanza (replies.Back taking) = stanza_if stanza taking
stanza_by stanza (replies.BackClosed taking) = None
stanza_by stanza (replies.Tick ticked) = None
stanza_by stanza (replies.TakeInward item) = None

abbrev pub stanza_of : Handed → Result Reply AllocError → Option Handed
stanza_of stanza (Ok reply) = stanza_by stanza reply
stanza_of stanza (Err error) = None

-- the stanza that a call gave to the session, with its stream
abbrev pub given_by : Call → Result Reply AllocError → Option Handed
given_by (calls.Arrive request body now) result = None
given_by (calls.Back stream stanza now) result = stanza_of (stream, stanza) result
given_by (calls.BackClosed stream closing now) result = None
given_by (calls.Tick now) result = None
given_by calls.TakeInward result = None

-- the stanzas that calls gave to it on a stream, in order
abbrev pub handed : ℕ → List CallMade → List (List ℕ)
handed stream made = on_wire stream (filter_map (λ call. given_by call.0 call.1) made)

-- A pass made these entries by these calls, in order, and no others: each was replied by the rules of a session after what had been
-- entered by then, and made the entry that it makes by these rules, if it makes one
pub data MadeBy : List CallMade → List Entry → Type 0 where
  made_none : MadeBy [] []
  made_more : {made : List CallMade} {mine : List Entry} (before : List Entry) (call : Call) (result : Result Reply AllocError) (entry : Option Entry)
      → MadeBy made mine → RepliesTo before call result entry → MadeBy (made ++ (call, result) ∷ []) (mine ++ option_to_list entry)
