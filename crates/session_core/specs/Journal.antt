-- The journal of a session: every call that changed it or might have, in order, and what the session is after them.
use Rattle.std.specs.Prelude.{◌≡◌, ℕ, ◌≤◌, ⊤, true, false, IsTrue, length, ◌+◌, List, [], ◌∷◌, Option, Some, None, Ok, is_some, sum_by, if◌then◌else◌}
use Rattle.std.specs.List.{list_all}
use Rattle.bosh_types.specs.declared.ending.Closing.{Closing}
use Rattle.bosh_types.specs.Limits.{most_waiting, longest_stanza}
use Rattle.bosh_types.specs.declared.inward.Inward.{Inward}
use Rattle.body_cutter.specs.declared.parts.Cut.{Cut}
use Rattle.body_cutter.specs.BodyText.{IsText}
use Rattle.body_cutter.specs.Cutting.{body_cut_of, is_stanza}
use Rattle.session_attrs.specs.declared.request.Creation.{Creation}
use Rattle.session_attrs.specs.declared.request.Kind.TheVariants as kinds
use Rattle.session_attrs.specs.declared.request.Request.{Request}
use Rattle.session_attrs.specs.Reading.{request_of}
use Rattle.session_attrs.specs.Terms.{terms_of}
use Rattle.session_attrs.specs.Values.{values_of}
use Rattle.session_core.specs.declared.replies.Arrived.{Arrived}
use Rattle.session_core.specs.declared.replies.Collected.{Collected}
use Rattle.session_core.specs.declared.replies.Collected.TheVariants as collections
use Rattle.session_core.specs.declared.replies.Taken.{Taken}
use Rattle.session_core.specs.declared.replies.Ticked.{Ticked}
use Rattle.session_core.specs.Machine.{opened, greeting_of, arrive, collect, back, back_closed, tick, take_inward, body_cost, stanza_cost, plain_cost, is_full, full_with}
use Rattle.session_core.specs.declared.opening.Opening.{Opening}
use Rattle.session_core.specs.Outward.{size_of_all}
use Rattle.session_core.specs.State.{PlainSession, is_over}
use Rattle.session_core.specs.Time.{is_due}

pub data Call : Type 0 where
  Arrive : Request → List ℕ → ℕ → Call
  Collect : ℕ → Call
  Back : ℕ → List ℕ → ℕ → Call
  BackClosed : ℕ → Closing → ℕ → Call
  Tick : ℕ → Call
  TakeInward : Call

pub data Reply : Type 0 where
  ToArrive : Arrived → Reply
  ToCollect : Collected → Reply
  ToBack : Taken → Reply
  ToTick : Ticked → Reply
  ToTakeInward : Option Inward → Reply

-- the calls that may meet the limit of the journal
pub data Limited : Type 0 where
  Arrival : Limited
  ServerStanza : Limited
  ServerClosing : Limited
  Time : Limited

-- what an entry holds: a call; or, where the journal had no room for it, of what kind it was, its cost and its moment
pub data Entered : Type 0 where
  Made : Call → Entered
  Limit : Limited → ℕ → ℕ → Entered

-- an entry and the number of its caller
pub record Entry : Type 0 where
  pub caller : ℕ
  pub entered : Entered

-- a journal begins with the opening of its session
pub record Journal : Type 0 where
  pub opening : Opening
  pub entries : List Entry

-- what a call adds to the counted bytes
abbrev pub cost_of : Call → ℕ
cost_of (Arrive request body now) = body_cost request body
cost_of (Collect ticket) = 0
cost_of (Back stream stanza now) = stanza_cost stanza
cost_of (BackClosed stream closing now) = plain_cost
cost_of (Tick now) = plain_cost
cost_of TakeInward = 0

abbrev pub entry_cost : Entered → ℕ
entry_cost (Made call) = cost_of call
entry_cost (Limit kind cost now) = 0

-- the counted bytes of a journal
abbrev pub counted : Journal → ℕ
counted journal = cost_of (Arrive journal.opening.request journal.opening.body journal.opening.at) + sum_by (λ entry. entry_cost entry.entered) journal.entries

-- the state after a call, and the reply to it

abbrev pub called : {X : Type 0} → (X → Reply) → PlainSession × X → PlainSession × Reply
called reply (s, x) = (s, reply x)

abbrev pub step : PlainSession → Call → PlainSession × Reply
step s (Arrive request body now) = called ToArrive (arrive s request body now)
step s (Collect ticket) = called ToCollect (collect s ticket)
step s (Back stream stanza now) = called ToBack (back s stream stanza now)
step s (BackClosed stream closing now) = called ToBack (back_closed s stream closing now)
step s (Tick now) = called ToTick (tick s now)
step s TakeInward = called ToTakeInward (take_inward s)

-- the entry of a call that may meet the limit of the journal
abbrev pub within_limit : PlainSession → Limited → ℕ → Call → Entered
within_limit s kind now call = if is_full s (cost_of call) then Limit kind (cost_of call) now else Made call

abbrev pub unless_over : PlainSession → Entered → Option Entered
unless_over s entered = if is_over s then None else Some entered

-- a ticket for which there is nothing is not collected
abbrev pub collected_entry : PlainSession → Call → Collected → Option Entered
collected_entry s call collections.NotYet = None
collected_entry s call collections.UnknownTicket = None
collected_entry s call collections.Superseded = Some (Made call)
collected_entry s call (collections.Answer bytes) = Some (Made call)

-- what a call enters: nothing where it comes after the ending, finds nothing, or comes when nothing is due
abbrev pub entered_by : PlainSession → Call → Option Entered
entered_by s (Arrive request body now) = unless_over s (within_limit s Arrival now (Arrive request body now))
entered_by s (Collect ticket) = collected_entry s (Collect ticket) (collect s ticket).1
entered_by s (Back stream stanza now) = unless_over s (within_limit s ServerStanza now (Back stream stanza now))
entered_by s (BackClosed stream closing now) = unless_over s (within_limit s ServerClosing now (BackClosed stream closing now))
entered_by s (Tick now) = if is_due s now then Some (within_limit s Time now (Tick now)) else None
entered_by s TakeInward = if is_some (take_inward s).1 then Some (Made TakeInward) else None

-- the state after an entry
abbrev pub after_entry : PlainSession → Entered → PlainSession
after_entry s (Made call) = (step s call).0
after_entry s (Limit kind cost now) = full_with cost s

abbrev pub after_entries : PlainSession → List Entry → PlainSession
after_entries s [] = s
after_entries s (entry ∷ entries) = after_entries (after_entry s entry.entered) entries

-- the state that a journal stands for: that after its entries in turn
abbrev pub state_of : Journal → PlainSession
state_of journal = after_entries (opened journal.opening) journal.entries

-- what a call replies after a journal, entered or not
abbrev pub reply_of : Journal → Call → Reply
reply_of journal call = (step (state_of journal) call).1

-- the request is what reading gives for what this body is cut into
abbrev pub IsReadFrom : List ℕ → Request → Type 0
IsReadFrom body request = (cut : Cut) × (body_cut_of body ≡ Ok cut) × (request_of (values_of body cut.attrs) cut.children ≡ Ok request)

-- a session is opened by a creation with its own terms, under a name and for a host that can stand in an answer, and with a
-- greeting that one answer may take, XEP-0124 section 7
pub record IsOpening (o : Opening) : Type 0 where
  pub read : IsReadFrom o.body o.request
  pub creation : (creation : Creation) × (o.request.kind ≡ kinds.Creation creation) × (o.terms ≡ terms_of creation)
  pub sid : IsText o.sid × (1 ≤ length o.sid) × (length o.sid ≤ 64)
  pub host : IsText o.host × (1 ≤ length o.host) × (length o.host ≤ 1023)
  -- a copy beyond a gap is struck after 1 to 10 times `wait`
  pub gap : (1 ≤ o.gap_waits) × (o.gap_waits ≤ 10)
  pub greeting : IsTrue (list_all is_stanza o.greeting) × (length o.greeting ≤ most_waiting) × (size_of_all (greeting_of o) ≤ longest_stanza)

-- what a session is asked of each call: a copy is a later request and is read from its body, and the server gives stanzas
abbrev pub IsAllowed : Call → Type 0
IsAllowed (Arrive request body now) = IsReadFrom body request × ((sid : List ℕ) × (request.kind ≡ kinds.Later sid))
IsAllowed (Collect ticket) = ⊤
IsAllowed (Back stream stanza now) = IsTrue (is_stanza stanza)
IsAllowed (BackClosed stream closing now) = ⊤
IsAllowed (Tick now) = ⊤
IsAllowed TakeInward = ⊤

-- time meets the limit only where it has something to do
abbrev pub IsTimely : PlainSession → Limited → ℕ → Type 0
IsTimely s Arrival now = ⊤
IsTimely s ServerStanza now = ⊤
IsTimely s ServerClosing now = ⊤
IsTimely s Time now = is_due s now ≡ true

-- what may be entered after a state: what an allowed call enters; or the limit, wherever the session goes on and its journal has
-- no room for the cost
abbrev pub MayEnter : PlainSession → Entered → Type 0
MayEnter s (Made call) = IsAllowed call × (entered_by s call ≡ Some (Made call))
MayEnter s (Limit kind cost now) = (is_over s ≡ false) × (is_full s cost ≡ true) × IsTimely s kind now

-- each entry is one that may be entered after those before it
pub data IsMade : PlainSession → List Entry → Type 0 where
  none : {s : PlainSession} → IsMade s []
  more : {s : PlainSession} {entry : Entry} {entries : List Entry}
      → MayEnter s entry.entered → IsMade (after_entry s entry.entered) entries → IsMade s (entry ∷ entries)

-- a journal begins with an opening, and each entry after it might be entered there
abbrev pub IsJournal : Journal → Type 0
IsJournal journal = IsOpening journal.opening × IsMade (opened journal.opening) journal.entries
