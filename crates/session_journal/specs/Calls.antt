-- The calls of a stored session, and their replies, as those of the plain machine.
use Rattle.std.specs.Prelude.{◌≡◌, Option}
use Rattle.bosh_types.specs.declared.inward.Inward.{Inward}
use Rattle.session_core.specs.declared.replies.Arrived.{Arrived}
use Rattle.session_core.specs.declared.replies.Taken.{Taken}
use Rattle.session_core.specs.declared.replies.Ticked.{Ticked}
use Rattle.session_core.specs.Journal as plain
use Rattle.session_journal.specs.declared.call.Call.{Call}
use Rattle.session_journal.specs.declared.call.Call.TheVariants as calls
use Rattle.session_journal.specs.declared.call.Reply.{Reply}
use Rattle.session_journal.specs.declared.call.Reply.TheVariants as replies

abbrev pub call_in : Call → plain.Call
call_in (calls.Arrive request body now) = plain.Arrive request body now
call_in (calls.Back stream stanza now) = plain.Back stream stanza now
call_in (calls.BackClosed stream closing now) = plain.BackClosed stream closing now
call_in (calls.Tick now) = plain.Tick now
call_in calls.TakeInward = plain.TakeInward

abbrev pub reply_in : Reply → plain.Reply
reply_in (replies.Arrive arrived) = plain.ToArrive arrived
reply_in (replies.Back taken) = plain.ToBack taken
reply_in (replies.BackClosed taken) = plain.ToBack taken
reply_in (replies.Tick ticked) = plain.ToTick ticked
reply_in (replies.TakeInward item) = plain.ToTakeInward item

-- the reply has the name of the call
abbrev pub IsReplyTo : Call → Reply → Type 0
IsReplyTo (calls.Arrive request body now) reply = (arrived : Arrived) × (reply ≡ replies.Arrive arrived)
IsReplyTo (calls.Back stream stanza now) reply = (taken : Taken) × (reply ≡ replies.Back taken)
IsReplyTo (calls.BackClosed stream closing now) reply = (taken : Taken) × (reply ≡ replies.BackClosed taken)
IsReplyTo (calls.Tick now) reply = (ticked : Ticked) × (reply ≡ replies.Tick ticked)
IsReplyTo calls.TakeInward reply = (item : Option Inward) × (reply ≡ replies.TakeInward item)
