-- The calls of a client behind a gate, and their replies, as those of the plain client.
use Rattle.std.specs.Prelude.{◌≡◌, Bool, true, false, List, ℕ, Option, Some, None}
use Rattle.bosh_client.specs.declared.replies.Answered.{Answered}
use Rattle.bosh_client.specs.declared.replies.Answered.TheVariants as answerings
use Rattle.bosh_client.specs.declared.replies.Next.{Next}
use Rattle.bosh_client.specs.declared.replies.Next.TheVariants as nexts
use Rattle.bosh_client.specs.declared.replies.Queued.{Queued}
use Rattle.bosh_client.specs.declared.replies.Queued.TheVariants as queueings
use Rattle.bosh_client.specs.Runs as plain
use Rattle.client_run.specs.declared.call.Call.{Call}
use Rattle.client_run.specs.declared.call.Call.TheVariants as calls
use Rattle.client_run.specs.declared.call.Reply.{Reply}
use Rattle.client_run.specs.declared.call.Reply.TheVariants as replies

abbrev pub call_in : Call → plain.Call
call_in (calls.Put stanza) = plain.Put stanza
call_in calls.Restart = plain.Restart
call_in (calls.Pause seconds) = plain.Pause seconds
call_in calls.Terminate = plain.Terminate
call_in (calls.Next now) = plain.NextRequest now
call_in (calls.Answer rid body now) = plain.Answer rid body now
call_in calls.HandOut = plain.HandOut

abbrev pub reply_in : Reply → plain.Reply
reply_in (replies.Queued queued) = plain.ToQueue queued
reply_in (replies.Next next) = plain.ToNext next
reply_in (replies.Answered answered) = plain.ToAnswer answered
reply_in (replies.HandOut payload) = plain.ToHandOut payload

-- the reply has the name of the call
abbrev pub IsReplyTo : Call → Reply → Type 0
IsReplyTo (calls.Put stanza) reply = (queued : Queued) × (reply ≡ replies.Queued queued)
IsReplyTo calls.Restart reply = (queued : Queued) × (reply ≡ replies.Queued queued)
IsReplyTo (calls.Pause seconds) reply = (queued : Queued) × (reply ≡ replies.Queued queued)
IsReplyTo calls.Terminate reply = (queued : Queued) × (reply ≡ replies.Queued queued)
IsReplyTo (calls.Next now) reply = (next : Next) × (reply ≡ replies.Next next)
IsReplyTo (calls.Answer rid body now) reply = (answered : Answered) × (reply ≡ replies.Answered answered)
IsReplyTo calls.HandOut reply = (payload : Option (ℕ × List ℕ)) × (reply ≡ replies.HandOut payload)

-- what a reply says of its call: whether it changed the client
abbrev pub changes : plain.Reply → Bool
changes (plain.ToQueue queueings.Done) = true
changes (plain.ToQueue queueings.Over) = false
changes (plain.ToQueue queueings.Full) = false
changes (plain.ToQueue queueings.NoStream) = false
changes (plain.ToQueue queueings.TooLong) = false
changes (plain.ToNext (nexts.Request rid body)) = true
changes (plain.ToNext nexts.Nothing) = false
changes (plain.ToNext nexts.RidsSpent) = false
changes (plain.ToAnswer answerings.Done) = true
changes (plain.ToAnswer answerings.Unmade) = false
changes (plain.ToAnswer answerings.Stale) = false
changes (plain.ToAnswer (answerings.Broken why)) = false
changes (plain.ToAnswer (answerings.Again first last)) = false
changes (plain.ToHandOut (Some payload)) = true
changes (plain.ToHandOut None) = false
