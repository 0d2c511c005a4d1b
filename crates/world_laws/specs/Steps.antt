-- The events of a world: what each does to it, and what is seen of it.
use Rattle.std.specs.Prelude.{ℕ, zero, suc, ◌+◌, max, List, [], ◌∷◌, ◌++◌, map, drop, length, slice_get, Option, Some, None, codes}
use Rattle.bosh_types.specs.ById.{at_id}
use Rattle.bosh_types.specs.declared.condition.Condition.{Condition}
use Rattle.bosh_types.specs.declared.condition.Condition.TheVariants.{BadRequest, HostUnknown, ImproperAddressing}
use Rattle.bosh_types.specs.declared.ending.Closing.{Closing}
use Rattle.bosh_types.specs.declared.hosts.HostName.{HostName}
use Rattle.session_attrs.specs.declared.admission.Admitted.{Admitted}
use Rattle.session_attrs.specs.declared.admission.Admitted.TheVariants as admitted
use Rattle.session_attrs.specs.declared.request.Creation.{Creation}
use Rattle.session_attrs.specs.declared.request.Kind.{Kind}
use Rattle.session_attrs.specs.declared.request.Kind.TheVariants as kinds
use Rattle.session_attrs.specs.declared.request.Request.{Request}
use Rattle.session_attrs.specs.Admission.{admitted_of}
use Rattle.session_attrs.specs.Terms.{terms_of}
use Rattle.session_core.specs.declared.replies.Taken.{Taken}
use Rattle.session_core.specs.declared.replies.Taken.TheVariants as takings
use Rattle.session_core.specs.Copy.{unnamed}
use Rattle.session_core.specs.Machine.{back, back_closed}
use Rattle.session_core.specs.declared.opening.Opening.{Opening}
use Rattle.session_core.specs.Opened.{opening_of}
use Rattle.session_journal.specs.Entries.{request_in}
use Rattle.bosh_client.specs.declared.replies.Answered.{Answered}
use Rattle.bosh_client.specs.declared.replies.Answered.TheVariants as answerings
use Rattle.bosh_client.specs.declared.replies.ClientEnd.{ClientEnd}
use Rattle.bosh_client.specs.declared.replies.Next.{Next}
use Rattle.bosh_client.specs.declared.replies.Next.TheVariants as nexts
use Rattle.bosh_client.specs.declared.replies.Queued.{Queued}
use Rattle.bosh_client.specs.declared.replies.Queued.TheVariants as queueings
use Rattle.bosh_client.specs.Machine.{add, answer, close_stream, next_request, pause, put, put_on, restart, terminate}
use Rattle.bosh_client.specs.PlainClient.{PlainClient, deliverable, end_of}
use Rattle.world_laws.specs.declared.event.WorldEvent.{WorldEvent}
use Rattle.world_laws.specs.declared.event.WorldEvent.TheVariants as events
use Rattle.world_laws.specs.declared.seen.SeenItem.{SeenItem}
use Rattle.world_laws.specs.declared.seen.SeenItem.TheVariants as seen
use Rattle.world_laws.specs.declared.seen.Word.{Word}
use Rattle.world_laws.specs.declared.seen.Word.TheVariants as words
use Rattle.world_laws.specs.declared.told.Told.{Told}
use Rattle.world_laws.specs.declared.told.Told.TheVariants as tells
use Rattle.world_laws.specs.Manager.{PlainManager, Turn, arrives, gives, opens, passes, refusal_to, session, shuts}
use Rattle.world_laws.specs.World.{PlainWorld}

-- what is seen of an event, and the world after it
pub record Step : Type 0 where
  pub seen : List SeenItem
  pub after : PlainWorld

abbrev pub only : PlainWorld → SeenItem → Step
only w item = record { seen = item ∷ []; after = w }

abbrev pub unseen : PlainWorld → Step
unseen w = record { seen = []; after = w }

-- The client.

abbrev pub refusals : Word → Queued → List SeenItem
refusals word queueings.Done = []
refusals word queueings.Over = seen.RefusedOver word ∷ []
refusals word queueings.Full = seen.RefusedFull word ∷ []
refusals word queueings.NoStream = seen.RefusedNone word ∷ []
refusals word queueings.TooLong = seen.RefusedLong ∷ []

-- something is to be sent
abbrev pub queues : PlainWorld → Word → PlainClient × Queued → Step
queues w word (c, queued) = record { seen = refusals word queued; after = record w { client = c } }

-- what was made is sent: from now on it is in the network
abbrev pub sends : PlainWorld → PlainClient × Next → Step
sends w (c, nexts.Nothing) = only (record w { client = c }) seen.Nothing
sends w (c, nexts.RidsSpent) = only (record w { client = c }) seen.Spent
sends w (c, nexts.Request rid body) =
    only (record w { client = c; sent = w.sent ++ (rid, body) ∷ [] }) (seen.Req rid body)

-- all that can be handed out is handed out at once
abbrev pub left_of : PlainClient → List (ℕ × List ℕ)
left_of c = drop c.handed_out (deliverable c)

abbrev pub all_handed : PlainClient → PlainClient
all_handed c = record c { handed_out = length (deliverable c) }

-- what is handed out is seen with its stream, but for the first one
abbrev pub got : ℕ × List ℕ → SeenItem
got (zero, stanza) = seen.Got stanza
got (suc stream, stanza) = seen.GotOn (suc stream) stanza

-- the first terminal answer is seen once
abbrev pub ended_seen : Option ClientEnd → Option ClientEnd → List SeenItem
ended_seen (Some before) end = []
ended_seen None None = []
ended_seen None (Some end) = seen.Ended end.condition ∷ []

-- an answer to a request with this id comes to the client
abbrev pub returned : PlainWorld → ℕ → PlainClient × Answered → Step
returned w rid (c, answerings.Done) =
    record { seen = map got (left_of c) ++ ended_seen (end_of w.client) (end_of c); after = record w { client = all_handed c } }
returned w rid (c, answerings.Unmade) = unseen w
returned w rid (c, answerings.Stale) = only w (seen.Stale rid)
returned w rid (c, answerings.Broken why) = only w (seen.Broken rid)
returned w rid (c, answerings.Again first last) = only w (seen.Again first last)

abbrev pub returns_to : PlainWorld → Option (ℕ × List ℕ) → Step
returns_to w None = only w seen.NoCopy
returns_to w (Some (rid, body)) = returned w rid (answer w.client rid body w.moment)

-- answers count from 1
abbrev pub returns : PlainWorld → ℕ → Step
returns w zero = only w seen.NoCopy
returns w (suc index) = returns_to w (slice_get w.written index)

-- The manager.

-- answers have numbers, after so many that were written before
abbrev pub numbered : ℕ → List Told → List SeenItem
numbered count [] = []
numbered count (tells.Passed item ∷ told) = seen.In item ∷ numbered count told
numbered count (tells.Answer rid body ∷ told) = seen.Ans (count + 1) rid body ∷ numbered (count + 1) told
numbered count (tells.Gone rid ∷ told) = seen.Gone rid ∷ numbered count told
numbered count (tells.Over ending ∷ told) = seen.Over ending ∷ numbered count told

abbrev pub answers_in : List Told → List (ℕ × List ℕ)
answers_in [] = []
answers_in (tells.Passed item ∷ told) = answers_in told
answers_in (tells.Answer rid body ∷ told) = (rid, body) ∷ answers_in told
answers_in (tells.Gone rid ∷ told) = answers_in told
answers_in (tells.Over ending ∷ told) = answers_in told

-- what the manager answers is in the network from now on
abbrev pub turns : PlainWorld → List SeenItem → Turn → Step
turns w first turn = record {
  seen = first ++ numbered (length w.written) turn.told;
  after = record w { manager = Some turn.after; written = w.written ++ answers_in turn.told };
}

-- the one session has this name
abbrev pub name : List ℕ
name = codes "s1"

abbrev pub opening : PlainWorld → Request → List ℕ → Creation → Opening
opening w request body creation = opening_of request body (terms_of creation) name w.host w.greeting w.moment

-- a request with this id is refused: no session is touched, and the refusal is in the network like every answer
abbrev pub refuses : PlainWorld → ℕ → Condition → Step
refuses w rid condition = record {
  seen = numbered (length w.written) (refusal_to rid condition ∷ []);
  after = record w { written = w.written ++ answers_in (refusal_to rid condition ∷ []) };
}

-- the one host that the manager serves
abbrev pub host_of : PlainWorld → HostName
host_of w = record { name = w.host; greeting = w.greeting }

-- a creation opens the session where it names that host, and is refused otherwise
abbrev pub admits : PlainWorld → List ℕ → Request → Creation → Admitted → Step
admits w body request creation (admitted.Host place) = turns w [] (opens (opening w request body creation))
admits w body request creation admitted.Improper = refuses w request.rid ImproperAddressing
admits w body request creation admitted.Unknown = refuses w request.rid HostUnknown

-- a copy comes: the first creation opens the session, and changes nothing again; before it every other copy is lost
abbrev pub comes : PlainWorld → List ℕ → Request → Kind → Option PlainManager → Step
comes w body request (kinds.Creation creation) None = admits w body request creation (admitted_of request.to (host_of w ∷ []))
comes w body request (kinds.Creation creation) (Some m) = only w (seen.Dup request.rid)
comes w body request (kinds.Later sid) None = unseen w
comes w body request (kinds.Later sid) (Some m) = turns w [] (arrives m request body w.moment)

-- a body that gives no request is refused
abbrev pub carried : PlainWorld → ℕ → List ℕ → Option Request → Step
carried w rid body None = refuses w rid BadRequest
carried w rid body (Some request) = comes w body request request.kind w.manager

abbrev pub carries_to : PlainWorld → ℕ → Option (List ℕ) → Step
carries_to w rid None = only w seen.NoCopy
carries_to w rid (Some body) = carried w rid body (request_in body)

abbrev pub carries : PlainWorld → ℕ → Step
carries w rid = carries_to w rid (at_id w.sent rid)

abbrev pub taken_refusals : Word → Taken → List SeenItem
taken_refusals word takings.Done = []
taken_refusals word takings.Full = seen.RefusedFull word ∷ []
taken_refusals word takings.Over = seen.RefusedOver word ∷ []

-- before the creation came there is no session to give to
abbrev pub gives_to : PlainWorld → ℕ → List ℕ → Option PlainManager → Step
gives_to w stream stanza None = only w (seen.RefusedOver words.Give)
gives_to w stream stanza (Some m) = turns w (taken_refusals words.Give (back (session m) stream stanza w.moment).1) (gives m stream stanza w.moment)

abbrev pub shuts_to : PlainWorld → ℕ → Closing → Option PlainManager → Step
shuts_to w stream closing None = only w (seen.RefusedOver words.Shut)
shuts_to w stream closing (Some m) =
    turns w (taken_refusals words.Shut (back_closed (session m) stream closing w.moment).1) (shuts m stream closing w.moment)

-- time passes at the manager
abbrev pub passes_to : PlainWorld → Option PlainManager → Step
passes_to w None = unseen w
passes_to w (Some m) = turns w [] (passes m w.moment)

-- a moment that is past is this one
abbrev pub at : PlainWorld → ℕ → PlainWorld
at w moment = record w { moment = max w.moment moment }

-- Events.

abbrev pub step : PlainWorld → WorldEvent → Step
step w (events.At moment) = passes_to (at w moment) w.manager
step w (events.Put stanza) = queues w words.Put (put w.client stanza)
step w (events.PutOn stream stanza) = queues w words.PutOn (put_on w.client stream stanza)
step w (events.Add to) = queues w words.Add (add w.client to)
step w (events.StopOn stream) = queues w words.StopOn (close_stream w.client stream)
step w events.Restart = queues w words.Restart (restart w.client)
step w (events.Pause seconds) = queues w words.Pause (pause w.client seconds)
step w events.Stop = queues w words.Stop (terminate w.client)
step w events.Send = sends w (next_request w.client w.moment)
step w (events.Carry rid) = carries w rid
step w (events.Give stanza) = gives_to w unnamed stanza w.manager
step w (events.GiveOn stream stanza) = gives_to w stream stanza w.manager
step w (events.Shut closing) = shuts_to w unnamed closing w.manager
step w (events.ShutOn stream closing) = shuts_to w stream closing w.manager
step w (events.Return number) = returns w number

-- the world after events, and what is seen of them, event by event
abbrev pub after : PlainWorld → List WorldEvent → PlainWorld
after w [] = w
after w (event ∷ events) = after (step w event).after events

abbrev pub report : PlainWorld → List WorldEvent → List (List SeenItem)
report w [] = []
report w (event ∷ events) = (step w event).seen ∷ report (step w event).after events
