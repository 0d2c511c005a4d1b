-- What became of a connection.
use Rattle.std.specs.Prelude.{◌≡◌, ℕ, ◌⊎◌, true, false, Bool, List, [], ◌∷◌, ◌++◌, All, IsSome, if◌then◌else◌, Option, codes, flat_map, map}
use Rattle.std.specs.Io.KnownBytes.{Appends, Keeps, prepend_known}
use Rattle.bosh_http.specs.declared.reading.HttpIn.TheVariants as http
use Rattle.bosh_http.specs.declared.refusal.HttpRefusal.{HttpRefusal}
use Rattle.bosh_http.specs.declared.refusal.HttpRefusal.TheVariants.{Cut, Malformed, HeadTooLarge, BadHost, Get, Method, Path, Transfer, Encoding, NoLength, BadLength, TooLong}
use Rattle.bosh_http.specs.Reading.{Reads}
use Rattle.bosh_http.specs.Refusal.{status_of}
use Rattle.bosh_http.specs.Texts.{response_text}
use Rattle.bosh_ports.specs.Faults.{HasRisen}
use Rattle.bosh_ports.specs.Sink.{AppendsFront}
use Rattle.session_table.specs.declared.purse.Purse.{Purse}
use Rattle.session_table.specs.Purses.{Sessions, held}
use Rattle.serve_loop.specs.declared.answering.Answering.{Answering}
use Rattle.serve_loop.specs.declared.answering.Answering.TheVariants as answering
use Rattle.serve_loop.specs.declared.answering.Waiting.{Waiting}
use Rattle.serve_loop.specs.declared.connection.ConnectionEnd.{ConnectionEnd}
use Rattle.serve_loop.specs.declared.connection.ConnectionEnd.TheVariants as ends
use Rattle.serve_loop.specs.declared.owed.Owed.{Owed}
use Rattle.serve_loop.specs.declared.owed.Owed.TheVariants as owed
use Rattle.serve_loop.specs.declared.connection.Stage.{Stage}
use Rattle.serve_loop.specs.declared.connection.Stage.TheVariants as stages
use Rattle.serve_loop.specs.declared.connection.Wants.{Wants}
use Rattle.serve_loop.specs.declared.connection.Wants.TheVariants as wants
use Rattle.serve_loop.specs.declared.trail.Evidence.TheVariants as evidence
use Rattle.serve_loop.specs.declared.trail.Traced.{Traced}
use Rattle.serve_loop.specs.declared.trail.TrailLine.TheVariants as lines
use Rattle.serve_loop.specs.Answering.{IsLost, IsTakenOver, IsUnanswered, IsWaiting}
use Rattle.serve_loop.specs.Effects.{DropsRemoved}
use Rattle.serve_loop.specs.Trail.{IsTrueOf, Setting}

-- what others see of a connection: the bytes that are on its stream yet, those that it gave, the trail, what its worker keeps of
-- the directory, and how often its link failed
pub record Outside : Type 0 where
  pub stream : Option (List ℕ)
  pub given : Option (List ℕ)
  pub trail : List Traced
  pub purse : Purse
  pub faults : ℕ

abbrev pub outside : List ℕ → Option (List ℕ) → Option (List ℕ) → List Traced → Purse → ℕ → Outside
outside kept left given trail purse faults =
    record { stream = prepend_known kept left; given = given; trail = trail; purse = purse; faults = faults }

-- a request that was answered: its body, whether the connection ends behind it, the body of its answer, its line, and what the
-- worker kept of the directory before and after it
pub record Exchange : Type 0 where
  pub body : List ℕ
  pub closing : Bool
  pub text : List ℕ
  pub traced : Traced
  pub before : Purse
  pub after : Purse

abbrev pub message_of : Exchange → List ℕ
message_of e = response_text 200 e.text e.closing

abbrev pub messages : List Exchange → List ℕ
messages exchanges = flat_map message_of exchanges

abbrev pub lines_of : List Exchange → List Traced
lines_of exchanges = map (λ e. e.traced) exchanges

-- the requests of these exchanges are what the stream begins with, one after the other, and this is left of it
abbrev pub ReadsOff : Option (List ℕ) → List Exchange → Option (List ℕ) → Type 0
ReadsOff stream [] rest = Keeps stream rest
ReadsOff stream (e ∷ es) rest = (between : Option (List ℕ)) × Reads stream between (http.Request e.body e.closing) × ReadsOff between es rest

-- its line is true
abbrev pub TellsTruth : Setting → Exchange → Type 0
TellsTruth site e = IsTrueOf site e.body e.text e.before e.after e.traced.line e.traced.evidence

-- each was begun with what the one before it left
abbrev pub Follows : Purse → List Exchange → Purse → Type 0
Follows purse [] last = last ≡ purse
Follows purse (e ∷ es) last = (e.before ≡ purse) × Follows e.after es last

-- these requests were read and answered, in order, each with a line that is true, and nothing else happened
pub record Answered (site : Setting) (start : Outside) (exchanges : List Exchange) (now : Outside) : Type 0 where
  pub reads : ReadsOff start.stream exchanges now.stream
  pub gave : Appends start.given now.given (messages exchanges)
  pub told : now.trail ≡ start.trail ++ lines_of exchanges
  pub true_of : All (TellsTruth site) exchanges
  pub follows : Follows start.purse exchanges now.purse
  pub going : All (λ e. e.closing ≡ false) exchanges
  pub faults : now.faults ≡ start.faults

-- and one request more was read, which nothing was given for yet
pub record HasRead (site : Setting) (start now : Outside) (body : List ℕ) (closing : Bool) : Type 0 where
  pub exchanges : List Exchange
  pub stream : Option (List ℕ)
  pub answered : Answered site start exchanges (record now { stream = stream })
  pub reads : Reads stream now.stream (http.Request body closing)

-- and one request more was read, and its line stands in the trail; this is to be its answer
pub record HasAnswer (site : Setting) (start now : Outside) (text : List ℕ) (closing : Bool) : Type 0 where
  pub exchanges : List Exchange
  pub stream : Option (List ℕ)
  pub trail : List Traced
  pub body : List ℕ
  pub traced : Traced
  pub purse : Purse
  pub answered : Answered site start exchanges (record now { stream = stream; trail = trail; purse = purse })
  pub reads : Reads stream now.stream (http.Request body closing)
  pub tells : now.trail ≡ trail ++ traced ∷ []
  pub true_of : IsTrueOf site body text purse now.purse traced.line traced.evidence

-- and what came then is refused, as the trail tells
pub record HasRefused (site : Setting) (start now : Outside) (refusal : HttpRefusal) : Type 0 where
  pub exchanges : List Exchange
  pub stream : Option (List ℕ)
  pub trail : List Traced
  pub answered : Answered site start exchanges (record now { stream = stream; trail = trail })
  pub reads : Reads stream now.stream (http.Refused refusal)
  pub tells : now.trail ≡ trail ++ record { line = lines.Http refusal; evidence = evidence.Request } ∷ []

-- and memory was wanting for what came then, which is a request or no whole one
pub record LacksMemory (site : Setting) (start now : Outside) : Type 0 where
  pub exchanges : List Exchange
  pub stream : Option (List ℕ)
  pub purse : Purse
  pub answered : Answered site start exchanges (record now { stream = stream; purse = purse })
  pub came : (Keeps stream now.stream × (now.purse ≡ purse))
      ⊎ ((body : List ℕ) × (closing : Bool) × Reads stream now.stream (http.Request body closing) × IsLost site body purse now.purse)

-- the parts of what is to be given
abbrev pub status_owed : Owed → ℕ
status_owed (owed.Answer text closing) = 200
status_owed (owed.Refusal refusal) = status_of refusal
status_owed owed.NoMemory = 503

-- what a person who looks is shown: a line that says what this is
unfoldable pub shown_text : List ℕ
shown_text = codes "<p xmlns='http://www.w3.org/1999/xhtml'>This is Robelava, a BOSH connection manager: chat clients speak XMPP with it by POST (XEP-0124).</p>\n"

-- the content of a refusal
abbrev pub refused_text : HttpRefusal → List ℕ
refused_text (Cut count) = []
refused_text Malformed = []
refused_text HeadTooLarge = []
refused_text BadHost = []
refused_text Get = shown_text
refused_text Method = []
refused_text Path = []
refused_text Transfer = []
refused_text Encoding = []
refused_text NoLength = []
refused_text BadLength = []
refused_text TooLong = []

abbrev pub text_owed : Owed → List ℕ
text_owed (owed.Answer text closing) = text
text_owed (owed.Refusal refusal) = refused_text refusal
text_owed owed.NoMemory = []

abbrev pub closes : Owed → Bool
closes (owed.Answer text closing) = closing
closes (owed.Refusal refusal) = true
closes owed.NoMemory = true

abbrev pub message : Owed → List ℕ
message what = response_text (status_owed what) (text_owed what) (closes what)

-- how the connection ends behind it, if it does
abbrev pub end_after : Owed → ConnectionEnd
end_after (owed.Answer text closing) = ends.Ended
end_after (owed.Refusal refusal) = ends.Ended
end_after owed.NoMemory = ends.Memory

abbrev pub Owes : Setting → Outside → Outside → Owed → Type 0
Owes site start now (owed.Answer text closing) = HasAnswer site start now text closing
Owes site start now (owed.Refusal refusal) = HasRefused site start now refusal
Owes site start now owed.NoMemory = LacksMemory site start now

-- it was given
pub record Gave (site : Setting) (start now : Outside) (what : Owed) : Type 0 where
  pub given : Option (List ℕ)
  pub owes : Owes site start (record now { given = given }) what
  pub gave : Appends given now.given (message what)

-- a front of it was given when the link failed
pub record FailsToGive (site : Setting) (start now : Outside) : Type 0 where
  pub what : Owed
  pub given : Option (List ℕ)
  pub owes : Owes site start (record now { given = given; faults = start.faults }) what
  pub front : AppendsFront given now.given (message what)
  pub risen : HasRisen start.faults now.faults

-- the link failed before the next request had come
pub record FailsToTake (site : Setting) (start now : Outside) : Type 0 where
  pub exchanges : List Exchange
  pub stream : Option (List ℕ)
  pub answered : Answered site start exchanges (record now { stream = stream; faults = start.faults })
  pub reads : Reads stream now.stream http.ReadFault
  pub risen : HasRisen start.faults now.faults

-- the stream ended between requests
pub record IsAtEnd (site : Setting) (start now : Outside) : Type 0 where
  pub exchanges : List Exchange
  pub stream : Option (List ℕ)
  pub answered : Answered site start exchanges (record now { stream = stream })
  pub reads : Reads stream now.stream http.End

-- where its session was looked at since it waits, there was nothing for it
abbrev pub Looked : Sessions → Waiting → Bool → Type 0
Looked sessions w true = IsUnanswered sessions w
Looked sessions w false = Unit {0}

-- a request was read that waits in its session
pub record Waits (site : Setting) (start now : Outside) (w : Waiting) (closing looked : Bool) : Type 0 where
  pub body : List ℕ
  pub purse : Purse
  pub read : HasRead site start (record now { purse = purse }) body closing
  pub waits : IsWaiting site purse now.purse body w
  pub looks : Looked now.purse.sessions w looked

-- a request was read that waited in its session until another copy of it, or its answer, was taken elsewhere
pub record IsTaken (site : Setting) (start now : Outside) : Type 0 where
  pub body : List ℕ
  pub closing : Bool
  pub w : Waiting
  pub purse : Purse
  pub read : HasRead site start (record now { purse = purse }) body closing
  pub taken : IsTakenOver site purse now.purse body w

-- the last answer said that the connection ends, or its refusal
abbrev pub IsClosed : Setting → Outside → Outside → Type 0
IsClosed site start now = ((text : List ℕ) × Gave site start now (owed.Answer text true)) ⊎ ((refusal : HttpRefusal) × Gave site start now (owed.Refusal refusal))

-- how a connection ended of itself, which is never for want of a ring, or since its peer left while its request waits
abbrev pub EndsItself : Setting → Outside → Outside → ConnectionEnd → Type 0
EndsItself site start now ends.Ended = IsAtEnd site start now ⊎ IsClosed site start now
EndsItself site start now ends.ReadFault = FailsToTake site start now
EndsItself site start now ends.WriteFault = FailsToGive site start now
EndsItself site start now ends.Superseded = IsTaken site start now
EndsItself site start now ends.Silent = ⊥
EndsItself site start now ends.Memory = Gave site start now owed.NoMemory
EndsItself site start now ends.Gone = ⊥

-- its last request was read and waits, and there was nothing for it when its session was looked at
abbrev pub WaitsOn : Setting → Outside → Outside → Type 0
WaitsOn site start now = (w : Waiting) × (closing : Bool) × Waits site start now w closing true

-- how a connection ended: where the bell was silent, or its peer left, its last request waits, and there was nothing for it
abbrev pub Ends : Setting → Outside → Outside → ConnectionEnd → Type 0
Ends site start now ends.Ended = EndsItself site start now ends.Ended
Ends site start now ends.ReadFault = EndsItself site start now ends.ReadFault
Ends site start now ends.WriteFault = EndsItself site start now ends.WriteFault
Ends site start now ends.Superseded = EndsItself site start now ends.Superseded
Ends site start now ends.Silent = WaitsOn site start now
Ends site start now ends.Memory = EndsItself site start now ends.Memory
Ends site start now ends.Gone = WaitsOn site start now

-- where a connection stands
abbrev pub Stands : Setting → Outside → Outside → Stage → Type 0
Stands site start now stages.Reading = (exchanges : List Exchange) × Answered site start exchanges now
Stands site start now (stages.Asked body closing) = HasRead site start now body closing
Stands site start now (stages.Waiting w closing looked) = Waits site start now w closing looked
Stands site start now (stages.Owing what) = Owes site start now what
Stands site start now (stages.Over end) = EndsItself site start now end

-- a move: wherever the connection stood, it stands there now
abbrev pub Moves : Setting → Outside → Outside → Stage → Stage → Type 0
Moves site old new stage stage' = (start : Outside) → Stands site start old stage → Stands site start new stage'

-- where it stands when what it owed was given
abbrev pub stage_behind : Owed → Stage
stage_behind what = if closes what then stages.Over (end_after what) else stages.Reading

-- a request, what refuses it or an end was read
abbrev pub is_read : Stage → Bool
is_read stages.Reading = false
is_read (stages.Asked body closing) = true
is_read (stages.Waiting w closing looked) = false
is_read (stages.Owing what) = true
is_read (stages.Over end) = true

-- a request was asked
abbrev pub is_called : Stage → Bool
is_called stages.Reading = false
is_called (stages.Asked body closing) = false
is_called (stages.Waiting w closing looked) = true
is_called (stages.Owing what) = true
is_called (stages.Over end) = true

-- a request that waits was looked at
abbrev pub is_looked_at : Stage → Bool
is_looked_at stages.Reading = false
is_looked_at (stages.Asked body closing) = false
is_looked_at (stages.Waiting w closing looked) = looked
is_looked_at (stages.Owing what) = true
is_looked_at (stages.Over end) = true

-- where one move leads from a stage: no move leaves a connection where it was, but a look at a request that waits on, and an end
abbrev pub IsNext : Stage → Stage → Type 0
IsNext stages.Reading next = is_read next ≡ true
IsNext (stages.Asked body closing) next = is_called next ≡ true
IsNext (stages.Waiting w closing looked) next = is_looked_at next ≡ true
IsNext (stages.Owing what) next = (next ≡ stage_behind what) ⊎ (next ≡ stages.Over ends.WriteFault)
IsNext (stages.Over end) next = next ≡ stages.Over end

-- the request is asked, or there is no memory for it
abbrev pub IsAskedOr : List ℕ → Bool → Stage → Type 0
IsAskedOr body closing stage = (stage ≡ stages.Asked body closing) ⊎ (stage ≡ stages.Owing owed.NoMemory)

-- where a connection stands by what there is for its request
abbrev pub stage_after : Answering → Bool → Bool → Stage
stage_after (answering.Now text) closing looked = stages.Owing (owed.Answer text closing)
stage_after (answering.Waits w) closing looked = stages.Waiting w closing looked
stage_after answering.Superseded closing looked = stages.Over ends.Superseded

abbrev pub wanted_by : Stage → Wants
wanted_by stages.Reading = wants.Bytes
wanted_by (stages.Asked body closing) = wants.Nothing
wanted_by (stages.Waiting w closing looked) = if looked then wants.Answer w.session.number else wants.Nothing
wanted_by (stages.Owing what) = wants.Room
wanted_by (stages.Over end) = wants.End end

-- a request that waits does so in a session that is held
abbrev pub IsServedBy : Sessions → Stage → Type 0
IsServedBy sessions (stages.Waiting w closing looked) = IsSome (held sessions w.session.number)
IsServedBy sessions stages.Reading = Unit {0}
IsServedBy sessions (stages.Asked body closing) = Unit {0}
IsServedBy sessions (stages.Owing what) = Unit {0}
IsServedBy sessions (stages.Over end) = Unit {0}

-- a connection that nothing was read of ended so, after handles of sessions that are no more were let go; the bytes that it had taken
-- and that made no request are at the front of what is left
abbrev pub Serves : Setting → Outside → Option (List ℕ) → Option (List ℕ) → List Traced → Purse → ℕ → ConnectionEnd → Type 0
Serves site start left given trail purse faults end = (kept : List ℕ) × (first : Purse) × DropsRemoved start.purse first
    × Ends site (record start { purse = first }) (outside kept left given trail purse faults) end
