-- What a network can't do to a session between these two ends, where no copy of a request comes after its answer was taken.
use Rattle.std.specs.Prelude.{◌≡◌, ℕ, ⊤, Bool, true, false, IfSome, Option, None, Some, All}
use Rattle.bosh_types.specs.declared.condition.Condition.{Condition}
use Rattle.bosh_types.specs.declared.condition.Condition.TheVariants.{BadRequest, HostUnknown, ImproperAddressing, ItemNotFound, OtherRequest, PolicyViolation, RemoteConnectionFailed, RemoteStreamError, SystemShutdown, UndefinedCondition}
use Rattle.bosh_types.specs.declared.ending.Ending.{Ending}
use Rattle.bosh_types.specs.declared.ending.Ending.TheVariants.{Terminated, Stale, Above, WrongKey, UnknownStream, PauseTooLong, Overactive, Silent, Closed, JournalFull}
use Rattle.session_core.specs.State.{PlainSession}
use Rattle.session_laws.specs.Streams.{IsClosedBy}
use Rattle.bosh_client.specs.declared.told.Told.{Told}
use Rattle.bosh_client.specs.PlainClient.{Made, PlainClient, request_at}
use Rattle.world_laws.specs.declared.event.WorldEvent.{WorldEvent}
use Rattle.world_laws.specs.declared.event.WorldEvent.TheVariants as events
use Rattle.world_laws.specs.Manager.{PlainManager, session}
use Rattle.world_laws.specs.Promises.{IsUnbroken}
use Rattle.world_laws.specs.World.{PlainWorld}

-- the client's request with this id names a stream whose closing an answer had taken
pub record NamesClosed (c : PlainClient) (s : PlainSession) (rid : ℕ) : Type 0 where
  pub request : Made
  pub stream : ℕ
  pub made : request_at c rid ≡ Some request
  pub names : request.parts.stream ≡ Some stream
  pub closed : IsClosedBy s.answered stream

-- the endings that are left to a session: its client ends it, or is silent for too long; the server closes its last stream, or one that the
-- client still names; the journal is full
abbrev pub IsLeft : PlainClient → PlainSession → Ending → Type 0
IsLeft c s (Terminated rid) = ⊤
IsLeft c s (Stale rid lowest) = ⊥
IsLeft c s (Above rid last requests) = ⊥
IsLeft c s (WrongKey rid) = ⊥
IsLeft c s (UnknownStream rid) = NamesClosed c s rid
IsLeft c s (PauseTooLong rid pause maxpause) = ⊥
IsLeft c s (Overactive rid apart) = ⊥
IsLeft c s (Silent since now) = ⊤
IsLeft c s (Closed closing rid) = ⊤
IsLeft c s (JournalFull counted cost) = ⊤

-- the session goes on, or ended so
abbrev pub EndsWell : PlainClient → Option PlainManager → Type 0
EndsWell c None = ⊤
EndsWell c (Some m) = IfSome (session m).ending (IsLeft c (session m))

-- of these the endings that come by no request: they are left to a session whose client names no stream
abbrev pub IsFaultless : Ending → Type 0
IsFaultless (Terminated rid) = ⊤
IsFaultless (Stale rid lowest) = ⊥
IsFaultless (Above rid last requests) = ⊥
IsFaultless (WrongKey rid) = ⊥
IsFaultless (UnknownStream rid) = ⊥
IsFaultless (PauseTooLong rid pause maxpause) = ⊥
IsFaultless (Overactive rid apart) = ⊥
IsFaultless (Silent since now) = ⊤
IsFaultless (Closed closing rid) = ⊤
IsFaultless (JournalFull counted cost) = ⊤

abbrev pub EndsFaultless : Option PlainManager → Type 0
EndsFaultless None = ⊤
EndsFaultless (Some m) = IfSome (session m).ending IsFaultless

-- the client sends nothing on one stream alone, and closes none
abbrev pub NamesNone : WorldEvent → Type 0
NamesNone (events.PutOn stream stanza) = ⊥
NamesNone (events.StopOn stream) = ⊥
NamesNone _ = ⊤

-- a manager refuses a body that is no request by the first of these, and a creation for no host of its by the others
abbrev pub is_refusal : Condition → Bool
is_refusal BadRequest = true
is_refusal HostUnknown = true
is_refusal ImproperAddressing = true
is_refusal ItemNotFound = false
is_refusal OtherRequest = false
is_refusal PolicyViolation = false
is_refusal RemoteConnectionFailed = false
is_refusal RemoteStreamError = false
is_refusal SystemShutdown = false
is_refusal UndefinedCondition = false

abbrev pub IsNoRefusal : Option Condition → Type 0
IsNoRefusal None = ⊤
IsNoRefusal (Some condition) = is_refusal condition ≡ false

abbrev pub TellsNoRefusal : Told → Type 0
TellsNoRefusal tells = IfSome tells.end (λ end. IsNoRefusal end.condition)

-- nothing went wrong by itself between the two ends: the session ends by no fault of a request, no request was refused, and the
-- client takes each answer for one
pub record IsComplete (w : PlainWorld) : Type 0 where
  pub ending : EndsWell w.client w.manager
  pub taken : All (λ answer. TellsNoRefusal answer.1.tells) w.client.answers
  pub unbroken : All (IsUnbroken w.client) w.written
