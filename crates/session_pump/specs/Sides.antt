-- A session beside the back ends of its streams' hosts, as the pump sees them, and the moves that it makes between them (XEP-0124, section 16).
use Rattle.std.specs.Prelude.{◌≡◌, ◌≢◌, ◌==◌, ◌<◌, ◌≤◌, ◌*◌, ◌+◌, ◌++◌, ◌∷◌, ℕ, Bool, true, false, List, [], length, ⊤, Option, Some, None, IfSome, Result, Ok, Err, bytes_eq, slice_get, slice_set}
use Rattle.std.specs.List.{list_any}
use Rattle.std.specs.declared.alloc.AllocError.{AllocError}
use Rattle.bosh_types.specs.Limits.{most_streams}
use Rattle.bosh_types.specs.declared.ending.Closing.TheVariants.{RemoteConnectionFailed}
use Rattle.bosh_types.specs.declared.inward.Inward.{Inward}
use Rattle.bosh_types.specs.declared.inward.Inward.TheVariants as inward
use Rattle.parked_gate.specs.Passes.{Known}
use Rattle.session_journal.specs.declared.call.Call.{Call}
use Rattle.session_journal.specs.declared.call.Call.TheVariants as calls
use Rattle.session_journal.specs.declared.call.Reply.{Reply}
use Rattle.session_journal.specs.declared.call.Reply.TheVariants as replies
use Rattle.session_journal.specs.declared.entry.Entry.{Entry}
use Rattle.xmpp_backend.specs.Told.{Told, Becomes, closed_too, opened_too, passed_too, resumed_too}
use Rattle.session_pump.specs.Ends.{Ends, HasFailed, StaysAs, telling}
use Rattle.session_pump.specs.Calling.{Called, IsAt}
use Rattle.session_pump.specs.Hosts.{HostFacts}
use Rattle.session_pump.specs.Places.{IsFirstPlace}
use Rattle.session_pump.specs.Taking.{FindsNoRoom, IsAsked, OnceReady, Refuses, Takes}
use Rattle.session_pump.specs.declared.line.Line.{Line}
use Rattle.session_pump.specs.declared.line.Owing.{Owing}
use Rattle.session_pump.specs.declared.line.Side.{Side}
use Rattle.session_pump.specs.declared.line.Stage.TheVariants as stages

-- what is remembered of a session: its opening number, the item that was taken of it and is kept, and a side for each stream that was met
pub record LineFacts : Type 0 where
  pub opening : ℕ
  pub kept : Option Inward
  pub sides : List Side

abbrev pub line_facts : Line → LineFacts
line_facts line = record { opening = line.opening; kept = line.kept; sides = line.sides.items }

-- another side stands at this place
abbrev pub with_side : ℕ → Side → LineFacts → LineFacts
with_side place side line = record line { sides = slice_set line.sides place side }

-- whether there is a side for a stream
abbrev pub is_met : ℕ → List Side → Bool
is_met stream sides = list_any (λ side. side.stream == stream) sides

-- the stream of an item
abbrev pub stream_of : Inward → ℕ
stream_of (inward.Item stream text) = stream
stream_of (inward.Restart stream) = stream
stream_of (inward.Open stream to) = stream
stream_of (inward.Close stream) = stream

-- whether it opens a stream
abbrev pub is_opening : Inward → Bool
is_opening (inward.Item stream text) = false
is_opening (inward.Restart stream) = false
is_opening (inward.Open stream to) = true
is_opening (inward.Close stream) = false

-- whether it is a stanza or a restart of this stream, which go to the back end
abbrev pub is_for : ℕ → Inward → Bool
is_for number (inward.Item stream text) = stream == number
is_for number (inward.Restart stream) = stream == number
is_for number (inward.Open stream to) = false
is_for number (inward.Close stream) = false

-- ---- one stream

-- a stream of a session: what the pump's pass of the session knows, the item that is kept of it, the stream's side, and the back ends of
-- the stream's host
pub record Strand : Type 0 where
  pub known : Known Entry
  pub kept : Option Inward
  pub side : Side
  pub ends : Ends

abbrev pub strand : Known Entry → Option Inward → Side → Ends → Strand
strand known kept side ends = record { known = known; kept = kept; side = side; ends = ends }

-- what is kept once an item was to be passed on: nothing, or the item, where there was no memory
abbrev pub kept_after : Result ⊤ AllocError → Inward → Option Inward
kept_after (Ok done) item = None
kept_after (Err error) item = Some item

-- its wire was opened on the back end that stands behind the host now
abbrev pub IsOpen : Strand → Type 0
IsOpen s = s.side.stage ≡ stages.Opened s.ends.failures

-- it was opened on one that has failed since, and its session wasn't told yet
abbrev pub IsCut : Strand → Type 0
IsCut s = (on : ℕ) × (s.side.stage ≡ stages.Opened on) × (on ≢ s.ends.failures)

-- One move of the pump for one stream. The kept item goes to the back end where it is a stanza or a restart of this stream and its wire is
-- open; a close item closes the wire; where the wire was opened and is no more the item is let go. What the back end gave and the session had
-- no room for is given once the session says that it has, and then the wire is resumed. No move is made but these.
pub data StrandMove (moment : Option ℕ) : Strand → Strand → Type 0 where
  wants : {s : Strand} (new : Known Entry) (call : Call) (error : AllocError) → Called call (Err error) s.known new
      → StrandMove moment s (record s { known = new })
  opens : {s : Strand} (told : Option Told) → s.side.stage ≡ stages.Unopened
      → Becomes s.ends.standing.told told (opened_too s.side.wire s.ends.name)
      → StrandMove moment s (record s { ends = telling told s.ends; side = record s.side { stage = stages.Opened s.ends.failures } })
  fails_to_open : {s : Strand} (ends : Ends) → s.side.stage ≡ stages.Unopened → HasFailed s.ends ends
      → StrandMove moment s (record s { ends = ends; side = record s.side { stage = stages.Opened s.ends.failures } })
  passes : {s : Strand} (item : Inward) (told : Option Told) → IsOpen s → s.kept ≡ Some item → is_for s.side.stream item ≡ true
      → Becomes s.ends.standing.told told (passed_too s.side.wire item)
      → StrandMove moment s (record s { ends = telling told s.ends; kept = None })
  fails_at : {s : Strand} (item : Inward) (ends : Ends) → IsOpen s → s.kept ≡ Some item → is_for s.side.stream item ≡ true → HasFailed s.ends ends
      → StrandMove moment s (record s { ends = ends; kept = None })
  closes : {s : Strand} (told : Option Told) → IsOpen s → s.kept ≡ Some (inward.Close s.side.stream)
      → Becomes s.ends.standing.told told (closed_too s.side.wire)
      → StrandMove moment s (record s { ends = telling told s.ends; kept = None; side = record s.side { stage = stages.Lost } })
  fails_to_close : {s : Strand} (ends : Ends) → IsOpen s → s.kept ≡ Some (inward.Close s.side.stream) → HasFailed s.ends ends
      → StrandMove moment s (record s { ends = ends; kept = None; side = record s.side { stage = stages.Lost } })
  lets_go : {s : Strand} (item : Inward) → s.kept ≡ Some item → stream_of item ≡ s.side.stream → is_opening item ≡ false
      → s.side.stage ≢ stages.Unopened → (IsOpen s → ⊥) → StrandMove moment s (record s { kept = None })
  does_nothing : {s : Strand} (told : Option Told) → StaysAs s.ends.standing.told told → StrandMove moment s (record s { ends = telling told s.ends })
  tells_cut : {s : Strand} (new : Known Entry) (now : ℕ) (reply : Reply) → IsCut s → IsAt moment now
      → Called (calls.BackClosed s.side.stream RemoteConnectionFailed now) (Ok reply) s.known new
      → StrandMove moment s (record s { known = new; side = record s.side { stage = stages.Lost } })
  asks_room : {s : Strand} (owing : Owing) (new : Known Entry) → s.side.owed ≡ Some owing → IsAsked s.known new
      → StrandMove moment s (record s { known = new })
  refuses : {s : Strand} (owing : Owing) (new : Known Entry) → s.side.owed ≡ Some owing
      → OnceReady owing (Refuses moment owing.stream owing.given) s.known new → StrandMove moment s (record s { known = new })
  gives : {s : Strand} (owing : Owing) (new : Known Entry) (told : Option Told) → s.side.owed ≡ Some owing
      → OnceReady owing (Takes moment owing.stream owing.given) s.known new → IsOpen s
      → Becomes s.ends.standing.told told (resumed_too owing.wire)
      → StrandMove moment s (record s { known = new; side = record s.side { owed = None }; ends = telling told s.ends })
  gives_last : {s : Strand} (owing : Owing) (new : Known Entry) → s.side.owed ≡ Some owing
      → OnceReady owing (Takes moment owing.stream owing.given) s.known new → (IsOpen s → ⊥)
      → StrandMove moment s (record s { known = new; side = record s.side { owed = None } })

-- moves one after the other
pub data StrandMoves (moment : Option ℕ) : Strand → Strand → Type 0 where
  stays : {s : Strand} → StrandMoves moment s s
  goes_on : {s t u : Strand} → StrandMoves moment s t → StrandMove moment t u → StrandMoves moment s u

-- ---- a session with all its streams

-- what the pump's pass of a session knows, its line, and the hosts
pub record Served : Type 0 where
  pub known : Known Entry
  pub line : LineFacts
  pub hosts : List HostFacts

abbrev pub serving : Known Entry → LineFacts → List HostFacts → Served
serving known line hosts = record { known = known; line = line; hosts = hosts }

abbrev pub served : Known Entry → Line → List HostFacts → Served
served known line hosts = serving known (line_facts line) hosts

-- the stream of this side with the back ends of this host
abbrev pub strand_of : Served → Side → HostFacts → Strand
strand_of s side host = strand s.known s.line.kept side host.ends

-- something is done to the stream whose side stands at this place and to the back ends of its host; other streams and hosts are as before
pub data OnStrand (Does : Strand → Strand → Type 0) (place : ℕ) (s : Served) : Served → Type 0 where
  on_strand : {t : Strand} (side : Side) (at : ℕ) (host : HostFacts) → slice_get s.line.sides place ≡ Some side → side.host ≡ Some at
      → slice_get s.hosts at ≡ Some host → Does (strand_of s side host) t
      → OnStrand Does place s (record {
        known = t.known;
        line = with_side place t.side (record s.line { kept = t.kept });
        hosts = slice_set s.hosts at (record host { ends = t.ends });
      })

-- the side's stream has no host among these
abbrev pub HasNoHost : List HostFacts → Side → Type 0
HasNoHost hosts side = IfSome side.host (λ at. length hosts ≤ at)

-- its wire is open on the back end that stands behind its host now
pub record IsOpenAmong (hosts : List HostFacts) (side : Side) : Type 0 where
  pub at : ℕ
  pub host : HostFacts
  pub to : side.host ≡ Some at
  pub there : slice_get hosts at ≡ Some host
  pub opened : side.stage ≡ stages.Opened host.ends.failures

-- it was opened on one that has failed since, and its session wasn't told yet
pub record IsCutAmong (hosts : List HostFacts) (side : Side) : Type 0 where
  pub at : ℕ
  pub host : HostFacts
  pub to : side.host ≡ Some at
  pub there : slice_get hosts at ≡ Some host
  pub on : ℕ
  pub opened : side.stage ≡ stages.Opened on
  pub failed : on ≢ host.ends.failures

-- the side of a stream that is met: to the first host of this name, where there is one, and nothing was done on it
pub record IsNewSide (opening stream : ℕ) (to : List ℕ) (hosts : List HostFacts) (side : Side) : Type 0 where
  pub of : side.stream ≡ stream
  pub small : stream < most_streams
  pub wire : side.wire ≡ opening * most_streams + stream
  pub owed : side.owed ≡ None
  pub place : IfSome side.host (λ place. IsFirstPlace (λ host. bytes_eq host.ends.name to) hosts place)
  pub nowhere : side.host ≡ None → list_any (λ host. bytes_eq host.ends.name to) hosts ≡ false

-- an item that goes to no back end: it opens a stream that was met before, or it is for one that wasn't met, or for one that has no host
pub data HasNowhere (s : Served) (item : Inward) : Type 0 where
  was_met : is_opening item ≡ true → is_met (stream_of item) s.line.sides ≡ true → HasNowhere s item
  is_unmet : is_opening item ≡ false → is_met (stream_of item) s.line.sides ≡ false → HasNowhere s item
  has_no_host : (place : ℕ) (side : Side) → is_opening item ≡ false → slice_get s.line.sides place ≡ Some side → side.stream ≡ stream_of item
      → HasNoHost s.hosts side → side.stage ≢ stages.Unopened → HasNowhere s item

-- One move of the pump for a session. What is taken of it is kept, and goes to the back end of its stream before more is taken. An open item
-- makes a side for its stream, to the host that it names; where there is none the session is told so. No move is made but these.
pub data Move (moment : Option ℕ) : Served → Served → Type 0 where
  ticks : {s : Served} (new : Known Entry) (now : ℕ) (result : Result Reply AllocError)
      → IsAt moment now → Called (calls.Tick now) result s.known new → Move moment s (record s { known = new })
  takes : {s : Served} (new : Known Entry) (item : Inward) → s.line.kept ≡ None
      → Called calls.TakeInward (Ok (replies.TakeInward (Some item))) s.known new
      → Move moment s (record s { known = new; line = record s.line { kept = Some item } })
  finds_none : {s : Served} (new : Known Entry) → Called calls.TakeInward (Ok (replies.TakeInward None)) s.known new
      → Move moment s (record s { known = new })
  wants_memory : {s : Served} (new : Known Entry) (call : Call) (error : AllocError) → Called call (Err error) s.known new
      → Move moment s (record s { known = new })
  on_stream : {s t : Served} (place : ℕ) → OnStrand (StrandMove moment) place s t → Move moment s t
  meets : {s : Served} (stream : ℕ) (to : List ℕ) (side : Side) → s.line.kept ≡ Some (inward.Open stream to) → is_met stream s.line.sides ≡ false
      → IsNewSide s.line.opening stream to s.hosts side → side.stage ≡ stages.Unopened
      → Move moment s (record s { line = record s.line { kept = None; sides = s.line.sides ++ side ∷ [] } })
  tells_nowhere : {s : Served} (place : ℕ) (side : Side) (new : Known Entry) (now : ℕ) (reply : Reply) → slice_get s.line.sides place ≡ Some side
      → side.stage ≡ stages.Unopened → HasNoHost s.hosts side → IsAt moment now
      → Called (calls.BackClosed side.stream RemoteConnectionFailed now) (Ok reply) s.known new
      → Move moment s (record s { known = new; line = with_side place (record side { stage = stages.Lost }) s.line })
  drops : {s : Served} (item : Inward) → s.line.kept ≡ Some item → HasNowhere s item → Move moment s (record s { line = record s.line { kept = None } })

-- moves one after the other
pub data Moves (moment : Option ℕ) : Served → Served → Type 0 where
  none : {s : Served} → Moves moment s s
  more : {s t u : Served} → Moves moment s t → Move moment t u → Moves moment s u

-- each stream that was met was opened, or its session was told that this can't be
abbrev pub AreOpened : List Side → Type 0
AreOpened sides = (place : ℕ) (side : Side) → slice_get sides place ≡ Some side → side.stage ≢ stages.Unopened

-- moves until nothing inward of the session was left
pub record MovesToTheEnd (moment : Option ℕ) (s t : Served) : Type 0 where
  pub last : Served
  pub moves : Moves moment s last
  pub kept : last.line.kept ≡ None
  pub opened : AreOpened last.line.sides
  pub called : Called calls.TakeInward (Ok (replies.TakeInward None)) last.known t.known
  pub same : t ≡ record last { known = t.known }

-- until then, or there was no memory
abbrev pub PassesAll : Option ℕ → Served → Served → Result ⊤ AllocError → Type 0
PassesAll moment s t (Ok done) = MovesToTheEnd moment s t
PassesAll moment s t (Err error) = Moves moment s t

-- what the session had no room for was tried: it was given, or the session had no room for it still
pub data TriesOwed (moment : Option ℕ) (s : Strand) : Strand → Type 0 where
  was_given : {t : Strand} (owing : Owing) → s.side.owed ≡ Some owing → StrandMove moment s t → t.side.owed ≡ None → TriesOwed moment s t
  has_no_room : (owing : Owing) (new : Known Entry) → s.side.owed ≡ Some owing → FindsNoRoom moment owing s.known new
      → TriesOwed moment s (record s { known = new })

-- or there was no memory
abbrev pub TriesStrand : Option ℕ → Strand → Strand → Result ⊤ AllocError → Type 0
TriesStrand moment s t (Ok done) = TriesOwed moment s t
TriesStrand moment s t (Err error) = StrandMoves moment s t

-- that of the stream at this place, where there is something and it has a host
pub data TriesAt (moment : Option ℕ) (place : ℕ) (s : Served) : Served → Type 0 where
  owes_nothing : (side : Side) → slice_get s.line.sides place ≡ Some side → side.owed ≡ None → TriesAt moment place s s
  owes_nowhere : (side : Side) → slice_get s.line.sides place ≡ Some side → HasNoHost s.hosts side → TriesAt moment place s s
  tries : {t : Served} → OnStrand (TriesOwed moment) place s t → TriesAt moment place s t

abbrev pub TriesOrMoves : Option ℕ → ℕ → Served → Served → Result ⊤ AllocError → Type 0
TriesOrMoves moment place s t (Ok done) = TriesAt moment place s t
TriesOrMoves moment place s t (Err error) = Moves moment s t

-- that of each stream below this place, in turn
pub data TriesEach (moment : Option ℕ) (s : Served) : ℕ → Served → Type 0 where
  tried_none : TriesEach moment s 0 s
  tried_one : {t u : Served} (place : ℕ) → TriesEach moment s place t → TriesAt moment place t u → TriesEach moment s (place + 1) u

-- that of all, or there was no memory
abbrev pub Tries : Option ℕ → Served → Served → Result ⊤ AllocError → Type 0
Tries moment s t (Ok done) = TriesEach moment s (length s.line.sides) t
Tries moment s t (Err error) = Moves moment s t

-- Each wire was opened, or opening it failed, then time passed, then what the session had no room for was tried, and then moves were
-- made until nothing inward was left; or there was no memory for one of these
pub record ServesAll (moment : Option ℕ) (s t : Served) : Type 0 where
  pub first : Served
  pub opens : Moves moment s first
  pub opened : AreOpened first.line.sides
  pub now : ℕ
  pub at : IsAt moment now
  pub reply : Reply
  pub later : Known Entry
  pub ticks : Called (calls.Tick now) (Ok reply) first.known later
  pub tried : Served
  pub tries : TriesEach moment (record first { known = later }) (length first.line.sides) tried
  pub passes : MovesToTheEnd moment tried t

abbrev pub Serves : Option ℕ → Served → Served → Result ⊤ AllocError → Type 0
Serves moment s t (Ok done) = ServesAll moment s t
Serves moment s t (Err error) = Moves moment s t

-- the session was told of each of its streams whose back end failed since its wire was opened, or there was no memory
abbrev pub TellsCut : Option ℕ → Served → Served → Result ⊤ AllocError → Type 0
TellsCut moment s t (Ok done) =
    Moves moment s t × ((place : ℕ) (side : Side) → slice_get t.line.sides place ≡ Some side → IsCutAmong t.hosts side → ⊥)
TellsCut moment s t (Err error) = Moves moment s t
