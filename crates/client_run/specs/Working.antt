-- A worker at its work, as it and others see it, and the moves that it makes.
use Rattle.std.specs.Prelude.{◌≡◌, ℕ, zero, suc, ◌+◌, ◌-◌, ◌≤◌, ◌⊎◌, List, [], ◌∷◌, ◌++◌, Option, Some, None, IfSome, Result, Ok, Err, ⊤}
use Rattle.std.specs.Io.KnownBytes.{Appends, Consumes, Keeps}
use Rattle.std.specs.Option.{option_map}
use Rattle.std.specs.declared.alloc.AllocError.{AllocError}
use Rattle.bosh_client.specs.declared.replies.Answered.{Answered}
use Rattle.bosh_client.specs.declared.replies.Answered.TheVariants as answerings
use Rattle.bosh_client.specs.declared.replies.Next.{Next}
use Rattle.bosh_client.specs.declared.replies.Next.TheVariants as nexts
use Rattle.bosh_http.specs.Responding.{Responds}
use Rattle.bosh_http.specs.declared.responding.ResponseIn.TheVariants.{Body, Status}
use Rattle.bosh_http.specs.Texts.{post_text}
use Rattle.bosh_ports.specs.Sink.{AppendsFront}
use Rattle.parked_gate.specs.Passes.{Calls, Known, Looks}
use Rattle.server_ports.specs.Counts.{Counts, HasFailed, added}
use Rattle.server_ports.specs.Events.{Event, Begins, IsUngiven, Retires}
use Rattle.client_run.specs.declared.call.Answer.{Answer}
use Rattle.client_run.specs.declared.call.Answer.TheVariants as answered_by
use Rattle.client_run.specs.declared.call.Call.{Call}
use Rattle.client_run.specs.declared.call.Call.TheVariants as calls
use Rattle.client_run.specs.declared.call.Question.{Question}
use Rattle.client_run.specs.declared.call.Question.TheVariants as questions
use Rattle.client_run.specs.declared.call.Reply.{Reply}
use Rattle.client_run.specs.declared.call.Reply.TheVariants as replies
use Rattle.client_run.specs.declared.entry.Entry.{Entry}
use Rattle.client_run.specs.History.{Answers, RepliesTo}

-- what a link has left to be taken and was given, where it tells that, and the bytes that were taken and are in no response yet
pub record Wire : Type 0 where
  pub left : Option (List ℕ)
  pub given : Option (List ℕ)
  pub kept : List ℕ

-- how many faults came in a row, and how many responses to one request with another status than 200, the last of which is this one
pub record Row : Type 0 where
  pub faults : ℕ
  pub refusals : ℕ
  pub status : ℕ

abbrev pub row_of : ℕ → ℕ → ℕ → Row
row_of faults refusals status = record { faults = faults; refusals = refusals; status = status }

abbrev pub no_row : Row
no_row = row_of 0 0 0

-- one fault more; no fault, which ends their row; one response more with this status
abbrev pub row_failed : Row → Row
row_failed row = row_of (row.faults + 1) row.refusals row.status

abbrev pub row_passed : Row → Row
row_passed row = row_of 0 row.refusals row.status

abbrev pub row_refused : Row → ℕ → Row
row_refused row status = row_of 0 (row.refusals + 1) status

-- what a worker has to send: the request that has no answer yet, and the ids of which a copy is to be sent after it, in order
pub record Hand : Type 0 where
  pub request : Option (ℕ × List ℕ)
  pub again : List ℕ

-- this request is at hand; none is; and nothing is to be sent
abbrev pub holding : ℕ → List ℕ → List ℕ → Hand
holding rid body again = record { request = Some (rid, body); again = again }

abbrev pub owing : List ℕ → Hand
owing again = record { request = None; again = again }

abbrev pub no_hand : Hand
no_hand = owing []

-- what the worker's pass knows of the client; what became of the network's links, and its counts; the link that is out; what is to
-- be sent; and what came in a row
pub record Side : Type 0 where
  pub known : Known Entry
  pub events : Option (List Event)
  pub counts : Counts
  pub wire : Option Wire
  pub hand : Hand
  pub row : Row

abbrev pub wire_of : Option (List ℕ) → Option (List ℕ) → List ℕ → Wire
wire_of left given kept = record { left = left; given = given; kept = kept }

abbrev pub side_of : Known Entry → Option (List Event) → Counts → Option Wire → Hand → Row → Side
side_of known events counts wire hand row =
    record { known = known; events = events; counts = counts; wire = wire; hand = hand; row = row }

-- the pass called its client so, and this was the reply
abbrev pub Called : Call → Result Reply AllocError → Known Entry → Known Entry → Type 0
Called call result old new = Calls (λ e. e.caller) (λ before made. RepliesTo before call result made) old new

-- it asked it this
abbrev pub Asked : Question → Result Answer AllocError → Known Entry → Known Entry → Type 0
Asked question answer old new = Looks (λ seen. Answers seen question answer) old new

-- what a worker works under: the moment of its clock, where that tells it, and the port that it dials
pub record Setting : Type 0 where
  pub moment : Option ℕ
  pub port : ℕ

abbrev pub setting_of : Option ℕ → ℕ → Setting
setting_of moment port = record { moment = moment; port = port }

-- the moment of a call is the clock's, where that tells it
abbrev pub IsAt : Option ℕ → ℕ → Type 0
IsAt moment now = IfSome moment (λ told. now ≡ told)

-- the request that is to be sent next
abbrev pub request_in : Next → Option (ℕ × List ℕ)
request_in (nexts.Request rid body) = Some (rid, body)
request_in nexts.Nothing = None
request_in nexts.RidsSpent = None

-- so many ids one after the other, and those from the first to the last
abbrev pub ids_from : ℕ → ℕ → List ℕ
ids_from rid zero = []
ids_from rid (suc count) = rid ∷ ids_from (rid + 1) count

abbrev pub ids_between : ℕ → ℕ → List ℕ
ids_between first last = ids_from first (last + 1 - first)

-- what is at hand once an answer was given to the client: a broken one is none
abbrev pub request_after : Answered → Option (ℕ × List ℕ) → Option (ℕ × List ℕ)
request_after (answerings.Broken why) request = request
request_after answerings.Done request = None
request_after answerings.Unmade request = None
request_after answerings.Stale request = None
request_after (answerings.Again first last) request = None

-- and of which ids a copy is to be sent then: an error asks for those that it names, before all others
abbrev pub again_after : Answered → List ℕ → List ℕ
again_after (answerings.Broken why) again = again
again_after answerings.Done again = again
again_after answerings.Unmade again = again
again_after answerings.Stale again = again
again_after (answerings.Again first last) again = ids_between first last ++ again

abbrev pub hand_after : Answered → Hand → Hand
hand_after answered hand = record { request = request_after answered hand.request; again = again_after answered hand.again }

-- an error to the request with this id names ids up to it
abbrev pub NamesUpTo : ℕ → Answered → Type 0
NamesUpTo rid (answerings.Broken why) = ⊤
NamesUpTo rid answerings.Done = ⊤
NamesUpTo rid answerings.Unmade = ⊤
NamesUpTo rid answerings.Stale = ⊤
NamesUpTo rid (answerings.Again first last) = (first ≤ rid) × (last ≡ rid)

-- some bytes were taken off a link, where it tells its bytes its next ones
abbrev pub TakesSome : Option (List ℕ) → Option (List ℕ) → Type 0
TakesSome old new = (taken : List ℕ) × Consumes old new taken

-- the request with this body was given whole
pub record Sends (old new : Wire) (body : List ℕ) : Type 0 where
  pub given : Appends old.given new.given (post_text body)
  pub left : Keeps old.left new.left
  pub kept : new.kept ≡ old.kept

-- this answer was read next, as the content of a response with status 200
pub record Hears (old new : Wire) (answer : List ℕ) : Type 0 where
  pub responds : Responds old.left new.left old.kept new.kept (Body answer)
  pub given : Keeps old.given new.given

-- the one, and then the other
pub record Exchanges (old new : Wire) (body answer : List ℕ) : Type 0 where
  pub asked : Wire
  pub sends : Sends old asked body
  pub hears : Hears asked new answer

-- a front of the request with this body was given, or all of it, some bytes were taken, and no answer that was read is taken
pub record Tries (old new : Wire) (body : List ℕ) : Type 0 where
  pub asked : Option (List ℕ)
  pub gives : AppendsFront old.given asked (post_text body)
  pub given : Keeps asked new.given
  pub left : TakesSome old.left new.left

-- the request with this body was given whole, and the response to it has this status, which is not 200
pub record Refuses (old new : Wire) (body : List ℕ) (status : ℕ) : Type 0 where
  pub asked : Wire
  pub sends : Sends old asked body
  pub responds : Responds asked.left new.left asked.kept new.kept (Status status)
  pub given : Keeps asked.given new.given

-- a fault is one more in its row; what is no fault ends the row
abbrev pub CountsFault : Counts → Row → Counts → Row → Type 0
CountsFault counts row later later_row = (HasFailed counts later × (later_row ≡ row_failed row)) ⊎ ((later ≡ counts) × (later_row ≡ row_passed row))

-- a copy is of this request, where the client has one of it
abbrev pub copy_in : ℕ → Option (List ℕ) → Option (ℕ × List ℕ)
copy_in rid body = option_map (λ bytes. (rid, bytes)) body

-- One move of a worker. A request is asked for only where none is at hand and no copy is to be sent, and it stays at hand until its
-- answer was given to the client; what is sent is the request at hand, and what is given to the client was read in answer to it. Where
-- an answer asks for ids again, the client's copy of each of them that has one is at hand after it, in order, and before anything
-- else. What is dialled is the port. No move is made but these.
pub data Move (setting : Setting) : Side → Side → Type 0 where
  dials : {s : Side} (events : Option (List Event)) (counts : Counts) (wire : Wire) → s.wire ≡ None
      → Begins s.events events (Some setting.port) wire.left → IsUngiven events wire.given → wire.kept ≡ [] → counts ≡ record s.counts { dialled = added s.counts.dialled 1 }
      → Move setting s (record s { events = events; counts = counts; wire = Some wire })
  fails_to_dial : {s : Side} (counts : Counts) → s.wire ≡ None → HasFailed s.counts counts
      → Move setting s (record s { counts = counts; row = row_failed s.row })
  asks : {s : Side} (new : Known Entry) (next : Next) (now : ℕ) → s.hand ≡ no_hand → IsAt setting.moment now
      → Called (calls.Next now) (Ok (replies.Next next)) s.known new
      → Move setting s (record s { known = new; hand = record { request = request_in next; again = [] }; row = no_row })
  copies : {s : Side} (new : Known Entry) (rid : ℕ) (rids : List ℕ) (body : Option (List ℕ)) → s.hand ≡ owing (rid ∷ rids)
      → Asked (questions.Copy rid) (Ok (answered_by.Copy body)) s.known new
      → Move setting s (record s { known = new; hand = record { request = copy_in rid body; again = rids }; row = no_row })
  looks : {s : Side} (new : Known Entry) (question : Question) (answer : Result Answer AllocError) → Asked question answer s.known new
      → Move setting s (record s { known = new })
  wants_memory : {s : Side} (new : Known Entry) (call : Call) (error : AllocError) → Called call (Err error) s.known new
      → Move setting s (record s { known = new })
  answers : {s : Side} (new : Known Entry) (rid : ℕ) (body answer : List ℕ) (old wire : Wire) (now : ℕ) (answered : Answered)
      → s.hand.request ≡ Some (rid, body) → s.wire ≡ Some old → Exchanges old wire body answer → IsAt setting.moment now
      → Called (calls.Answer rid answer now) (Ok (replies.Answered answered)) s.known new
      → Move setting s (record s { known = new; wire = Some wire; hand = hand_after answered s.hand; row = no_row })
  loses : {s : Side} (rid : ℕ) (body : List ℕ) (old wire : Wire) (events : Option (List Event)) (counts : Counts) (row : Row)
      → s.hand.request ≡ Some (rid, body) → s.wire ≡ Some old → Tries old wire body
      → Retires s.events events wire.left wire.given → CountsFault s.counts s.row counts row
      → Move setting s (record s { events = events; counts = counts; wire = None; row = row })
  refuses : {s : Side} (rid : ℕ) (body : List ℕ) (old wire : Wire) (events : Option (List Event)) (status : ℕ)
      → s.hand.request ≡ Some (rid, body) → s.wire ≡ Some old → Refuses old wire body status → Retires s.events events wire.left wire.given
      → Move setting s (record s { events = events; wire = None; row = row_refused s.row status })
  retires : {s : Side} (old : Wire) (events : Option (List Event)) → s.wire ≡ Some old → Retires s.events events old.left old.given
      → Move setting s (record s { events = events; wire = None })

-- moves one after the other
pub data Moves (setting : Setting) : Side → Side → Type 0 where
  none : {s : Side} → Moves setting s s
  more : {s t u : Side} → Moves setting s t → Move setting t u → Moves setting s u
