-- A turn of the pump: what it does for each session and for each host, one after the other.
use Rattle.std.specs.Prelude.{◌≡◌, ◌≢◌, ◌≤◌, ◌+◌, ◌^◌, ◌∷◌, ℕ, ⊤, List, [], length, map, slice_get, Option, Some, None, IsSome, Result, Ok, Err}
use Rattle.std.specs.BTreeMap.{IsUnchanged}
use Rattle.std.specs.declared.alloc.AllocError.{AllocError}
use Rattle.bosh_types.specs.declared.ending.Closing.TheVariants.{SystemShutdown}
use Rattle.bosh_types.specs.declared.inward.Inward.{Inward}
use Rattle.parked_gate.specs.Passes.{Calls, Grows, Known, Looks}
use Rattle.session_journal.specs.declared.asking.Answer.TheVariants as answers
use Rattle.session_journal.specs.declared.asking.Question.TheVariants as questions
use Rattle.session_journal.specs.declared.asking.State.{State}
use Rattle.session_journal.specs.declared.call.Call.TheVariants as calls
use Rattle.session_journal.specs.declared.call.Reply.TheVariants as replies
use Rattle.session_journal.specs.declared.entry.Entry as journal
use Rattle.session_journal.specs.Seen as seen
use Rattle.session_table.specs.declared.calls.DirectoryCall.TheVariants as directory_calls
use Rattle.session_table.specs.declared.calls.DirectoryReply.{DirectoryReply}
use Rattle.session_table.specs.declared.calls.LiveSession.{LiveSession}
use Rattle.session_table.specs.declared.entry.Entry.{Entry}
use Rattle.session_table.specs.History.{live_at}
use Rattle.session_table.specs.Purses.{IsFound, OthersStay, Sessions, held}
use Rattle.session_table.specs.Replies.{RepliesTo, live_sessions}
use Rattle.xmpp_backend.specs.Told.{Told, Becomes, closed_too}
use Rattle.session_pump.specs.Dues.{Dues, IsNotedAs}
use Rattle.session_pump.specs.Ends.{Ends, HasFailed, StaysAs, telling}
use Rattle.session_pump.specs.Giving.{PollsHost, at_host}
use Rattle.session_pump.specs.Leaving.{HasNothing, IsAtRest}
use Rattle.session_pump.specs.Pumping.{AsksDirectory, AsksSession, Each, EachPlace, HostFacts, HostTurns, Lines, OnLine, Pumping, Then, both, line_of}
use Rattle.session_pump.specs.Calling.{Called, ClosesEach, IsAt, Ticks}
use Rattle.session_pump.specs.Sides.{IsNewSide, IsOpen, IsOpenAmong, OnStrand, PassesAll, Served, Serves, Strand, TellsCut}
use Rattle.session_pump.specs.declared.line.Line.{Line}
use Rattle.session_pump.specs.declared.line.Side.{Side}
use Rattle.session_pump.specs.declared.line.Stage.{Stage}
use Rattle.session_pump.specs.declared.line.Stage.TheVariants as stages

-- items were taken of a session, one after the other
pub data Takes : Known journal.Entry → Known journal.Entry → Type 0 where
  taken_none : {k : Known journal.Entry} → Takes k k
  took : {k l m : Known journal.Entry} (item : Inward) → Takes k l → Called calls.TakeInward (Ok (replies.TakeInward (Some item))) l m → Takes k m

-- until none was left, or there was no memory
abbrev pub TakesAll : Known journal.Entry → Known journal.Entry → Result ⊤ AllocError → Type 0
TakesAll k m (Ok done) = (l : Known journal.Entry) × Takes k l × Called calls.TakeInward (Ok (replies.TakeInward None)) l m
TakesAll k m (Err error) = (l : Known journal.Entry) × (wanted : AllocError) × Takes k l × Called calls.TakeInward (Err wanted) l m

-- time passed for a session that has no host, and then its items were taken and let go
pub data ServesAlone (moment : Option ℕ) (k : Known journal.Entry) : Known journal.Entry → Result ⊤ AllocError → Type 0 where
  no_time : {m : Known journal.Entry} (error other : AllocError) → Ticks moment (Err error) k m → ServesAlone moment k m (Err other)
  ticked : {l m : Known journal.Entry} {result : Result ⊤ AllocError} → Ticks moment (Ok tt) k l → TakesAll l m result → ServesAlone moment k m result

-- the open wire of a stream of a session that is to be removed was closed
pub data ClosesWire (s : Strand) : Strand → Result ⊤ AllocError → Type 0 where
  closes_it : (told : Option Told) → IsOpen s → Becomes s.ends.standing.told told (closed_too s.side.wire)
      → ClosesWire s (record s { ends = telling told s.ends; side = record s.side { stage = stages.Lost } }) (Ok tt)
  fails_at_it : (ends : Ends) → IsOpen s → HasFailed s.ends ends → ClosesWire s (record s { ends = ends }) (Ok tt)
  wants_memory : (told : Option Told) (error : AllocError) → StaysAs s.ends.standing.told told → ClosesWire s (record s { ends = telling told s.ends }) (Err error)

-- that of the stream at this place, where it is open
pub data ClosesAt (place : ℕ) (s : Served) : Served → Result ⊤ AllocError → Type 0 where
  isnt_open : (side : Side) → slice_get s.line.sides place ≡ Some side → (IsOpenAmong s.hosts side → ⊥) → ClosesAt place s s (Ok tt)
  is_open : {t : Served} {result : Result ⊤ AllocError} → OnStrand (λ a b. ClosesWire a b result) place s t → ClosesAt place s t result

-- that of each stream below this place, in turn
pub data ClosesBelow (s : Served) : ℕ → Served → Type 0 where
  closed_none : ClosesBelow s 0 s
  closed_one : {t u : Served} (place : ℕ) → ClosesBelow s place t → ClosesAt place t u (Ok tt) → ClosesBelow s (place + 1) u

-- each open wire of a session that is to be removed was closed, or there was no memory for one
abbrev pub ClosesWires : Served → Served → Result ⊤ AllocError → Type 0
ClosesWires s t (Ok done) = ClosesBelow s (length s.line.sides) t
ClosesWires s t (Err error) = (place : ℕ) × (mid : Served) × (wanted : AllocError) × ClosesBelow s place mid × ClosesAt place mid t (Err wanted)

-- these are the live sessions, by the directory, which was asked for them now
abbrev pub AsksLive : List LiveSession → Pumping → Pumping → Type 0
AsksLive live a b = AsksDirectory (Looks (λ log. live ≡ live_sessions log)) a b

-- the session under this number was asked what there is to do for it, and answered so
abbrev pub AnswersState : State → ℕ → Pumping → Pumping → Type 0
AnswersState state number a b = AsksSession (Looks (λ log. seen.IsStateAfter log state)) number a b

-- this is noted as when the session under the number is due, or there was no memory for it, and nothing else changed
pub data Notes (number : ℕ) (due : Option ℕ) (a : Pumping) : Pumping → Result ⊤ AllocError → Type 0 where
  noted : (dues : Dues) → IsNotedAs number due a.dues dues → Notes number due a (record a { dues = dues }) (Ok tt)
  noted_not : (error : AllocError) → Notes number due a a (Err error)

-- where a stream stands that its session began with: where the session's host is none of the server's it has no wire, and needs not be told
abbrev pub first_stage : Option ℕ → Stage
first_stage None = stages.Lost
first_stage (Some place) = stages.Unopened

-- a new line for the session under this number, with stream 0 to the first host of the name that the session gave, where there is one
pub record IsNewLine (number : ℕ) (name : List ℕ) (hosts : List HostFacts) (line : Line) : Type 0 where
  pub opening : line.opening ≡ number
  pub kept : line.kept ≡ None
  pub side : Side
  pub alone : line.sides.items ≡ side ∷ []
  pub new : IsNewSide number 0 name hosts side
  pub stage : side.stage ≡ first_stage side.host

-- The session under this number has a line: it had one, which stays, or it had none, its history told its host's name and one was
-- made. None is made where its number has more than 32 bits
pub data Meets (number : ℕ) (a : Pumping) : Pumping → Result ⊤ AllocError → Type 0 where
  was_met : (line : Line) → line_of a.lines number ≡ Some line → Meets number a a (Ok tt)
  met : {b : Pumping} (name : List ℕ) (lines : Lines) (line : Line) → line_of a.lines number ≡ None
      → AsksSession (Looks (λ log. seen.Answers log questions.Home (Ok (answers.Home name)))) number a b
      → IsNewLine number name a.hosts line → line_of lines number ≡ Some line
      → ((other : ℕ) → other ≢ number → line_of lines other ≡ line_of a.lines other)
      → Meets number a (record b { lines = lines }) (Ok tt)
  too_large : {b : Pumping} → AsksSession (Looks (λ log. Unit {0})) number a b → 2 ^ 32 ≤ number → Meets number a b (Ok tt)
  met_not : {b : Pumping} (error : AllocError) (lines : Lines) → AsksSession (Looks (λ log. Unit {0})) number a b → IsUnchanged b.lines lines
      → Meets number a (record b { lines = lines }) (Err error)

-- the session was removed from the directory, and its line, its handle and when it is due were let go
pub data Removes (number : ℕ) (sid : List ℕ) (a : Pumping) : Pumping → Result ⊤ AllocError → Type 0 where
  removed : (directory : Known Entry) (sessions : Sessions) (lines : Lines) (dues : Dues) (reply : DirectoryReply)
      → Calls (λ e. e.caller) (λ before made. RepliesTo before (directory_calls.Remove sid) (Ok reply) made) a.directory directory
      → line_of lines number ≡ None → ((other : ℕ) → other ≢ number → line_of lines other ≡ line_of a.lines other)
      → held sessions number ≡ None → OthersStay number a.sessions sessions → IsNotedAs number None a.dues dues
      → Removes number sid a (record a { directory = directory; sessions = sessions; lines = lines; dues = dues }) (Ok tt)
  removed_not : (error : AllocError) → Removes number sid a a (Err error)
  refused : {b : Pumping} (error : AllocError)
      → AsksDirectory (Calls (λ e. e.caller) (λ before made. RepliesTo before (directory_calls.Remove sid) (Err error) made)) a b
      → Removes number sid a b (Err error)

-- The session under this number was asked what there is to do for it. Where it goes on, it was noted when it is due; where it has ended,
-- all that was left inward of it was passed on, each open wire of it was closed, and it was removed
pub data RemovesEnded (moment : Option ℕ) (number : ℕ) (sid : List ℕ) (a : Pumping) : Pumping → Result ⊤ AllocError → Type 0 where
  goes_on : {b c : Pumping} {result : Result ⊤ AllocError} (state : State) → AnswersState state number a b → state.ending ≡ None
      → Notes number state.due b c result → RemovesEnded moment number sid a c result
  has_ended : {b c : Pumping} {result : Result ⊤ AllocError} (state : State) → AnswersState state number a b → IsSome state.ending
      → Then (OnLine (PassesAll moment) TakesAll number)
      (Then (OnLine ClosesWires (λ k m done. (m ≡ k) × (done ≡ Ok tt)) number) (Removes number sid)) b c result
      → RemovesEnded moment number sid a c result

-- A session that was met was left alone: it was asked what there is to do for it, and that was nothing; its line was at rest; and it was
-- noted when it is due
pub record LeavesAlone (moment : Option ℕ) (number : ℕ) (a b : Pumping) (result : Result ⊤ AllocError) : Type 0 where
  pub state : State
  pub asked : Pumping
  pub answers : AnswersState state number a asked
  pub now : ℕ
  pub at : IsAt moment now
  pub nothing : HasNothing now state
  pub rests : IsAtRest number asked
  pub notes : Notes number state.due asked b result

-- A session that was met was left alone, or else, once it was asked what there is to do for it, it was served: its wires were opened, time
-- passed for it, and what is inward of it was passed on until nothing was left; and it was removed where it has ended
pub data ServesMet (moment : Option ℕ) (number : ℕ) (sid : List ℕ) (a : Pumping) : Pumping → Result ⊤ AllocError → Type 0 where
  left_alone : {b : Pumping} {result : Result ⊤ AllocError} → LeavesAlone moment number a b result → ServesMet moment number sid a b result
  was_served : {b c : Pumping} {result : Result ⊤ AllocError} (state : State) → AnswersState state number a b
      → Then (OnLine (Serves moment) (ServesAlone moment) number) (RemovesEnded moment number sid) b c result → ServesMet moment number sid a c result

-- the session of this name is held under this number
pub record FindsSession (sid : List ℕ) (number : ℕ) (a b : Pumping) : Type 0 where
  pub learns : Grows a.directory b.directory
  pub found : IsFound a.sessions b.sessions number sid
  pub same : b ≡ record a { directory = b.directory; sessions = b.sessions }

-- A session was served, or there was nothing to do for it: it was looked up and met, and served or left alone. Or it was live no longer
pub data ServesOne (moment : Option ℕ) (session : LiveSession) (a : Pumping) : Pumping → Result ⊤ AllocError → Type 0 where
  live_no_longer : {b : Pumping}
      → AsksDirectory (Calls (λ e. e.caller) (λ before made. (made ≡ None) × (live_at before session.sid ≡ None))) a b
      → ServesOne moment session a b (Ok tt)
  not_found : {b : Pumping} (error : AllocError) → AsksDirectory Grows a b → ServesOne moment session a b (Err error)
  found : {b c : Pumping} {result : Result ⊤ AllocError} (number : ℕ) → FindsSession session.sid number a b
      → Then (Meets number) (ServesMet moment number session.sid) b c result → ServesOne moment session a c result

-- the host at this place was polled until that came to its end, or there was no memory
pub record PollsAt (moment : Option ℕ) (place : ℕ) (a b : Pumping) (result : Result ⊤ AllocError) : Type 0 where
  pub host : HostFacts
  pub later : HostFacts
  pub name : later.ends.name ≡ host.ends.name
  pub turned : HostTurns place a.hosts b.hosts host later
  pub polls : PollsHost moment (at_host place host a.sessions a.lines) (at_host place later b.sessions b.lines) result
  pub same : b ≡ record a { sessions = b.sessions; lines = b.lines; hosts = b.hosts }

-- a session that is held was told where its back end failed
pub data TellsOne (moment : Option ℕ) (session : LiveSession) (a : Pumping) : Pumping → Result ⊤ AllocError → Type 0 where
  not_held : held a.sessions session.number ≡ None → TellsOne moment session a a (Ok tt)
  told_where_cut : {b : Pumping} {result : Result ⊤ AllocError}
      → OnLine (TellsCut moment) (λ k m done. (m ≡ k) × (done ≡ Ok tt)) session.number a b result → TellsOne moment session a b result

-- the directory was asked again, and so many sessions are live; or something before had wanted memory, or this did
pub data CountsLive (a : Pumping) : Pumping → Result ⊤ AllocError → Result ℕ AllocError → Type 0 where
  counted : {b : Pumping} (live : List LiveSession) → AsksLive live a b → CountsLive a b (Ok tt) (Ok (length live))
  asked_not : {b : Pumping} (error : AllocError) → AsksDirectory (Looks (λ log. Unit {0})) a b → CountsLive a b (Ok tt) (Err error)
  wanted : (error other : AllocError) → CountsLive a a (Err error) (Err other)

-- A turn: the directory was asked which sessions are live, each of them was served in turn, each host was polled, and each of them
-- was told where its back end failed; and the directory was asked how many are live now. Nothing else was done
pub data Turns (moment : Option ℕ) (a : Pumping) : Pumping → Result ℕ AllocError → Type 0 where
  not_asked : {b : Pumping} (error : AllocError) → AsksDirectory (Looks (λ log. Unit {0})) a b → Turns moment a b (Err error)
  turned : {b c d e f : Pumping} {served polled told : Result ⊤ AllocError} {result : Result ℕ AllocError} (live : List LiveSession)
      → AsksLive live a b → Each (ServesOne moment) b live c served → EachPlace (PollsAt moment) c (length c.hosts) d polled
      → Each (TellsOne moment) d live e told → CountsLive e f (both served (both polled told)) result → Turns moment a f result

-- the streams of a session that were met, or the one that it began with
abbrev pub streams_of : Option Line → List ℕ
streams_of None = 0 ∷ []
streams_of (Some line) = map (λ side. side.stream) line.sides.items

-- a session was told of each of its streams that the server goes away, or there was no memory for it, or it was live no longer
pub data ShutsOne (moment : Option ℕ) (session : LiveSession) (a : Pumping) : Pumping → Result ⊤ AllocError → Type 0 where
  shut_before : {b : Pumping}
      → AsksDirectory (Calls (λ e. e.caller) (λ before made. (made ≡ None) × (live_at before session.sid ≡ None))) a b
      → ShutsOne moment session a b (Ok tt)
  shut_not : {b : Pumping} (error : AllocError) → AsksDirectory Grows a b → ShutsOne moment session a b (Err error)
  shut : {b c : Pumping} {result : Result ⊤ AllocError} (number : ℕ) → FindsSession session.sid number a b
      → AsksSession (λ old new. ClosesEach moment SystemShutdown old (streams_of (line_of b.lines number)) result new) number b c → ShutsOne moment session a c result

-- The directory was asked which sessions are live, and each of them was told that the server goes away. Nothing else was done
pub data ShutsDown (moment : Option ℕ) (a : Pumping) : Pumping → Result ⊤ AllocError → Type 0 where
  shuts_nobody : {b : Pumping} (error : AllocError) → AsksDirectory (Looks (λ log. Unit {0})) a b → ShutsDown moment a b (Err error)
  shuts_all : {b c : Pumping} {result : Result ⊤ AllocError} (live : List LiveSession)
      → AsksLive live a b → Each (ShutsOne moment) b live c result → ShutsDown moment a c result
