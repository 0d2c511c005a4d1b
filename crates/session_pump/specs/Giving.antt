-- What the back end of a host gave, on its way to the sessions, and the moves that the pump makes with it.
use Rattle.std.specs.Prelude.{◌≡◌, ◌+◌, ◌/◌, ◌%◌, ◌==◌, ◌&&◌, ℕ, ⊤, Bool, true, false, is_some, slice_get, Option, Some, None, IfSome, Result, Ok, Err}
use Rattle.std.specs.List.{list_any}
use Rattle.std.specs.declared.alloc.AllocError.{AllocError}
use Rattle.bosh_types.specs.Limits.{most_streams}
use Rattle.session_table.specs.Purses.{OthersStay, Sessions, Turned, held}
use Rattle.xmpp_backend.specs.Told.{IsUnheld, Told, Becomes, WasOpened, given_too, held_too}
use Rattle.session_pump.specs.Ends.{Ends, HasFailed, StaysAs, answering, idling, telling}
use Rattle.session_pump.specs.Hosts.{HostFacts}
use Rattle.session_pump.specs.Pumping.{LineTurns, Lines, line_of}
use Rattle.session_pump.specs.Sides.{line_facts, with_side}
use Rattle.session_pump.specs.Taking.{FindsNoRoom, IsAsked, OnceReady, Refuses, Takes, Tried}
use Rattle.session_pump.specs.declared.line.Line.{Line}
use Rattle.session_pump.specs.declared.line.Owing.{Owing}
use Rattle.session_pump.specs.declared.line.Side.{Side}
use Rattle.session_pump.specs.declared.line.Stage.{Stage}
use Rattle.session_pump.specs.declared.line.Stage.TheVariants as stages

-- the place of a host, what of it is kept for a session, its back ends, and the sessions that the pump holds with their lines
pub record HostSide : Type 0 where
  pub place : ℕ
  pub kept : Option Owing
  pub ends : Ends
  pub sessions : Sessions
  pub lines : Lines

abbrev pub at_host : ℕ → HostFacts → Sessions → Lines → HostSide
at_host place host sessions lines = record { place = place; kept = host.kept; ends = host.ends; sessions = sessions; lines = lines }

-- whether something that was given on this stream waits with its side
abbrev pub owes_on : ℕ → Side → Bool
owes_on stream side = (side.stream == stream) && is_some side.owed

abbrev pub is_opened_on : ℕ → Stage → Bool
is_opened_on failures stages.Unopened = false
is_opened_on failures (stages.Opened on) = on == failures
is_opened_on failures stages.Lost = false

abbrev pub is_opened_at : ℕ → ℕ → Option ℕ → Stage → Bool
is_opened_at place failures None stage = false
is_opened_at place failures (Some at) stage = (at == place) && is_opened_on failures stage

-- whether it is the side of this stream, at the host at this place, and its wire is open on the back end before which so many of the host failed
abbrev pub is_open_here : ℕ → ℕ → ℕ → Side → Bool
is_open_here stream place failures side = (side.stream == stream) && is_opened_at place failures side.host side.stage

-- nothing that was given to this session on this stream before waits for it
abbrev pub ComesFirst : ℕ → ℕ → Lines → Type 0
ComesFirst number stream lines = IfSome (line_of lines number) (λ line. list_any (owes_on stream) line.sides.items ≡ false)

-- this is the session's line, with a side of this stream, whose wire is open at the back end that stands behind the host now
pub record IsHere (h : HostSide) (number stream : ℕ) (line : Line) (at : ℕ) (side : Side) : Type 0 where
  pub is : line_of h.lines number ≡ Some line
  pub there : slice_get line.sides.items at ≡ Some side
  pub open_here : is_open_here stream h.place h.ends.failures side ≡ true

-- none is there
abbrev pub IsElsewhere : HostSide → ℕ → ℕ → Type 0
IsElsewhere h number stream =
    IfSome (line_of h.lines number) (λ line. list_any (is_open_here stream h.place h.ends.failures) line.sides.items ≡ false)

-- its back end gave this on a wire that was opened and isn't held, and it is kept for that wire's session and stream; nothing was kept before
pub record PollGave (h i : HostSide) : Type 0 where
  pub owing : Owing
  pub wire : ℕ
  pub told : Option Told
  pub empty : h.kept ≡ None
  pub number : owing.number ≡ wire / most_streams
  pub stream : owing.stream ≡ wire % most_streams
  pub on : owing.wire ≡ wire
  pub fresh : owing.was_refused ≡ false
  pub opened : WasOpened h.ends.standing.told wire
  pub unheld : IsUnheld h.ends.standing.told wire
  pub given : Becomes h.ends.standing.told told (given_too wire owing.given)
  pub is : i ≡ record h { kept = Some owing; ends = answering told h.ends }

-- One move of the pump for a host. What its back end gives is kept until its session takes it, and nothing more is polled till
-- then; where the session had no room for it, it is kept with the side of its stream and its wire is held, or it is given again only once
-- the session says that it has room. Nothing is given on a stream before what is kept with its side. No move is made but these.
pub data GiveMove (moment : Option ℕ) : HostSide → HostSide → Type 0 where
  polls : {h i : HostSide} → PollGave h i → GiveMove moment h i
  finds_nothing : {h : HostSide} (told : Option Told) → h.kept ≡ None → StaysAs h.ends.standing.told told
      → GiveMove moment h (record h { ends = idling told h.ends })
  fails : {h : HostSide} (ends : Ends) → h.kept ≡ None → HasFailed h.ends ends → GiveMove moment h (record h { ends = ends })
  does_nothing : {h : HostSide} (told : Option Told) → StaysAs h.ends.standing.told told → GiveMove moment h (record h { ends = telling told h.ends })
  gives : {h : HostSide} (owing : Owing) (sessions : Sessions) → h.kept ≡ Some owing → ComesFirst owing.number owing.stream h.lines
      → Turned owing.number h.sessions sessions (OnceReady owing (Takes moment owing.stream owing.given)) → OthersStay owing.number h.sessions sessions
      → GiveMove moment h (record h { kept = None; sessions = sessions })
  is_refused : {h : HostSide} (owing later : Owing) (sessions : Sessions) → h.kept ≡ Some owing → ComesFirst owing.number owing.stream h.lines
      → later.number ≡ owing.number → later.stream ≡ owing.stream → later.wire ≡ owing.wire → later.given ≡ owing.given → later.was_refused ≡ true
      → Turned owing.number h.sessions sessions (OnceReady owing (Refuses moment owing.stream owing.given)) → OthersStay owing.number h.sessions sessions
      → GiveMove moment h (record h { kept = Some later; sessions = sessions })
  is_held : {h : HostSide} (owing : Owing) (line later : Line) (at : ℕ) (side : Side) (lines : Lines) (told : Option Told) → h.kept ≡ Some owing
      → owing.was_refused ≡ true → IsHere h owing.number owing.stream line at side → side.owed ≡ None → LineTurns owing.number h.lines lines line later
      → line_facts later ≡ with_side at (record side { owed = Some owing }) (line_facts line)
      → Becomes h.ends.standing.told told (held_too owing.wire)
      → GiveMove moment h (record h { kept = None; ends = telling told h.ends; lines = lines })
  asks : {h : HostSide} (owing : Owing) (sessions : Sessions) → h.kept ≡ Some owing
      → Turned owing.number h.sessions sessions IsAsked → OthersStay owing.number h.sessions sessions
      → GiveMove moment h (record h { sessions = sessions })
  lets_go : {h : HostSide} (owing : Owing) → h.kept ≡ Some owing → held h.sessions owing.number ≡ None
      → GiveMove moment h (record h { kept = None })
  wants_memory : {h : HostSide} (number : ℕ) (sessions : Sessions) → Turned number h.sessions sessions Tried → OthersStay number h.sessions sessions
      → GiveMove moment h (record h { sessions = sessions })

pub data GiveMoves (moment : Option ℕ) : HostSide → HostSide → Type 0 where
  none : {h : HostSide} → GiveMoves moment h h
  more : {h i j : HostSide} → GiveMoves moment h i → GiveMove moment i j → GiveMoves moment h j

-- how often a host is polled in one turn at most
abbrev pub most_polls : ℕ
most_polls = 4096

-- moves among which the back end gave something so often
pub data GivesTimes (moment : Option ℕ) : ℕ → HostSide → HostSide → Type 0 where
  never : {h : HostSide} → GivesTimes moment 0 h h
  moves : {count : ℕ} {h i j : HostSide} → GivesTimes moment count h i → GiveMove moment i j → GivesTimes moment count h j
  again : {count : ℕ} {h i j : HostSide} → GivesTimes moment count h i → PollGave i j → GivesTimes moment (count + 1) h j

-- moves, and then its back end gave something
abbrev pub GivesOnce : Option ℕ → HostSide → HostSide → Type 0
GivesOnce moment h j = (i : HostSide) × GiveMoves moment h i × PollGave i j

-- moves, and then the session for which something is kept had no room for it, and the wire of its stream isn't open at this back end
pub record HadNoRoom (moment : Option ℕ) (h j : HostSide) : Type 0 where
  pub before : HostSide
  pub moves : GiveMoves moment h before
  pub owing : Owing
  pub later : Owing
  pub sessions : Sessions
  pub kept : before.kept ≡ Some owing
  pub number : later.number ≡ owing.number
  pub stream : later.stream ≡ owing.stream
  pub given : later.given ≡ owing.given
  pub found : Turned owing.number before.sessions sessions (FindsNoRoom moment owing)
  pub others : OthersStay owing.number before.sessions sessions
  pub elsewhere : IsElsewhere before owing.number owing.stream
  pub is : j ≡ record before { kept = Some later; sessions = sessions }

-- The back end of a host gave all that it had for this turn: after some moves it was polled and had nothing to give, or failed; or a
-- session had no room for what is kept, and its wire is open no longer; or the back end gave more on a wire for which something is kept
pub data RunsDry (moment : Option ℕ) (h : HostSide) : HostSide → Type 0 where
  had_nothing : {i : HostSide} (told : Option Told) → GiveMoves moment h i → i.kept ≡ None → StaysAs i.ends.standing.told told
      → RunsDry moment h (record i { ends = idling told i.ends })
  has_failed : {i : HostSide} (ends : Ends) → GiveMoves moment h i → i.kept ≡ None → HasFailed i.ends ends → RunsDry moment h (record i { ends = ends })
  had_one_before : {j : HostSide} (owing : Owing) (line : Line) → GiveMoves moment h j → j.kept ≡ Some owing
      → line_of j.lines owing.number ≡ Some line → list_any (owes_on owing.stream) line.sides.items ≡ true → RunsDry moment h j
  had_no_room : {j : HostSide} → HadNoRoom moment h j → RunsDry moment h j

-- The polls of a host came to their end for this turn: its back end gave all that it had; or it gave something as often as it is
-- polled in a turn, and all of that was given on or is kept with lines
pub data PollsOut (moment : Option ℕ) (h : HostSide) : HostSide → Type 0 where
  ran_dry : {j : HostSide} → RunsDry moment h j → PollsOut moment h j
  gave_much : {i j : HostSide} → GivesTimes moment most_polls h i → GiveMoves moment i j → j.kept ≡ None → PollsOut moment h j

-- they came to their end, or there was no memory
abbrev pub PollsHost : Option ℕ → HostSide → HostSide → Result ⊤ AllocError → Type 0
PollsHost moment h j (Ok done) = PollsOut moment h j
PollsHost moment h j (Err error) = GiveMoves moment h j
