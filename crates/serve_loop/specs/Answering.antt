-- What became of a request at the sessions.
use Rattle.std.specs.Prelude.{◌≡◌, ℕ, ◌-◌, List, [], ◌∷◌, ◌++◌, length, IsSome, Option, Some, ◌⊎◌}
use Rattle.std.specs.Option.{option_to_list}
use Rattle.parked_gate.specs.Histories.{Appends}
use Rattle.parked_gate.specs.Passes.{Known, Looks, known}
use Rattle.session_attrs.specs.declared.request.Request.{Request}
use Rattle.session_core.specs.declared.replies.Collected.{Collected}
use Rattle.session_core.specs.declared.replies.Collected.TheVariants.{Superseded as CollectsNone, UnknownTicket}
use Rattle.session_core.specs.Journal as plain
use Rattle.session_journal.specs.declared.entry.Entry as journal
use Rattle.session_journal.specs.Seen.{Lacks}
use Rattle.session_journal.specs.Stored.{Replies}
use Rattle.session_table.specs.declared.entry.Entry as table
use Rattle.session_table.specs.declared.handle.SessionHandle.{SessionHandle}
use Rattle.session_table.specs.declared.opening.Opening.{Opening}
use Rattle.session_table.specs.declared.purse.Purse.{Purse}
use Rattle.session_table.specs.Handles.{IsOfSame}
use Rattle.session_table.specs.Purses.{Sessions, held}
use Rattle.serve_loop.specs.declared.answering.Answering.{Answering}
use Rattle.serve_loop.specs.declared.answering.Answering.TheVariants.{Now, Waits, Superseded}
use Rattle.serve_loop.specs.declared.answering.Waiting.{Waiting}
use Rattle.serve_loop.specs.declared.trail.Evidence.{Evidence}
use Rattle.serve_loop.specs.declared.trail.Evidence.TheVariants as evidence
use Rattle.serve_loop.specs.declared.trail.Traced.{Traced}
use Rattle.serve_loop.specs.declared.trail.TrailLine.{TrailLine}
use Rattle.serve_loop.specs.declared.trail.TrailLine.TheVariants as lines
use Rattle.serve_loop.specs.Effects.{AddsNothing, CallsOne, IsLast, OpensAtMost}
use Rattle.serve_loop.specs.Trail.{IsOpeningFor, IsTrueOf, Names, Setting, WaitedFor}

-- the trail has this line more, told by something of which this holds
pub record Adds (old new : List Traced) (line : TrailLine) (Shows : Evidence → Type 0) : Type 0 where
  pub by : Evidence
  pub grew : new ≡ old ++ record { line = line; evidence = by } ∷ []
  pub shows : Shows by

-- this handle of a session tells it
abbrev pub ShowsSession : SessionHandle → Evidence → Type 0
ShowsSession handle evidence.Request = ⊥
ShowsSession handle (evidence.Session session) = session.value ≡ handle
ShowsSession handle (evidence.Directory pass) = ⊥

-- what a pass of the directory knows tells it
abbrev pub ShowsDirectory : Known table.Entry → Evidence → Type 0
ShowsDirectory directory evidence.Request = ⊥
ShowsDirectory directory (evidence.Session session) = ⊥
ShowsDirectory directory (evidence.Directory pass) = known pass.value ≡ directory

-- the line that names the last entry that a session's pass has seen, as made by that pass
abbrev pub last_entry : List ℕ → SessionHandle → TrailLine
last_entry sid session = lines.Entry sid (known session.pass).number (length (known session.pass).seen - 1)

-- the trail has one line more, which is true of the request with this body that was answered so
pub record Tells (site : Setting) (body text : List ℕ) (old new : List Traced) (before after : Purse) : Type 0 where
  pub traced : Traced
  pub grew : new ≡ old ++ traced ∷ []
  pub true_of : IsTrueOf site body text before after traced.line traced.evidence

-- the trail has one line more, which names the last entry that this handle had seen. It is told by the handle that its session
-- has since: that looked at the session and added nothing
pub record TellsLast (old new : List Traced) (sessions : Sessions) (number : ℕ) (sid : List ℕ) (x : SessionHandle) : Type 0 where
  pub since : SessionHandle
  pub line : Adds old new (last_entry sid x) (ShowsSession since)
  pub of_same : IsOfSame x since
  pub pass_number : (known since.pass).number ≡ (known x.pass).number
  pub looked : Looks (λ seen. Unit {0}) (known x.pass) (known since.pass)
  pub last : IsLast sessions number since

-- the request waits in a session that is held, and its arrival alone was added for it
pub record IsWaiting (site : Setting) (old new : Purse) (body : List ℕ) (w : Waiting) : Type 0 where
  pub request : Request
  pub names : Names body w.session.sid request
  pub handle : SessionHandle
  pub is : held new.sessions w.session.number ≡ Some handle
  pub named : handle.sid ≡ w.session.sid
  pub came : WaitedFor site (known handle.pass).seen (known handle.pass).number request body w.ticket
  pub alone : CallsOne old new w.session.number handle (came.entry ∷ [])

-- what there is for a request with this body when it has come
abbrev pub Answers : Setting → List ℕ → List Traced → List Traced → Purse → Purse → Answering → Type 0
Answers site body old new before after (Now text) = Tells site body text old new before after
Answers site body old new before after (Waits w) = (new ≡ old) × IsWaiting site before after body w
Answers site body old new before after Superseded = ⊥

-- there was no memory for it: nothing was added for it, or the session that it asks for was opened and it is not told
abbrev pub IsLost : Setting → List ℕ → Purse → Purse → Type 0
IsLost site body old new = AddsNothing old new ⊎ ((opening : Opening) × IsOpeningFor site body opening × OpensAtMost opening old new)

-- its ticket tells, in what its session's pass has seen, that another copy took its place, or that its answer was collected
-- elsewhere; and this worker added nothing for it but its arrival, and what asking with its ticket enters
pub record IsTakenOver (site : Setting) (old new : Purse) (body : List ℕ) (w : Waiting) : Type 0 where
  pub request : Request
  pub names : Names body w.session.sid request
  pub handle : SessionHandle
  pub is : held new.sessions w.session.number ≡ Some handle
  pub named : handle.sid ≡ w.session.sid
  pub before : List journal.Entry
  pub made : Option journal.Entry
  pub came : WaitedFor site before (known handle.pass).number request body w.ticket
  pub seen : Appends (λ e. e.caller) (known handle.pass).number before made (known handle.pass).seen
  pub found : Collected
  pub gets_none : (found ≡ CollectsNone) ⊎ (found ≡ UnknownTicket)
  pub told : Replies before (plain.Collect w.ticket) (plain.ToCollect found) made
  pub alone : CallsOne old new w.session.number handle (came.entry ∷ option_to_list made)

-- there was nothing for its ticket in all that its session's pass has seen
pub record IsUnanswered (sessions : Sessions) (w : Waiting) : Type 0 where
  pub handle : SessionHandle
  pub is : held sessions w.session.number ≡ Some handle
  pub lacks : Lacks (known handle.pass).seen w.ticket

-- what there is by now for one that waits
abbrev pub Collects : Setting → List ℕ → List Traced → List Traced → Purse → Purse → Waiting → Answering → Type 0
Collects site body old new before after w (Now text) = Tells site body text old new before after
Collects site body old new before after w (Waits again) = (again ≡ w) × (new ≡ old) × IsWaiting site before after body w × IsUnanswered after.sessions w
Collects site body old new before after w Superseded = (new ≡ old) × IsTakenOver site before after body w

-- a session that a request waits in is held
abbrev pub StaysHeld : Sessions → Answering → Type 0
StaysHeld sessions (Now text) = Unit {0}
StaysHeld sessions (Waits w) = IsSome (held sessions w.session.number)
StaysHeld sessions Superseded = Unit {0}
