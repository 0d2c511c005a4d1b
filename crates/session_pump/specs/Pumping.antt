-- All that a pump has, and how parts of it change: what is done, to whom, and that nothing else does.
use Rattle.std.specs.Prelude.{◌≡◌, ◌≢◌, ◌+◌, ℕ, ⊤, List, [], ◌∷◌, ◌++◌, Option, Some, None, IfSome, Result, Ok, Err}
use Rattle.std.specs.BTreeMap.{BTreeMap, IsUnchanged, get}
use Rattle.std.specs.Ordering.{nat_cmp}
use Rattle.std.specs.declared.alloc.AllocError.{AllocError}
use Rattle.parked_gate.specs.Passes.{Known, known}
use Rattle.session_journal.specs.declared.entry.Entry as journal
use Rattle.session_table.specs.declared.entry.Entry.{Entry}
use Rattle.session_table.specs.Purses.{OthersStay, Sessions, Turned}
use Rattle.xmpp_backend.specs.Counts.{Counts}
use Rattle.xmpp_backend.specs.Told.{Told}
use Rattle.session_pump.specs.Dues.{Dues}
pub use Rattle.session_pump.specs.Calling.{both}
pub use Rattle.session_pump.specs.Hosts.{HostFacts, HostTurns, facts_of, hosts_of}
use Rattle.session_pump.specs.Sides.{AreOpened, Served, served}
use Rattle.session_pump.specs.declared.line.Line.{Line}
use Rattle.session_pump.specs.declared.pump.Pump.{Pump}

abbrev pub Lines : Type 0
Lines = BTreeMap ℕ Line

-- the line of the session with this opening number
abbrev pub line_of : Lines → ℕ → Option Line
line_of lines number = get nat_cmp lines number

-- all that a pump has: what its pass of the directory knows, the sessions that it holds, their lines, the hosts, and what is noted of
-- when the sessions are due
pub record Pumping : Type 0 where
  pub directory : Known Entry
  pub sessions : Sessions
  pub lines : Lines
  pub hosts : List HostFacts
  pub dues : Dues

-- by what its back ends tell and count
abbrev pub pumping_of : {E : Type 0} → (E → Option Told) → (E → Counts) → Pump E → Pumping
pumping_of told counts pump = record {
  directory = known pump.purse.directory;
  sessions = pump.purse.sessions;
  lines = pump.lines;
  hosts = hosts_of told counts pump.hosts;
  dues = pump.dues;
}

-- something that a pump does, and whether there was memory for it
abbrev pub Step : Type 1
Step = Pumping → Pumping → Result ⊤ AllocError → Type 0

-- the one and then the other; the other isn't tried where there was no memory for the one
pub data Then (First Second : Step) (a : Pumping) : Pumping → Result ⊤ AllocError → Type 0 where
  stopped : {b : Pumping} (error other : AllocError) → First a b (Err error) → Then First Second a b (Err other)
  went_on : {b c : Pumping} {result : Result ⊤ AllocError} → First a b (Ok tt) → Second b c result → Then First Second a c result

-- it was tried for each of these in turn
pub data Each {A : Type 0} (Does : A → Step) (a : Pumping) : List A → Pumping → Result ⊤ AllocError → Type 0 where
  none_yet : Each Does a [] a (Ok tt)
  and_one : {xs : List A} {b c : Pumping} {first next : Result ⊤ AllocError} (x : A) → Each Does a xs b first → Does x b c next
      → Each Does a (xs ++ x ∷ []) c (both first next)

-- it was tried for each place below this one in turn
pub data EachPlace (Does : ℕ → Step) (a : Pumping) : ℕ → Pumping → Result ⊤ AllocError → Type 0 where
  no_place : EachPlace Does a 0 a (Ok tt)
  next_place : {b c : Pumping} {first next : Result ⊤ AllocError} (place : ℕ) → EachPlace Does a place b first → Does place b c next
      → EachPlace Does a (place + 1) c (both first next)

-- the line of this session was this one and is that one, and the other lines are as before
pub record LineTurns (number : ℕ) (old new : Lines) (was is : Line) : Type 0 where
  pub before : line_of old number ≡ Some was
  pub after : line_of new number ≡ Some is
  pub others : (other : ℕ) → other ≢ number → line_of new other ≡ line_of old other

-- the session has no line
abbrev pub HasNoLine : Pumping → ℕ → Type 0
HasNoLine a number = line_of a.lines number ≡ None

-- each stream of the session under this number was opened, where it has a line
abbrev pub HasOpened : ℕ → Lines → Type 0
HasOpened number lines = IfSome (line_of lines number) (λ line. AreOpened line.sides.items)

-- something is done to the session under this number: to it, its line and the back ends of its streams' hosts; or to it alone, where it has
-- no line. Nothing else changes
pub data OnLine (OnHosts : Served → Served → Result ⊤ AllocError → Type 0)
    (Alone : Known journal.Entry → Known journal.Entry → Result ⊤ AllocError → Type 0)
    (number : ℕ) (a : Pumping) : Pumping → Result ⊤ AllocError → Type 0 where
  on_line : {result : Result ⊤ AllocError} (sessions : Sessions) (lines : Lines) (hosts : List HostFacts) (line later : Line)
      → LineTurns number a.lines lines line later
      → Turned number a.sessions sessions (λ old new. OnHosts (served old line a.hosts) (served new later hosts) result)
      → OthersStay number a.sessions sessions
      → OnLine OnHosts Alone number a (record a { sessions = sessions; lines = lines; hosts = hosts }) result
  alone : {result : Result ⊤ AllocError} (sessions : Sessions) → HasNoLine a number
      → Turned number a.sessions sessions (λ old new. Alone old new result) → OthersStay number a.sessions sessions
      → OnLine OnHosts Alone number a (record a { sessions = sessions }) result

-- the session under this number was called or asked so, and nothing else changed
pub record AsksSession (Says : Known journal.Entry → Known journal.Entry → Type 0) (number : ℕ) (a b : Pumping) : Type 0 where
  pub turned : Turned number a.sessions b.sessions Says
  pub others : OthersStay number a.sessions b.sessions
  pub same : b ≡ record a { sessions = b.sessions }

-- the pass of the directory learnt so, and nothing else changed
pub record AsksDirectory (Says : Known Entry → Known Entry → Type 0) (a b : Pumping) : Type 0 where
  pub learns : Says a.directory b.directory
  pub sessions : IsUnchanged a.sessions b.sessions
  pub same : b ≡ record a { directory = b.directory; sessions = b.sessions }
