-- What the lines `back` and `shut` of a script hand to a session, and what is left of it where the report says that it was refused.
use Rattle.std.specs.Prelude.{◌≡◌, ℕ, ◌==◌, Bool, true, false, List, [], ◌∷◌, ◌++◌, All, Option, Some, None, if◌then◌else◌}
use Rattle.std.specs.List.{list_any}
use Rattle.session_core.specs.declared.outward.Outward.{Outward}
use Rattle.session_core.specs.declared.outward.Outward.TheVariants.{Stanza, Close as Closes}
use Rattle.session_core.specs.Copy.{unnamed}
use Rattle.session_core.specs.Machine.{full_with, is_full, plain_cost, stanza_cost, with_cost}
use Rattle.session_core.specs.State.{PlainSession, Issued}
use Rattle.session_core.specs.Time.{time_applied}
use Rattle.script_text.specs.declared.line.LineRead.{LineRead}
use Rattle.script_text.specs.declared.line.LineRead.TheVariants.{Line, BadLine}
use Rattle.script_text.specs.declared.line.ScriptLine.{ScriptLine}
use Rattle.script_text.specs.declared.line.ScriptLine.TheVariants.{Open, Short, Host, At, Post, Close, Back, Shut, End as LastLine}
use Rattle.script_text.specs.declared.report.ReportLine.{ReportLine}
use Rattle.script_text.specs.declared.report.ReportLine.TheVariants.{In, Out, Lost, Gone, Refused, Over, Done, Bad}
use Rattle.script_text.specs.Answered.{Stage, over_bodies}
use Rattle.script_text.specs.Entered.{IsOneOf, is_bad}
use Rattle.script_text.specs.Live.{PlainLive, state}
use Rattle.script_text.specs.Manager.{PlainManager, number_of}

-- a line of the server: the session that it names, what it hands to it, and the counted bytes of its entry
pub record Handing : Type 0 where
  pub sid : List ℕ
  pub item : Outward
  pub cost : ℕ

abbrev pub handing_in : ScriptLine → Option Handing
handing_in (Open rid) = None
handing_in (Short rid stanza) = None
handing_in (Host name greeting) = None
handing_in (At moment) = None
handing_in (Post conn body) = None
handing_in (Close conn) = None
handing_in (Back sid stream stanza) = Some (record { sid = sid; item = Stanza stream stanza; cost = stanza_cost stanza })
handing_in (Shut sid stream closing) = Some (record { sid = sid; item = Closes stream closing; cost = plain_cost })
handing_in LastLine = None

abbrev pub handing_of : LineRead → Option Handing
handing_of (Line line) = handing_in line
handing_of (BadLine kind) = None

-- the report says that something was refused for the session with this number
abbrev pub is_refused : ℕ → ReportLine → Bool
is_refused number (In session item) = false
is_refused number (Out conn body) = false
is_refused number (Lost conn) = false
is_refused number (Gone conn) = false
is_refused number (Refused session refusal) = session == number
is_refused number (Over session ending) = false
is_refused number (Done line) = false
is_refused number (Bad line kind) = false

-- what a session is at this moment without it, but for the counted bytes; or its journal had no room for these, and it ended
abbrev pub without_it : PlainSession → ℕ → ℕ → PlainSession
without_it s now cost = if is_full s cost then full_with cost s else with_cost cost (time_applied s now)

-- the same session, but for what was passed on and collected
abbrev pub IsSameBut : PlainSession → PlainSession → Type 0
IsSameBut s t = (passed : ℕ) × (tickets : List Issued) × (t ≡ record s { passed = passed; tickets = tickets })

-- what a line of the server did to the session that it names
pub record Hands (h : Handing) (now : ℕ) (lines : List ReportLine) (s t : PlainLive) : Type 0 where
  -- all that the server gave is what it gave before, and this, if the report doesn't say that it was refused
  pub given : (state t).given ≡ (state s).given ++ (if list_any (is_refused s.number) lines then [] else h.item ∷ [])
  -- and what was refused left no trace but the bytes of its entry
  pub refused : list_any (is_refused s.number) lines ≡ true → IsSameBut (without_it (state s) now h.cost) (state t)

abbrev pub IsHandedTo : Handing → ℕ → List ReportLine → List PlainLive → PlainLive → Type 0
IsHandedTo h now lines after s = (t : PlainLive) × IsOneOf t after × (t.number ≡ s.number) × Hands h now lines s t

-- a live session that a line of the server names is handed what it says, or nothing; where none has that number it is refused
pub record IsHanded (stage : Stage) : Type 0 where
  pub live : (m : PlainManager) (h : Handing) → over_bodies stage.before ≡ Some m → handing_of stage.said ≡ Some h → list_any is_bad stage.lines ≡ false
      → All (λ s. number_of h.sid ≡ Some s.number → IsHandedTo h m.moment stage.lines stage.after s) m.live
  pub absent : (m : PlainManager) (h : Handing) (number : ℕ) → over_bodies stage.before ≡ Some m → handing_of stage.said ≡ Some h → list_any is_bad stage.lines ≡ false
      → number_of h.sid ≡ Some number → All (λ s. (s.number == number) ≡ false) m.live → list_any (is_refused number) stage.lines ≡ true
  -- and nothing else is said to be refused
  pub named : (number : ℕ) → list_any (is_refused number) stage.lines ≡ true → (h : Handing) × (handing_of stage.said ≡ Some h) × (number_of h.sid ≡ Some number)
