-- What the code keeps of a script stands for the plain things.
use Rattle.std.specs.Prelude.{◌≡◌, ⊤, ℕ, ◌<◌, ◌^◌, List, [], ◌∷◌, All, IsTrue, Option, None, Some, false}
use Rattle.body_cutter.specs.Cutting.{is_stanza}
use Rattle.session_attrs.specs.declared.request.Kind.TheVariants as kinds
use Rattle.session_core.specs.Journal.{IsReadFrom}
use Rattle.session_core.specs.State.{is_over}
use Rattle.session_core.specs.Time.{is_due}
use Rattle.session_journal.specs.Stored.{IsJournalOf}
use Rattle.script_text.specs.declared.event.Event.{Event}
use Rattle.script_text.specs.declared.event.Event.TheVariants.{Arrives, Gives, Shuts, Passes}
use Rattle.script_text.specs.declared.live.Live.{Live}
use Rattle.script_text.specs.declared.live.Turned.{Turned}
use Rattle.script_text.specs.declared.manager.Changed.{Changed}
use Rattle.script_text.specs.declared.manager.Manager.{Manager}
use Rattle.script_text.specs.declared.run.Effect.{Effect}
use Rattle.script_text.specs.declared.run.Next.{Next}
use Rattle.script_text.specs.declared.run.Next.TheVariants as nexts
use Rattle.script_text.specs.declared.run.Run.{Run}
use Rattle.script_text.specs.declared.run.Run.TheVariants as runs
use Rattle.session_calls.specs.After.{}
use Rattle.script_text.specs.Live.{PlainLive, Turn, state}
use Rattle.script_text.specs.Manager.{PlainManager, Change}
use Rattle.script_text.specs.Script.{PlainRun, Beginning, Arrivals, Bodies, PlainNext, Goes, Ends, Step}

-- what may come to a session: a later request as its body gives it, a stanza, a closing, time
abbrev pub IsEvent : Event → Type 0
IsEvent (Arrives conn request body) = IsReadFrom body request × ((sid : List ℕ) × (request.kind ≡ kinds.Later sid))
IsEvent (Gives stream stanza) = IsTrue (is_stanza stanza)
IsEvent (Shuts stream closing) = ⊤
IsEvent Passes = ⊤

-- a session: its entries tell the journal
pub record IsLive (live : Live) (s : PlainLive) : Type 0 where
  pub number : live.number ≡ s.number
  pub journal : IsJournalOf live.session s.journal
  pub parked : live.parked.items ≡ s.parked

-- sessions in their order
abbrev pub AreLive : List Live → List PlainLive → Type 0
AreLive [] [] = ⊤
AreLive [] (s ∷ others) = ⊥
AreLive (live ∷ lives) [] = ⊥
AreLive (live ∷ lives) (s ∷ others) = IsLive live s × AreLive lives others

-- what a line does to a session
pub record IsTurn (turned : Turned) (turn : Turn) : Type 0 where
  pub lines : turned.lines.items ≡ turn.lines
  pub live : IsLive turned.live turn.after

-- the moment is before this one, if there is one
abbrev pub IsBefore : ℕ → Option ℕ → Type 0
IsBefore now None = ⊤
IsBefore now (Some moment) = now < moment

-- the session goes on, and before this moment time has nothing to do for it
pub record Rests (soonest : Option ℕ) (s : PlainLive) : Type 0 where
  pub goes_on : is_over (state s) ≡ false
  pub quiet : (now : ℕ) → now < 2 ^ 64 → IsBefore now soonest → is_due (state s) now ≡ false

pub record IsManager (manager : Manager) (m : PlainManager) : Type 0 where
  pub hosts : manager.hosts ≡ m.hosts
  pub moment : manager.moment ≡ m.moment
  pub begun : manager.begun ≡ m.begun
  pub opened : manager.opened ≡ m.opened
  pub live : AreLive manager.live.items m.live
  pub rest : All (Rests manager.soonest) m.live

-- what a line does to a manager
pub record IsChange (changed : Changed) (change : Change) : Type 0 where
  pub lines : changed.lines.items ≡ change.lines
  pub manager : IsManager changed.manager change.after
  pub over : AreLive changed.over.items change.over

abbrev pub IsRun : Run → PlainRun → Type 0
IsRun runs.Beginning Beginning = ⊤
IsRun runs.Beginning (Arrivals m) = ⊥
IsRun runs.Beginning (Bodies m) = ⊥
IsRun (runs.Arrivals manager) Beginning = ⊥
IsRun (runs.Arrivals manager) (Arrivals m) = IsManager manager m
IsRun (runs.Arrivals manager) (Bodies m) = ⊥
IsRun (runs.Bodies manager) Beginning = ⊥
IsRun (runs.Bodies manager) (Arrivals m) = ⊥
IsRun (runs.Bodies manager) (Bodies m) = IsManager manager m

abbrev pub IsNext : Next → PlainNext → Type 0
IsNext (nexts.Goes run) (Goes plain) = IsRun run plain
IsNext (nexts.Goes run) (Ends outcome) = ⊥
IsNext (nexts.Ends outcome) (Goes plain) = ⊥
IsNext (nexts.Ends outcome) (Ends other) = outcome ≡ other

-- the effect of the code is this
pub record Does (effect : Effect) (step : Step) : Type 0 where
  pub lines : effect.lines.items ≡ step.lines
  pub next : IsNext effect.next step.next
  pub over : AreLive effect.over.items step.over
