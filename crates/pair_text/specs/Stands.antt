-- What the code keeps of a script of two ends stands for the plain things.
use Rattle.std.specs.Prelude.{◌≡◌, ⊤}
use Rattle.script_text.specs.declared.driven.Driven.{Driven}
use Rattle.two_ends.specs.Worlds.{IsWorld}
use Rattle.pair_text.specs.declared.run.Effect.{Effect}
use Rattle.pair_text.specs.declared.run.Next.{Next}
use Rattle.pair_text.specs.declared.run.Next.TheVariants as nexts
use Rattle.pair_text.specs.declared.run.Run.{Run}
use Rattle.pair_text.specs.declared.run.Run.TheVariants as runs
use Rattle.pair_text.specs.Script.{PairStep, PlainPairNext, PlainPairRun, Beginning, Hosted, Meeting, Goes, Ends}

abbrev pub IsRun : Run → PlainPairRun → Type 0
IsRun runs.Beginning Beginning = ⊤
IsRun runs.Beginning (Hosted host greeting) = ⊥
IsRun runs.Beginning (Meeting w) = ⊥
IsRun (runs.Hosted host) Beginning = ⊥
IsRun (runs.Hosted host) (Hosted name greeting) = (host.name ≡ name) × (host.greeting ≡ greeting)
IsRun (runs.Hosted host) (Meeting w) = ⊥
IsRun (runs.Meeting world) Beginning = ⊥
IsRun (runs.Meeting world) (Hosted host greeting) = ⊥
IsRun (runs.Meeting world) (Meeting w) = IsWorld world.value w

abbrev pub IsNext : Next → PlainPairNext → Type 0
IsNext (nexts.Goes run) (Goes plain) = IsRun run plain
IsNext (nexts.Goes run) (Ends outcome) = ⊥
IsNext (nexts.Ends outcome) (Goes plain) = ⊥
IsNext (nexts.Ends outcome) (Ends other) = outcome ≡ other

-- the effect of the code is this
pub record Does (effect : Effect) (step : PairStep) : Type 0 where
  pub lines : effect.lines.items ≡ step.lines
  pub next : IsNext effect.next step.next
