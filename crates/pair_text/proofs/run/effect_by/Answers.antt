use Rattle.std.proofs.Common.{◌≡◌, ◌∙◌, ℕ, Box, Global, List, ap, subst, sym}
use Rattle.pair_text.specs.declared.line.PairLine.{PairLine}
use Rattle.pair_text.specs.declared.run.Effect.{Effect}
use Rattle.pair_text.specs.declared.run.Run.{Run}
use Rattle.pair_text.specs.declared.run.Run.TheVariants as runs
use Rattle.world_laws.specs.World.{PlainWorld}
use Rattle.two_ends.specs.declared.world.World.{World}
use Rattle.two_ends.specs.Worlds.{IsWorld}
use Rattle.pair_text.specs.declared.host.Host.{Host}
use Rattle.pair_text.specs.Script.{PlainPairRun, Beginning, Hosted, Meeting, first_step, later_step, said_step, second_step}
use Rattle.pair_text.specs.Stands.{Does, IsRun}
use Rattle.pair_text.proofs.LoadSteps.{ok_map}
use Rattle.pair_text.proofs.run.effect_by.Goals as goal

abbrev DoesFor : Run → ℕ → PairLine → Effect → Type 0
DoesFor run n said effect = (plain : PlainPairRun) → IsRun run plain → Does effect (said_step plain n said)

begins : (n : ℕ) (said : PairLine) (effect : Effect) → Does effect (first_step n said) → DoesFor runs.Beginning n said effect
begins n said effect does Beginning stands = does
begins n said effect does (Hosted host greeting) stands = absurd stands
begins n said effect does (Meeting w) stands = absurd stands

hosts : (host : Host) (n : ℕ) (said : PairLine) (effect : Effect) → Does effect (second_step host.name host.greeting n said) → DoesFor (runs.Hosted host) n said effect
hosts host n said effect does Beginning stands = absurd stands
hosts host n said effect does (Hosted name greeting) stands =
    subst (λ h. Does effect (second_step h greeting n said)) stands.0 (subst (λ g. Does effect (second_step host.name g n said)) stands.1 does)
hosts host n said effect does (Meeting w) stands = absurd stands

meets : (world : Box World Global) (n : ℕ) (said : PairLine) (effect : Effect) → ((w : PlainWorld) → IsWorld world.value w → Does effect (later_step w n said)) → DoesFor (runs.Meeting world) n said effect
meets world n said effect does Beginning stands = absurd stands
meets world n said effect does (Hosted host greeting) stands = absurd stands
meets world n said effect does (Meeting w) stands = does w stands

pub returns-in-Beginning : goal.returns-in-Beginning
returns-in-Beginning c = ok_map c.first_effect.result _ _
    (λ effect does. subst (λ run. DoesFor run c.args.n c.args.said effect) (sym c.in-Beginning.is) (begins c.args.n c.args.said effect does)) c.first_effect.ensures

pub returns-in-Hosted : goal.returns-in-Hosted
returns-in-Hosted c = ok_map c.second_effect.result _ _
    (λ effect does. subst (λ run. DoesFor run c.args.n c.args.said effect) (sym c.in-Hosted.is) (hosts c.in-Hosted.host c.args.n c.args.said effect does)) c.second_effect.ensures

pub returns-in-Meeting : goal.returns-in-Meeting
returns-in-Meeting c = ok_map c.later_effect.result _ _
    (λ effect does. subst (λ run. DoesFor run c.args.n c.args.said effect) (sym c.in-Meeting.is) (meets c.in-Meeting.world c.args.n c.args.said effect does)) c.later_effect.ensures
