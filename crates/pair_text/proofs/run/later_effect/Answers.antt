use Rattle.std.proofs.Common.{◌≡◌, ℕ, refl, subst, sym}
use Rattle.script_text.specs.declared.line.BadKind.TheVariants.{Grammar}
use Rattle.two_ends.specs.Worlds.{IsWorld}
use Rattle.world_laws.specs.World.{PlainWorld}
use Rattle.pair_text.specs.declared.line.PairLine.{PairLine}
use Rattle.pair_text.specs.declared.line.PairLine.TheVariants as lines
use Rattle.pair_text.specs.Script.{PairStep, bad_step, later_step}
use Rattle.pair_text.specs.Stands.{Does}
use Rattle.pair_text.proofs.LoadSteps.{ok_map}
use Rattle.pair_text.proofs.run.later_effect.Goals as goal

-- neither an event nor the last line
other_line : (w : PlainWorld) (n : ℕ) (said : PairLine) → ((event : _) → said ≡ lines.Event event → ⊥) → (said ≡ lines.End → ⊥) → bad_step n Grammar ≡ later_step w n said
other_line w n (lines.Host name greeting) no_event no_end = refl
other_line w n (lines.Client terms) no_event no_end = refl
other_line w n (lines.Event event) no_event no_end = absurd (no_event event refl)
other_line w n lines.End no_event no_end = absurd (no_end refl)

pub returns-in_default : goal.returns-in_default
returns-in_default c = ok_map c.bad.result _ _
    (λ effect does w is. subst (Does effect) (other_line w c.args.n c.args.said c.in_default.not-Event c.in_default.not-End) does) c.bad.ensures

pub returns-in-Event : goal.returns-in-Event
returns-in-Event c = ok_map c.happens.result _ _
    (λ effect does w is. subst (λ said. Does effect (later_step w c.args.n said)) (sym c.in-Event.is) (does w is)) c.happens.ensures

pub returns-in-End : goal.returns-in-End
returns-in-End c = ok_map c.end.result _ _
    (λ effect does w is. subst (λ said. Does effect (later_step w c.args.n said)) (sym c.in-End.is) (does w (subst (λ x. IsWorld x w) (sym c.deref.ensures) is))) c.end.ensures
