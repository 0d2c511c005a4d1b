use Rattle.std.proofs.Common.{◌≡◌, ◌≤◌, ℕ, false, subst, arith, if◌then◌else◌}
use Rattle.std.specs.Prelude.{nat_lt}
use Rattle.std.proofs.lemmas.Bool.Decides.{nat_tests}
use Rattle.script_text.specs.declared.line.BadKind.TheVariants.{Time}
use Rattle.script_text.specs.Manager.{passed}
use Rattle.script_text.specs.Script.{bad_step, change_step}
use Rattle.script_text.specs.Stands.{Does}
use Rattle.script_text.proofs.bodies.pass.Goals as goal

not_before : (a b : ℕ) → b ≤ a → false ≡ nat_lt a b
not_before a b after = grind (arith, nat_tests, after)

pub returns : goal.returns
returns c = λ m is.
    subst (λ b. Does c.effect_of.result (if b then bad_step c.args.n Time else change_step (passed m c.args.moment)))
    (not_before c.args.moment m.moment (omega (arith, c.if-is_over.false, c.millis.ensures, c.millis-2.ensures, is.moment)))
    (c.effect_of.ensures _ (c.in_ok-changed.ensures m is))
