use Rattle.std.proofs.Common.{◌∙◌, sym, subst, if◌then◌else◌}
use Rattle.script_text.specs.declared.line.BadKind.TheVariants.{Connection}
use Rattle.script_text.specs.Manager.{closed}
use Rattle.script_text.specs.Script.{bad_step, begun, change_step}
use Rattle.script_text.specs.Stands.{Does}
use Rattle.script_text.proofs.bodies.close.Goals as goal

pub returns : goal.returns
returns c = λ m is.
    subst (λ b. Does c.effect_of.result (if b then change_step (closed (begun m) c.args.conn) else bad_step c.args.n Connection))
    (sym c.if-not-is_waiting.false ∙ c.is_waiting.ensures m is)
    (c.effect_of.ensures _ (c.in_ok-changed.ensures (begun m) (c.begin.ensures m is)))
