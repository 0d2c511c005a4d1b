use Rattle.std.proofs.Common.{sym, subst}
use Rattle.script_text.specs.declared.report.ReportLine.TheVariants.{Refused}
use Rattle.script_text.specs.Manager.{comes}
use Rattle.script_text.specs.Script.{begun, server_step}
use Rattle.script_text.specs.Stands.{Does, IsChange}
use Rattle.script_text.proofs.bodies.serve.Goals as goal

pub returns : goal.returns
returns c = λ m is.
    subst (λ o. Does c.effect_of.result (server_step m c.args.n c.args.event c.args.refusal o)) (sym c.in-Some.is)
    (c.effect_of.ensures _ (subst (λ number. IsChange c.in_ok-changed.changed (comes (begun m) c.args.event (Refused c.in-Some.session c.args.refusal) number))
    c.from.ensures (c.in_ok-changed.ensures (begun m) (c.begin.ensures m is))))
