use Rattle.std.proofs.Common.{None, refl, subst, sym}
use Rattle.trace_audit.specs.declared.line.TraceLine.{TraceLine}
use Rattle.trace_audit.specs.Stands.{Judges}
use Rattle.trace_audit.proofs.HeardLemmas.{end_well, heard}
use Rattle.trace_audit.proofs.heard.Heard.judge.Goals as goal

pub returns-in-End : goal.returns-in-End
returns-in-End c = λ t h. subst (λ (line : TraceLine). Judges None c.args.self.now t line) (sym c.in-End.is) (heard _ _ (end_well _ _ _ _ _ _ _ _ t h) refl refl refl refl refl)
