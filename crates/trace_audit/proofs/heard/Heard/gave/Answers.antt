use Rattle.std.proofs.Common.{refl, sym}
use Rattle.trace_audit.proofs.HeardLemmas.{gave_well, heard}
use Rattle.trace_audit.proofs.heard.Heard.gave.Goals as goal

pub returns : goal.returns
returns c = λ t h. heard _ _ (gave_well _ _ _ _ _ _ _ _ t h c.args.stanza) (sym c.in_ok-push.ensures.items) refl refl refl refl
