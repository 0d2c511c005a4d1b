use Rattle.std.proofs.Common.{arith}
use Rattle.session_core.specs.StandsFor.{StandsFor}
use Rattle.session_core.proofs.StruckLemmas.{rid_from}
use Rattle.session_core.proofs.session.Session.id_ahead.Goals as goal

pub returns : goal.returns
unfolding StandsFor
returns c = λ plain rid stands ahead.
    rid_from c.new.result c.in_ok-checked_add.field-0 rid c.new.ensures (omega (arith, c.in_ok-checked_add.ensures, c.value.ensures.value, stands.run.last_is, ahead.is)) (omega (arith, ahead.some, ahead.is))
