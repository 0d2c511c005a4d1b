use Rattle.session_core.proofs.Fronts.{none_counted}
use Rattle.session_core.proofs.outbox.Outbox.new.Goals as goal

pub invariant_of-result : goal.invariant_of-result
invariant_of-result c = none_counted _ _ c.new.ensures.items c.none.ensures
