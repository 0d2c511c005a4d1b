use Rattle.session_pump.proofs.DueLemmas.{forgotten}
use Rattle.session_pump.proofs.dues.forget_due.Goals as goal

pub returns : goal.returns
returns c = forgotten _ _ _ c.clear.ensures.found
