use Rattle.std.proofs.Common.{◌∙◌}
use Rattle.session_core.specs.StandsFor.{StandsFor}
use Rattle.session_core.proofs.CollectedLemmas.{counts_are}
use Rattle.session_core.proofs.session.Session.waiting.Goals as goal

pub returns : goal.returns
unfolding StandsFor
returns c = λ plain stands. c.counts.ensures ∙ counts_are stands
