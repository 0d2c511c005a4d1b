use Rattle.std.proofs.Common.{ap, ◌∙◌}
use Rattle.std.specs.Prelude.{not}
use Rattle.session_core.specs.StandsFor.{StandsFor}
use Rattle.session_core.proofs.CollectedLemmas.{some_inward}
use Rattle.session_core.proofs.session.Session.has_inward.Goals as goal

pub returns : goal.returns
unfolding StandsFor
returns c = λ plain stands. ap not c.is_empty.ensures ∙ some_inward stands
