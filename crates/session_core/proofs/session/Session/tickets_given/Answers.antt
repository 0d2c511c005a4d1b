use Rattle.std.proofs.Common.{◌∙◌}
use Rattle.session_core.specs.StandsFor.{StandsFor}
use Rattle.session_core.proofs.session.Session.tickets_given.Goals as goal

pub returns : goal.returns
unfolding StandsFor
returns c = λ plain stands. c.given.ensures ∙ stands.tickets.handed_out_is
