use Rattle.std.proofs.Common.{◌∙◌}
use Rattle.session_core.specs.StandsFor.{StandsFor}
use Rattle.session_core.proofs.StandingLemmas.{moved, wants_is}
use Rattle.session_core.proofs.session.Session.has_reason_at.Goals as goal

pub returns : goal.returns
unfolding StandsFor
returns c = λ plain stands. c.wants_answer.ensures ∙ wants_is (moved c.args.moment stands)
