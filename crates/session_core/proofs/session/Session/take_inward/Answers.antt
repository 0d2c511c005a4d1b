use Rattle.std.proofs.Common.{◌∙◌}
use Rattle.session_core.specs.StandsFor.{StandsFor}
use Rattle.session_core.proofs.CollectedLemmas.{first_inward, inward_taken, passed_is}
use Rattle.session_core.proofs.session.Session.take_inward.Goals as goal

pub returns : goal.returns
unfolding StandsFor
returns c = record {
  reply = λ plain stands. c.take_first.ensures.first ∙ first_inward stands ∙ passed_is plain _;
  after = λ plain stands. inward_taken stands c.take_first.ensures.after;
}
