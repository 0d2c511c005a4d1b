use Rattle.std.proofs.Common.{◌∙◌}
use Rattle.session_core.specs.StandsFor.{StandsFor}
use Rattle.session_core.proofs.CollectedLemmas.{collected_holds, collected_reply}
use Rattle.session_core.proofs.session.Session.collect.Goals as goal

pub returns : goal.returns
unfolding StandsFor
returns c = record {
  reply = λ plain stands. c.collect.ensures.answer ∙ collected_reply c.args.ticket stands;
  after = λ plain stands. collected_holds c.args.ticket stands c.collect.ensures.after;
}
