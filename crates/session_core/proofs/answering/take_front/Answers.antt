use Rattle.session_core.proofs.Fronts.{few_in}
use Rattle.session_core.proofs.answering.take_front.Goals as goal

pub returns-clause-few : goal.returns-clause-few
returns-clause-few c = few_in c.take_front.result c.args.outbox.now.items c.take_front.ensures.front
