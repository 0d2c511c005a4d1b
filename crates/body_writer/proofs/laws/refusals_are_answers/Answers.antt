use Rattle.body_writer.proofs.Refusals.{refusal_is}
use Rattle.body_writer.proofs.laws.refusals_are_answers.Goals as goal

pub returns : goal.returns
returns c = refusal_is
