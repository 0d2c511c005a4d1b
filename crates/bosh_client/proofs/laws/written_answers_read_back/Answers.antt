use Rattle.bosh_client.proofs.WrittenAnswers.{answer_tells}
use Rattle.bosh_client.proofs.laws.written_answers_read_back.Goals as goal

pub returns : goal.returns
returns c = answer_tells
