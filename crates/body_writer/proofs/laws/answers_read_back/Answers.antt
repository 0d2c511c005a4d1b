use Rattle.body_writer.proofs.AnswerBlocks.{answer_built, answer_reads}
use Rattle.body_writer.proofs.laws.answers_read_back.Goals as goal

pub returns : goal.returns
returns c = record { built = answer_built; read = answer_reads }
