use Rattle.std.proofs.Common.{rules}
use Rattle.body_writer.proofs.AnswerPieces.{answer_pieces}
use Rattle.body_writer.proofs.answer.write_answer.Goals as goal

pub returns : goal.returns
returns c = search (rules, answer_pieces)
