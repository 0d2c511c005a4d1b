use Rattle.std.proofs.Common.{rules, append_assoc}
use Rattle.body_writer.proofs.AnswerPieces.{created_pieces}
use Rattle.body_writer.proofs.answer.push_created_by.Goals as goal

pub returns : goal.returns
returns c = search (rules, created_pieces, append_assoc)
