use Rattle.std.proofs.Common.{rules}
use Rattle.body_writer.proofs.AnswerPieces.{created_none}
use Rattle.body_writer.proofs.answer.push_created.Goals as goal

pub returns-in-None : goal.returns-in-None
returns-in-None c = search (rules, created_none)
