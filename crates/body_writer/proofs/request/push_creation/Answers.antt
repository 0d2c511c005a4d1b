use Rattle.std.proofs.Common.{rules, append_assoc}
use Rattle.body_writer.proofs.RequestPieces.{creation_pieces}
use Rattle.body_writer.proofs.request.push_creation.Goals as goal

pub returns : goal.returns
returns c = search (rules, creation_pieces, append_assoc)
