use Rattle.std.proofs.Common.{rules}
use Rattle.body_writer.proofs.RequestPieces.{request_pieces}
use Rattle.body_writer.proofs.request.write_request.Goals as goal

pub returns : goal.returns
returns c = search (rules, request_pieces)
