use Rattle.body_writer.proofs.RequestBlocks.{request_built, request_reads}
use Rattle.body_writer.proofs.laws.requests_read_back.Goals as goal

pub returns : goal.returns
returns c = record { built = request_built; read = request_reads }
