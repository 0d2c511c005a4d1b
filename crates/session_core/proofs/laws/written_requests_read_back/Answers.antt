use Rattle.session_core.proofs.WrittenRequests.{request_body, request_means, request_read, request_children}
use Rattle.session_core.proofs.laws.written_requests_read_back.Goals as goal

pub returns : goal.returns
returns c = record { body = request_body; means = request_means; read = request_read; children = request_children }
