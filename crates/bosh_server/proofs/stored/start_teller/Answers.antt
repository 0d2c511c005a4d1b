use Rattle.session_table.proofs.Crossing.{crosses}
use Rattle.bosh_server.proofs.Crossing.{stored_job}
use Rattle.bosh_server.proofs.stored.start_teller.Goals as goal

pub start-requires-send-J : goal.start-requires-send-J
start-requires-send-J c κs = search (stored_job, crosses) depth 200 fits 100000
