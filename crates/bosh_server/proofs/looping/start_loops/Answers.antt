use Rattle.session_table.proofs.Crossing.{crosses}
use Rattle.bosh_server.proofs.Crossing.{loop_job}
use Rattle.bosh_server.proofs.looping.start_loops.Goals as goal

pub start_all-requires-send-J : goal.start_all-requires-send-J
start_all-requires-send-J c κs = search (loop_job, crosses) depth 200 fits 100000
