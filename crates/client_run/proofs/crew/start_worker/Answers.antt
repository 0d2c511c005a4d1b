use Rattle.client_run.proofs.Crossing.{crosses, job_send}
use Rattle.client_run.proofs.crew.start_worker.Goals as goal

pub start-requires-send-J : goal.start-requires-send-J
start-requires-send-J g c κs within = search (c.type_bounds, job_send, crosses) depth 50
