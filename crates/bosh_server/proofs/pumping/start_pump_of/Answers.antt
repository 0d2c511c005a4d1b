use Rattle.session_table.proofs.Crossing.{crosses}
use Rattle.bosh_server.proofs.Crossing.{pump_post}
use Rattle.bosh_server.proofs.pumping.start_pump_of.Goals as goal

pub start_pump-requires-send-H : goal.start_pump-requires-send-H
start_pump-requires-send-H c κs = search (pump_post, crosses) depth 200 fits 100000
