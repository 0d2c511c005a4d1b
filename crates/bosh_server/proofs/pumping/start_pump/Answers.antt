use Rattle.session_table.proofs.Crossing.{crosses}
use Rattle.bosh_server.proofs.pumping.start_pump.Goals as goal

pub start-requires-send-J : goal.start-requires-send-J
start-requires-send-J c κs = search (crosses) depth 200 fits 100000
