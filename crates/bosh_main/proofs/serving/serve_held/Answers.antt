use Rattle.serve_journal.proofs.Crossing.{held_end}
use Rattle.bosh_main.proofs.Crossing.{crosses}
use Rattle.bosh_main.proofs.serving.serve_held.Goals as goal

pub run_serve_command-requires-send-H : goal.run_serve_command-requires-send-H
run_serve_command-requires-send-H g c κs within = search (held_end, c.type_bounds, crosses) depth 200 fits 100000
