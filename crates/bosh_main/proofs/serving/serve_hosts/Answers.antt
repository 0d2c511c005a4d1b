use Rattle.serve_trace.proofs.Crossing.{end_}
use Rattle.bosh_main.proofs.Crossing.{backend, crosses}
use Rattle.bosh_main.proofs.serving.serve_hosts.Goals as goal

pub serve_held-requires-send-H : goal.serve_held-requires-send-H
serve_held-requires-send-H g c κs within = search (end_, backend, crosses) depth 200 fits 100000
