use Rattle.session_table.proofs.Crossing.{crosses, directory, gate_sync, pass_send}
use Rattle.table_tests.proofs.directories.threads.open_in_threads.Goals as goal

pub join-requires-send-F : goal.join-requires-send-F
join-requires-send-F g c κs within = search (pass_send, gate_sync, directory, crosses) depth 200 fits 100000
