-- What is traced may cross to another thread, type by type.
use denote.RattleType.{RattleType}
use denote.Param.Send.{IsSend, IsSync, sendable}
use Rattle.std.proofs.Crossing as heap
use Rattle.server_watch.proofs.Crossing.{tally_send}
use Rattle.serve_trace.specs.contracts.queue.TraceQueue as Queue
use Rattle.serve_trace.specs.contracts.tap.Tap as Tap
use Rattle.serve_trace.specs.contracts.traced_link.TracedLink as Link
use Rattle.serve_trace.specs.contracts.traced_backend.TracedBackend as End

pub ruleset crosses = (sendable, heap.crosses)

pub queue_send : IsSend Queue.the_row
queue_send = search (crosses) depth 200 fits 100000

pub queue_sync : IsSync Queue.the_row
queue_sync = search (crosses) depth 200 fits 100000

tap : IsSend (Tap.the_field).row
tap = search (queue_send, queue_sync, crosses) depth 200 fits 100000

-- a link that may cross, and who listens in on it
pub link : (R L : RattleType) → IsSend R → IsSend L → IsSend (Link.the_row R L)
link R L runtime own = search (tap, queue_send, queue_sync, crosses) depth 200 fits 100000

-- a back end that may cross
pub end_ : (R E : RattleType) → IsSend R → IsSend E → IsSend (End.the_row R E)
end_ R E runtime own = search (tally_send, queue_send, queue_sync, crosses) depth 200 fits 100000
