-- What of a watch may cross to another thread, type by type.
use denote.Param.Send.{IsSend, IsSync, sendable}
use Rattle.std.proofs.Crossing as heap
use Rattle.std.proofs.MapsCrossing as maps
use Rattle.server_watch.specs.contracts.meter.Meter as Meter
use Rattle.server_watch.specs.contracts.queue.NoteQueue as Queue
use Rattle.server_watch.specs.contracts.tally.Tally as Tally
use Rattle.server_watch.specs.contracts.watch.Watch as Watch

pub ruleset crosses = (sendable, heap.crosses)

meter_send : IsSend Meter.the_row
meter_send = search (crosses) depth 200 fits 100000

meter_sync : IsSync Meter.the_row
meter_sync = search (crosses) depth 200 fits 100000

queue_send : IsSend Queue.the_row
queue_send = search (crosses) depth 200 fits 100000

queue_sync : IsSync Queue.the_row
queue_sync = search (crosses) depth 200 fits 100000

-- a watch that may cross, as a field of a struct, and one that is shared
pub watch_send : IsSend (Watch.the_field).row
watch_send = search (meter_send, meter_sync, queue_send, queue_sync, crosses) depth 200 fits 100000

pub watch_sync : IsSync (Watch.the_field).row
watch_sync = search (meter_send, meter_sync, queue_send, queue_sync, crosses) depth 200 fits 100000

-- what counts what a back end carries, as a field of a struct
pub tally_send : IsSend (Tally.the_field).row
tally_send = search (watch_send, watch_sync, maps.crosses, crosses) depth 200 fits 100000
