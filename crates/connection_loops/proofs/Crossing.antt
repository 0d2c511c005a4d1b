-- What of a loop may cross to another thread, type by type.
use denote.RattleType.{RattleType}
use denote.Param.Send.{IsSend, IsSync, sendable}
use Rattle.std.proofs.Crossing as heap
use Rattle.connection_loops.specs.contracts.door.Door as Door
use Rattle.connection_loops.specs.contracts.inbox.Inbox as Inbox
use Rattle.connection_loops.specs.contracts.turning.Loop as Loop

pub ruleset crosses = (sendable, heap.crosses)

-- a door that many threads ring
pub door_send : (W : RattleType) → IsSend W → IsSend (Door.the_row W)
door_send W rouse = search (crosses) depth 200 fits 100000

pub door_sync : (W : RattleType) → IsSync W → IsSync (Door.the_row W)
door_sync W rouse = search (crosses) depth 200 fits 100000

-- where links that may cross are left
pub inbox_send : (L W : RattleType) → IsSend L → IsSend W → IsSync W → IsSend (Inbox.the_row L W)
inbox_send L W link rouse shared = search (door_send, door_sync, crosses) depth 200 fits 100000

pub inbox_sync : (L W : RattleType) → IsSend L → IsSend W → IsSync W → IsSync (Inbox.the_row L W)
inbox_sync L W link rouse shared = search (door_send, door_sync, crosses) depth 200 fits 100000

-- a loop of seats that may cross, as a field of a struct
pub looped : (T S P L : RattleType) → IsSend T → IsSend S → IsSend P → IsSend (Loop.the_field T S P L).row
looped T S P L tools seat poller = search (crosses) depth 200 fits 100000
