-- What of a directory may cross to another thread, type by type: a search that opens all of them at once breaks off. A struct's
-- field asks for the row of `the_field`, a type parameter for `the_row`.
use denote.RattleType.{RattleType}
use denote.Param.Send.{IsSend, IsSync, sendable}
use Rattle.std.proofs.Crossing as heap
use Rattle.std.proofs.MapsCrossing as maps
use Rattle.std.specs.declared.clone.Clone as clone
use Rattle.std.specs.contracts.alloc.Global as Heap
use Rattle.std.specs.contracts.impls.GlobalAllocator.TheImpl.{ghosts}
use Rattle.circular_buffer.proofs.cells.Cells.TheSendSync as cells
use Rattle.circular_buffer.proofs.cells.Deed.TheSendSync as deed
use Rattle.circular_buffer.specs.contracts.cells.Deed as Deed
use Rattle.http_server.proofs.log.Log.TheSendSync as log
use Rattle.atomic_table.proofs.shared.Seat.TheSendSync as seat
use Rattle.atomic_table.proofs.shared.Shared.TheSendSync as shared
use Rattle.atomic_table.proofs.send_lease.SendLease.TheSendSync as lease
use Rattle.ack_report.specs.contracts.acks.Acks as Acks
use Rattle.bosh_types.specs.contracts.ending.Ending as Ending
use Rattle.bosh_types.specs.contracts.numbers.Moment as Moment
use Rattle.bosh_types.specs.contracts.rid.Rid as Rid
use Rattle.bosh_types.specs.contracts.shared.SharedText as SharedText
use Rattle.key_sequence.specs.contracts.check.KeyCheck as KeyCheck
use Rattle.pause_rules.specs.contracts.deadlines.Deadlines as Deadlines
use Rattle.pause_rules.specs.contracts.mark.Mark as Mark
use Rattle.rid_window.specs.contracts.window.Window as Window
use Rattle.parked_gate.specs.contracts.gate.Gate as Gate
use Rattle.parked_gate.specs.contracts.pass.Pass as Pass
use Rattle.parked_gate.specs.declared.object.Object.{Ghosts}
use Rattle.reply_keep.specs.contracts.keep.Keep as Keep
use Rattle.session_core.specs.contracts.copy.RequestCopy as RequestCopy
use Rattle.session_core.specs.contracts.copy.SharedCopy as SharedCopy
use Rattle.session_core.specs.contracts.held.HeldRequests as HeldRequests
use Rattle.session_core.specs.contracts.inbox.Inbox as Inbox
use Rattle.session_core.specs.contracts.outbox.Outbox as Outbox
use Rattle.session_core.specs.contracts.tickets.Tickets as Tickets
use Rattle.session_core.specs.contracts.session.Session as Session
use Rattle.entry_queue.specs.contracts.queue.EntryQueue as EntryQueue
use Rattle.entry_queue.specs.contracts.queue.Noted as Noted
use Rattle.session_journal.specs.contracts.entry.Entry as Entry
use Rattle.session_journal.specs.contracts.recorded.Recorded as Recorded
use Rattle.session_table.specs.contracts.directory.Directory as Directory
use Rattle.session_table.specs.contracts.handle.SessionHandle as SessionHandle
use Rattle.session_table.specs.contracts.purse.Purse as Purse

pub deed_send : (T : RattleType) → IsSend (Deed.the_row T Heap.the_row ghosts)
deed_send T = deed.the_send T Heap.the_row ghosts heap.send heap.frees

-- the rules of the types that stand below
pub ruleset crosses = (deed_send, cells.the_send, log.the_send, seat.the_send, shared.the_send, shared.the_sync, lease.the_send, lease.the_sync, sendable, heap.crosses, maps.crosses)

-- a gate may be called by many threads where its object may go to one, and then so may a pass of it
module _ (O C R A F Q W E : RattleType) (g : Ghosts O.Denot C.Denot R.Denot A.Denot F.Denot Q.Denot W.Denot E.Denot) where
  pub gate_sync : (k : clone.Ghosts A.Denot) → IsSend O → IsSync (Gate.the_row O C R A F Q W E g k)
  gate_sync k object = search (crosses) depth 200 fits 100000

  pub pass_send : IsSend O → IsSend (Pass.the_row O C R A F Q W E g)
  pass_send object = search (crosses) depth 200 fits 100000

-- the parts of a session
shared_text : IsSend (SharedText.the_field).row
shared_text = search (crosses) depth 200 fits 100000

keep : IsSend (Keep.the_field).row
keep = search (shared_text, crosses) depth 200 fits 100000

copy_send : IsSend RequestCopy.the_row
copy_send = search (crosses) depth 200 fits 100000

copy_sync : IsSync RequestCopy.the_row
copy_sync = search (crosses) depth 200 fits 100000

shared_copy : IsSend SharedCopy.the_row
shared_copy = search (copy_send, copy_sync, crosses) depth 200 fits 100000

held : IsSend (HeldRequests.the_field).row
held = search (crosses) depth 200 fits 100000

inbox : IsSend (Inbox.the_field).row
inbox = search (shared_text, crosses) depth 200 fits 100000

outbox : IsSend (Outbox.the_field).row
outbox = search (shared_text, crosses) depth 200 fits 100000

tickets : IsSend (Tickets.the_field).row
tickets = search (shared_text, crosses) depth 200 fits 100000

window : IsSend (Window.the_field SharedCopy.the_row).row
window = search (shared_copy, crosses) depth 200 fits 100000

rid : IsSend (Rid.the_field).row
rid = search (crosses) depth 200 fits 100000

moment : IsSend (Moment.the_field).row
moment = search (crosses) depth 200 fits 100000

mark : IsSend (Mark.the_field).row
mark = search (moment, crosses) depth 200 fits 100000

deadlines : IsSend (Deadlines.the_field).row
deadlines = search (crosses) depth 200 fits 100000

keys : IsSend (KeyCheck.the_field).row
keys = search (crosses) depth 200 fits 100000

acks : IsSend (Acks.the_field).row
acks = search (rid, moment, crosses) depth 200 fits 100000

ending : IsSend Ending.the_row
ending = search (rid, moment, crosses) depth 200 fits 100000

-- a session and its journal
session : IsSend (Session.the_field).row
session = search (window, rid, moment, mark, deadlines, keys, acks, ending, keep, held, inbox, outbox, tickets, crosses) depth 200 fits 100000

entry : IsSend Entry.the_row
entry = search (shared_text, crosses) depth 200 fits 100000

pub recorded : IsSend Recorded.the_row
recorded = search (session, entry, shared_text, crosses) depth 200 fits 100000

noted : IsSend Noted.the_row
noted = search (entry, crosses) depth 200 fits 100000

queue_send : IsSend EntryQueue.the_row
queue_send = search (noted, crosses) depth 200 fits 100000

queue_sync : IsSync EntryQueue.the_row
queue_sync = search (noted, crosses) depth 200 fits 100000

-- the directory and what its callers keep
pub handle : IsSend SessionHandle.the_row
handle = search (recorded, entry, queue_send, queue_sync, crosses) depth 200 fits 100000

pub directory : IsSend Directory.the_row
directory = search (handle, queue_send, queue_sync, crosses) depth 200 fits 100000

pub purse : IsSend (Purse.the_field).row
purse = search (directory, handle, crosses) depth 200 fits 100000
