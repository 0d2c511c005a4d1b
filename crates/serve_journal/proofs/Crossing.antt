-- What waits until entries are stored may cross to another thread, type by type.
use denote.RattleType.{RattleType}
use denote.Param.Send.{IsSend, IsSync}
use Rattle.bosh_types.specs.contracts.inward.Inward as Inward
use Rattle.bosh_types.specs.contracts.numbers.Wire as Wire
use Rattle.bosh_types.specs.contracts.shared.SharedText as SharedText
use Rattle.entry_queue.specs.contracts.queue.EntryQueue as EntryQueue
use Rattle.entry_queue.specs.contracts.queue.Noted as Noted
use Rattle.session_journal.specs.contracts.entry.Entry as Entry
use Rattle.session_table.proofs.Crossing.{crosses}
use Rattle.serve_journal.specs.contracts.held_backend.HeldBackend as End
use Rattle.serve_journal.specs.contracts.held_backend.Held as Held
use Rattle.serve_journal.specs.contracts.held_backend.Waiting as Waiting
use Rattle.serve_journal.specs.contracts.held_link.HeldLink as Link
use Rattle.serve_journal.specs.contracts.receipt.Leave as Leave
use Rattle.serve_journal.specs.contracts.receipt.Mark as Mark
use Rattle.serve_journal.specs.contracts.receipt.Receipt as Receipt

-- the queue of entries
shared_text : IsSend (SharedText.the_field).row
shared_text = search (crosses) depth 200 fits 100000

entry : IsSend Entry.the_row
entry = search (shared_text, crosses) depth 200 fits 100000

noted : IsSend Noted.the_row
noted = search (entry, crosses) depth 200 fits 100000

pub queue_send : IsSend EntryQueue.the_row
queue_send = search (noted, crosses) depth 200 fits 100000

pub queue_sync : IsSync EntryQueue.the_row
queue_sync = search (noted, crosses) depth 200 fits 100000

-- a link that may cross, with what it waits for
mark : IsSend (Mark.the_field).row
mark = search (crosses) depth 200 fits 100000

receipt : IsSend (Receipt.the_field).row
receipt = search (mark, crosses) depth 200 fits 100000

leave : IsSend Leave.the_row
leave = search (mark, receipt, crosses) depth 200 fits 100000

pub held_link : (L : RattleType) → IsSend L → IsSend (Link.the_row L)
held_link L own = search (queue_send, queue_sync, mark, leave, crosses) depth 200 fits 100000

-- a back end that may cross, with what it hands on later
wire : IsSend (Wire.the_field).row
wire = search (crosses) depth 200 fits 100000

inward : IsSend Inward.the_row
inward = search (shared_text, crosses) depth 200 fits 100000

held : IsSend Held.the_row
held = search (wire, inward, shared_text, crosses) depth 200 fits 100000

waiting : IsSend Waiting.the_row
waiting = search (mark, held, crosses) depth 200 fits 100000

pub held_end : (E : RattleType) → IsSend E → IsSend (End.the_row E)
held_end E own = search (queue_send, queue_sync, waiting, crosses) depth 200 fits 100000
