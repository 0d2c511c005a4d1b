-- What of a server may cross to another thread, type by type.
use denote.RattleType.{RattleType}
use denote.Param.Send.{IsSend, IsSync}
use Rattle.connection_loops.proofs.Crossing.{door_send, door_sync, inbox_send, inbox_sync, looped}
use Rattle.session_table.proofs.Crossing.{crosses, directory, purse}
use Rattle.server_watch.proofs.Crossing.{watch_send, watch_sync}
use Rattle.bosh_types.specs.contracts.shared.SharedText as SharedText
use Rattle.entry_queue.specs.contracts.queue.EntryQueue as EntryQueue
use Rattle.entry_queue.specs.contracts.queue.Noted as Noted
use Rattle.session_journal.specs.contracts.entry.Entry as Entry
use Rattle.bosh_ports.specs.declared.bell.Bell as bells
use Rattle.bosh_ports.specs.declared.polled.Polled as polls
use Rattle.server_ports.specs.declared.clock.Clock as clocks
use Rattle.server_ports.specs.declared.names.Names as makers
use Rattle.xmpp_backend.specs.declared.backend.Backend as backends
use Rattle.pause_rules.specs.contracts.due_index.DueIndex as Dues
use Rattle.session_pump.specs.contracts.hosts.Hosts as Hosts
use Rattle.session_pump.specs.contracts.line.Line as Line
use Rattle.session_pump.specs.contracts.news.News as News
use Rattle.session_pump.specs.contracts.pump.Pump as Pump
use Rattle.bosh_server.specs.declared.ends.Naming as naming
use Rattle.bosh_server.specs.contracts.bells.Doors as Doors
use Rattle.bosh_server.specs.contracts.bells.LoopBell as LoopBell
use Rattle.bosh_server.specs.contracts.bells.PumpBell as PumpBell
use Rattle.bosh_server.specs.contracts.ends.End as End
use Rattle.bosh_server.specs.contracts.ends.Ends as Ends
use Rattle.bosh_server.specs.contracts.fates.Fate as Fate
use Rattle.bosh_server.specs.contracts.fates.Fates as Fates
use Rattle.bosh_server.specs.contracts.looping.LoopJob as LoopJob
use Rattle.bosh_server.specs.contracts.pump_end.PumpEnd as PumpEnd
use Rattle.bosh_server.specs.contracts.pump_end.PumpHome as PumpHome
use Rattle.bosh_server.specs.contracts.pumping.PumpPost as PumpPost
use Rattle.bosh_server.specs.contracts.seat.ConnectionSeat as Seat
use Rattle.bosh_server.specs.contracts.seat.LoopTools as Tools
use Rattle.bosh_server.specs.contracts.seat.Stall as Stall
use Rattle.bosh_server.specs.contracts.served.Served as Served
use Rattle.bosh_server.specs.contracts.stored.StoredJob as StoredJob
use Rattle.bosh_server.specs.contracts.yard.Post as Post
use Rattle.bosh_server.specs.contracts.yard.Yard as Yard
use Rattle.serve_loop.specs.contracts.polled_connection.PolledConnection as Connection
use Rattle.serve_loop.specs.contracts.worker.Tools as Serving
use Rattle.serve_loop.specs.contracts.worker.Worker as Worker

pub yard_send : IsSend Yard.the_row
yard_send = search (directory, watch_send, watch_sync, crosses) depth 200 fits 100000

pub yard_sync : IsSync Yard.the_row
yard_sync = search (directory, watch_send, watch_sync, crosses) depth 200 fits 100000

pub post : IsSend (Post.the_field).row
post = search (yard_send, yard_sync, purse, crosses) depth 200 fits 100000

-- the doors of loops, and the bells that ring there
pub doors_send : (W : RattleType) → IsSend W → IsSync W → IsSend (Doors.the_row W)
doors_send W rouse shared = search (door_send, door_sync, crosses) depth 200 fits 100000

pub doors_sync : (W : RattleType) → IsSend W → IsSync W → IsSync (Doors.the_row W)
doors_sync W rouse shared = search (door_send, door_sync, crosses) depth 200 fits 100000

pub loop_bell : (R B W : RattleType) → IsSend R → IsSend B → IsSend W → IsSync W → IsSend (LoopBell.the_row R B W)
loop_bell R B W runtime bell rouse shared = search (yard_send, yard_sync, doors_send, doors_sync, door_send, door_sync, crosses) depth 200 fits 100000

pub pump_bell : (B W : RattleType) → IsSend B → IsSend W → IsSync W → IsSend (PumpBell.the_row B W)
pump_bell B W bell rouse shared = search (doors_send, doors_sync, crosses) depth 200 fits 100000

-- a connection, and who serves it. A struct's field asks for the row of `the_field`, a type parameter for `the_row`
connection : IsSend (Connection.the_field).row
connection = search (crosses) depth 200 fits 100000

worker : IsSend (Worker.the_field).row
worker = search (purse, crosses) depth 200 fits 100000

served : (L : RattleType) → IsSend L → IsSend (Served.the_field L).row
served L link = search (connection, worker, crosses) depth 200 fits 100000

-- what became of links
fate : (L : RattleType) → IsSend (Fate.the_row L)
fate L = search (purse, crosses) depth 200 fits 100000

fates : (L : RattleType) → IsSend (Fates.the_field L).row
fates L = search (fate, crosses) depth 200 fits 100000

pub seat : (J L : RattleType) (n : naming.Ghosts J.Denot) (p : polls.Ghosts L.Denot) → IsSend J → IsSend L → IsSend (Seat.the_row J L n p)
seat J L n p name link = search (served, yard_send, yard_sync, crosses) depth 200 fits 100000

-- the ends of loops
module _ (J L : RattleType) (n : naming.Ghosts J.Denot) (p : polls.Ghosts L.Denot) where
  end_send : IsSend J → IsSend (End.the_row J L n p)
  end_send name = search (fates, directory, crosses) depth 200 fits 100000

  pub ends_send : IsSend J → IsSend (Ends.the_row J L n p)
  ends_send name = search (end_send, crosses) depth 200 fits 100000

  pub ends_sync : IsSend J → IsSync (Ends.the_row J L n p)
  ends_sync name = search (end_send, crosses) depth 200 fits 100000

serving : (B M : RattleType) → IsSend B → IsSend M → IsSend (Serving.the_field B M).row
serving B M bell names = search (crosses) depth 200 fits 100000

-- the place of a connection
stall : (J : RattleType) (n : naming.Ghosts J.Denot) → IsSend J → IsSend (Stall.the_row J n)
stall J n name = search (post, crosses) depth 200 fits 100000

-- what a loop has for its connections
pub tools : (J R L C B M W : RattleType) (n : naming.Ghosts J.Denot) (p : polls.Ghosts L.Denot) (k : clocks.Ghosts C.Denot) (g : bells.Ghosts B.Denot)
    (m : makers.Ghosts M.Denot) → IsSend J → IsSend R → IsSend C → IsSend B → IsSend M → IsSend W → IsSync W → IsSend (Tools.the_row J R L C B M W n p k g m)
tools J R L C B M W n p k g m name runtime clock bell names rouse shared =
    search (stall, serving, fates, loop_bell, directory, yard_send, yard_sync, crosses) depth 200 fits 100000

-- a pump, before it begins and when it has ended
hosts : (E : RattleType) → IsSend E → IsSend (Hosts.the_field E).row
hosts E end = search (crosses) depth 200 fits 100000

line : IsSend (Line.the_field).row
line = search (crosses) depth 200 fits 100000

dues : IsSend (Dues.the_field).row
dues = search (crosses) depth 200 fits 100000

news : IsSend (News.the_field).row
news = search (crosses) depth 200 fits 100000

pump : (E : RattleType) → IsSend E → IsSend (Pump.the_field E).row
pump E end = search (hosts, line, dues, news, purse, crosses) depth 200 fits 100000

module _ (J E : RattleType) (n : naming.Ghosts J.Denot) (b : backends.Ghosts E.Denot) where
  pump_end : IsSend J → IsSend E → IsSend (PumpEnd.the_row J E n b)
  pump_end name end = search (pump, crosses) depth 200 fits 100000

  pub pump_home_send : IsSend J → IsSend E → IsSend (PumpHome.the_row J E n b)
  pump_home_send name end = search (pump_end, crosses) depth 200 fits 100000

  pub pump_home_sync : IsSend J → IsSend E → IsSync (PumpHome.the_row J E n b)
  pump_home_sync name end = search (pump_end, crosses) depth 200 fits 100000

  pub pump_post : IsSend J → IsSend E → IsSend (PumpPost.the_row J E n b)
  pump_post name end = search (hosts, directory, yard_send, yard_sync, pump_home_send, pump_home_sync, crosses) depth 200 fits 100000

-- entries on their way to a disk, and who tells that they are stored
shared_text : IsSend (SharedText.the_field).row
shared_text = search (crosses) depth 200 fits 100000

entry : IsSend Entry.the_row
entry = search (shared_text, crosses) depth 200 fits 100000

noted : IsSend Noted.the_row
noted = search (entry, crosses) depth 200 fits 100000

queue_send : IsSend EntryQueue.the_row
queue_send = search (noted, crosses) depth 200 fits 100000

queue_sync : IsSync EntryQueue.the_row
queue_sync = search (noted, crosses) depth 200 fits 100000

pub stored_job : (R B W : RattleType) → IsSend R → IsSend B → IsSend W → IsSync W → IsSend (StoredJob.the_row R B W)
stored_job R B W runtime bell rouse shared = search (queue_send, queue_sync, doors_send, doors_sync, crosses) depth 200 fits 100000

-- a loop with all that it has
pub loop_job : (J R L C B M P W : RattleType) (n : naming.Ghosts J.Denot) (p : polls.Ghosts L.Denot) (k : clocks.Ghosts C.Denot) (g : bells.Ghosts B.Denot) (m : makers.Ghosts M.Denot)
    → IsSend J → IsSend R → IsSend L → IsSend C → IsSend B → IsSend M → IsSend P → IsSend W → IsSync W → IsSend (LoopJob.the_row J R L C B M P W n p k g m)
loop_job J R L C B M P W n p k g m name runtime link clock bell names poller rouse shared =
    search (looped, seat, tools, ends_send, ends_sync, inbox_send, inbox_sync, crosses) depth 200 fits 100000
