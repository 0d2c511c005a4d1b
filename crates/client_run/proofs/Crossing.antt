-- What of a client and its workers may cross to another thread, type by type. A struct's field asks for the row of `the_field`, a
-- type parameter for `the_row`.
use denote.RattleType.{RattleType}
use denote.Param.Send.{AllSend, IsSend, IsSync, sendable}
use denote.Struct.Declared as declared
use Rattle.std.proofs.Crossing as heap
use Rattle.std.specs.declared.clone.Clone as clone
use Rattle.atomic_table.proofs.shared.Seat.TheSendSync as seat
use Rattle.atomic_table.proofs.shared.Shared.TheSendSync as shared
use Rattle.atomic_table.proofs.send_lease.SendLease.TheSendSync as lease
use Rattle.http_server.proofs.log.Log.TheSendSync as log
use Rattle.bosh_client.specs.contracts.client.Client as Client
use Rattle.bosh_client.specs.contracts.setup.ClientSetup as ClientSetup
use Rattle.bosh_types.specs.contracts.numbers.Moment as Moment
use Rattle.bosh_types.specs.contracts.rid.Rid as Rid
use Rattle.bosh_types.specs.contracts.shared.SharedText as SharedText
use Rattle.parked_gate.specs.contracts.gate.Gate as Gate
use Rattle.parked_gate.specs.contracts.pass.Pass as Pass
use Rattle.parked_gate.specs.declared.object.Object.{Ghosts}
use Rattle.client_run.specs.contracts.alarm.Alarm as Alarm
use Rattle.client_run.specs.contracts.call.Call as Call
use Rattle.client_run.specs.contracts.ear.Ear as Ear
use Rattle.client_run.specs.contracts.ends.End as End
use Rattle.client_run.specs.contracts.ends.Ends as Ends
use Rattle.client_run.specs.contracts.job.Post as Post
use Rattle.client_run.specs.contracts.job.WorkerJob as WorkerJob
use Rattle.client_run.specs.contracts.object.ClientObject as ClientObject
use Rattle.bosh_ports.specs.declared.link.Link as link
use Rattle.server_ports.specs.declared.network.Network as network
use Rattle.client_run.specs.declared.ends.Naming as naming

-- the rules of the types that stand below
pub ruleset crosses = (seat.the_send, shared.the_send, shared.the_sync, lease.the_send, lease.the_sync, log.the_send, sendable, heap.crosses)

-- a gate may be called by many threads where its object may go to one, and then so may a pass of it
module _ (O C R A F Q W E : RattleType) (g : Ghosts O.Denot C.Denot R.Denot A.Denot F.Denot Q.Denot W.Denot E.Denot) where
  pub gate_sync : (k : clone.Ghosts A.Denot) → IsSend O → IsSync (Gate.the_row O C R A F Q W E g k)
  gate_sync k object = search (crosses) depth 200 fits 100000

  pub pass_send : IsSend O → IsSend (Pass.the_row O C R A F Q W E g)
  pass_send object = search (crosses) depth 200 fits 100000

shared_text : IsSend (SharedText.the_field).row
shared_text = search (crosses) depth 200 fits 100000

rid : IsSend (Rid.the_field).row
rid = search (crosses) depth 200 fits 100000

moment : IsSend (Moment.the_field).row
moment = search (crosses) depth 200 fits 100000

client : IsSend (Client.the_field).row
client = search (shared_text, crosses) depth 200 fits 100000

setup : IsSend ClientSetup.the_row
setup = search (rid, crosses) depth 200 fits 100000

call : IsSend Call.the_row
call = search (rid, moment, crosses) depth 200 fits 100000

-- a client behind a gate
pub object : IsSend ClientObject.the_row
object = search (client, call, crosses) depth 200 fits 100000

-- an alarm behind a gate
alarm : IsSend Alarm.the_row
alarm = search (crosses) depth 200 fits 100000

-- the places at the gates
module _ (J : RattleType) (n : naming.Ghosts J.Denot) where
  ear : IsSend J → IsSend (Ear.the_field J n).row
  ear j = search (alarm, crosses) depth 200 fits 100000

  pub post : IsSend J → IsSend (Post.the_field J n).row
  post j = search (object, ear, crosses) depth 200 fits 100000

-- the ends of workers
module _ (J N L : RattleType) (n : naming.Ghosts J.Denot) (k : network.Ghosts N.Denot L.Denot) (l : link.Ghosts L.Denot) where
  end_send : IsSend J → IsSend N → IsSend (End.the_row J N L n k l)
  end_send j s = search (object, ear, crosses) depth 200 fits 100000

  pub ends_send : IsSend J → IsSend N → IsSend (Ends.the_row J N L n k l)
  ends_send j s = search (end_send, crosses) depth 200 fits 100000

  pub ends_sync : IsSend J → IsSend N → IsSync (Ends.the_row J N L n k l)
  ends_sync j s = search (end_send, crosses) depth 200 fits 100000

-- a worker as a job
module _ (J R N C B L : RattleType) (n : naming.Ghosts J.Denot) (k : network.Ghosts N.Denot L.Denot) (l : link.Ghosts L.Denot) (j : IsSend J) (r : IsSend R) (s : IsSend N) (c : IsSend C) (b : IsSend B) where
  job_fields : AllSend (declared.shape (WorkerJob.the_type J R N C B L n k l)).fields
  job_fields = (search (crosses) depth 50, (search (crosses) depth 50, (search (post, crosses) depth 50, (search (crosses) depth 50, (search (crosses) depth 50, (search (crosses) depth 50, (search (crosses) depth 50, (search (ends_send, ends_sync, crosses) depth 50, tt))))))))

  pub job_send : IsSend (WorkerJob.the_row J R N C B L n k l)
  job_send = search (job_fields, crosses) depth 50
