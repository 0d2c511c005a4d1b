use denote.Param.Send.{IsSend, IsSync}
use Rattle.bosh_ports.specs.contracts.memory_link.MemoryLink as MemoryLink
use Rattle.bosh_types.specs.contracts.hosts.HostName as HostName
use Rattle.bosh_types.specs.contracts.row.Row as Row
use Rattle.session_table.proofs.Crossing.{crosses, directory, gate_sync, pass_send}
use Rattle.serve_tests.proofs.connections.threads.serve_both.Goals as goal

-- what a connection's thread takes beside its pass and the gate
link : IsSend (MemoryLink.the_field).row
link = search (crosses) depth 200 fits 100000

hosts : IsSync (Row.the_row HostName.the_row)
hosts = search (crosses) depth 200 fits 100000

pub join-requires-send-F : goal.join-requires-send-F
join-requires-send-F g c κs within = search (link, hosts, pass_send, gate_sync, directory, crosses) depth 200 fits 100000
