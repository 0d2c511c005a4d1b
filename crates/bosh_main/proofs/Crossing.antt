-- What of a back end over TCP may cross to another thread, type by type.
use denote.RattleType.{RattleType}
use denote.Param.Send.{IsSend, sendable}
use Rattle.std.proofs.Crossing as heap
use Rattle.std.proofs.MapsCrossing as maps
use Rattle.http_server.proofs.log.Log.TheSendSync as log
use Rattle.bosh_ports.specs.declared.link.Link as links
use Rattle.server_ports.specs.declared.clock.Clock as clocks
use Rattle.server_ports.specs.declared.network.Network as networks
use Rattle.xmpp_stream.specs.declared.poll_link.PollLink as polls
use Rattle.xmpp_stream.specs.contracts.incoming.Incoming as Incoming
use Rattle.xmpp_stream.specs.contracts.outgoing.Outgoing as Outgoing
use Rattle.stream_backend.specs.contracts.lists.Lists as Lists
use Rattle.stream_backend.specs.contracts.line.Line as Line
use Rattle.stream_backend.specs.contracts.backend.StreamBackend as StreamBackend

pub ruleset crosses = (log.the_send, sendable, heap.crosses, maps.crosses)

outgoing : IsSend (Outgoing.the_field).row
outgoing = search (crosses) depth 200 fits 100000

incoming : IsSend (Incoming.the_field).row
incoming = search (crosses) depth 200 fits 100000

lists : IsSend (Lists.the_field).row
lists = search (crosses) depth 200 fits 100000

line : (L : RattleType) (p : polls.Ghosts L.Denot) (k : links.Ghosts L.Denot) → IsSend L → IsSend (Line.the_row L p k)
line L p k link = search (outgoing, incoming, crosses) depth 200 fits 100000

pub backend : (N W C K : RattleType) (n : networks.Ghosts N.Denot K.Denot) (k : links.Ghosts K.Denot) (t : clocks.Ghosts C.Denot) (p : polls.Ghosts K.Denot)
    → IsSend N → IsSend W → IsSend C → IsSend K → IsSend (StreamBackend.the_row N W C K n k t p)
backend N W C K n k t p network watch clock link = search (line, lists, crosses) depth 200 fits 100000
