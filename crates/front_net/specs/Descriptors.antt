-- The descriptor of a connection.
use Rattle.std.specs.Prelude.{ℤ}
use Rattle.std.specs.Arc.{arc_value}
use Rattle.std.specs.Net.Tcp.{stream_raw_fd}
use Rattle.front_net.specs.declared.front_link.FrontLink.{FrontLink}

-- that of its stream
abbrev pub descriptor : FrontLink → ℤ
descriptor link = stream_raw_fd (arc_value link.stream)
