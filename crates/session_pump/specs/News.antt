-- What a pump tells of the sessions that it met.
use Rattle.std.specs.Prelude.{ℕ, Option, None, Some, slice_get}
use Rattle.session_pump.specs.declared.line.Line.{Line}
use Rattle.session_pump.specs.declared.line.Side.{Side}

abbrev pub host_in : Option Side → Option ℕ
host_in None = None
host_in (Some side) = side.host

-- the place of the host of the stream that a session began with, where there is a line and it has one
abbrev pub host_by : Option Line → Option ℕ
host_by None = None
host_by (Some line) = host_in (slice_get line.sides.items 0)
