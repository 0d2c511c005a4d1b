-- How long a connection waits for its peer.
use Rattle.std.specs.Prelude.{ℕ, ◌+◌, ◌*◌, ◌/◌}
use Rattle.bosh_server.specs.declared.patience.Awaiting.{Awaiting}
use Rattle.bosh_server.specs.declared.patience.Awaiting.TheVariants as awaits

-- in milliseconds: a request 15 seconds, a head and room for an answer 30, a content 30 and one more for each 16,384 bytes
abbrev pub limit_of : Awaiting → ℕ
limit_of awaits.Request = 15000
limit_of awaits.Head = 30000
limit_of (awaits.Content length) = 30000 + length / 16384 * 1000
limit_of (awaits.Room place) = 30000
limit_of awaits.Nothing = 30000
