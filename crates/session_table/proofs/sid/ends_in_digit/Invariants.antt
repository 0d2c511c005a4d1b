use Rattle.std.proofs.Common.{◌≡◌, drop, false}
use Rattle.server_ports.specs.Names.{last_is_digit}
use Rattle.session_table.proofs.sid.ends_in_digit.Given as goal

-- what the whole part ends in is what the rest ends in, after what was read
abbrev pub invariant-loop-byte : goal.invariant-loop-byte
invariant-loop-byte l = last_is_digit false l.part ≡ last_is_digit l.is_digit (drop l.byte-index l.part)
