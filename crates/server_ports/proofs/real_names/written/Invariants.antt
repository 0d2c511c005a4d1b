use Rattle.std.proofs.Common.{◌≡◌, true, length}
use Rattle.std.specs.List.{list_all}
use Rattle.server_ports.specs.Names.{is_name_byte}
use Rattle.server_ports.proofs.real_names.written.Given as goal

abbrev pub invariant-loop-place : goal.invariant-loop-place
invariant-loop-place l = record { written : length l.bytes.items ≡ l.place; allowed : list_all is_name_byte l.bytes.items ≡ true }
