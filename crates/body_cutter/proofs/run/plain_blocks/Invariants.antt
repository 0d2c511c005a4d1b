use Rattle.std.proofs.Common.{◌≡◌, ◌≤◌, ◌-◌, true, length, take}
use Rattle.std.specs.List.{list_all}
use Rattle.body_cutter.specs.Scanning.{is_plain_byte}
use Rattle.body_cutter.proofs.run.plain_blocks.Given as goal

abbrev pub invariant-loop-at : goal.invariant-loop-at
invariant-loop-at l = record { within : l.at ≤ length l.bytes; each : list_all (is_plain_byte l.stops.0 l.stops.1 l.stops.2) (take l.at l.bytes) ≡ true }

abbrev pub decreases-loop-at : goal.decreases-loop-at
decreases-loop-at l = length l.initial.bytes - l.at
