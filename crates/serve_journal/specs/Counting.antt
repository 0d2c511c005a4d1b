-- Counts of what wraps something that has counts.
use Rattle.std.specs.Prelude.{ℕ, ◌+◌}
use Rattle.server_ports.specs.Counts.{Counts}

-- the counts of a network within, and the faults of what is round it
abbrev pub with_faults : ℕ → Counts → Counts
with_faults faults counts = record counts { faults = counts.faults + faults }
