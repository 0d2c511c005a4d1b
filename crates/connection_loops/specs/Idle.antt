-- Which of the seats that wait for their next requests waits longest.
use Rattle.std.specs.Prelude.{ℕ, nat_le, Option, Some, None, if◌then◌else◌}
use Rattle.connection_loops.specs.declared.turning.Idle.{Idle}

-- the one that began first, and of two that began together the one that was found first
abbrev pub longer_idle : Option Idle → ℕ → Option ℕ → Option Idle
longer_idle longest at None = longest
longer_idle None at (Some since) = Some (record { at = at; since = since })
longer_idle (Some idle) at (Some since) = if nat_le idle.since since then Some idle else Some (record { at = at; since = since })
