-- A network's counts.
use Rattle.std.specs.Prelude.{◌≡◌, ℕ, ◌+◌, ◌-◌, ◌^◌, ◌≤◌, ◌<◌, min, max}
use Rattle.bosh_ports.specs.Faults.{HasRisen}

-- how often it failed, and how many links it accepted, how many it dialled, and how often it said that no more would come
pub record Counts : Type 0 where
  pub faults : ℕ
  pub accepted : ℕ
  pub dialled : ℕ
  pub stops : ℕ

-- nothing was counted yet
abbrev pub no_counts : Counts
no_counts = record { faults = 0; accepted = 0; dialled = 0; stops = 0 }

-- a count goes up by so much, to the end of its type and not past it
abbrev pub added : ℕ → ℕ → ℕ
added count more = max count (min (count + more) (2 ^ 64 - 1))

-- a fault was counted, and nothing else
pub record HasFailed (old new : Counts) : Type 0 where
  pub risen : HasRisen old.faults new.faults
  pub never_falls : old.faults ≤ new.faults
  pub others : new ≡ record old { faults = new.faults }

-- the count of faults rises exactly where that of others, as of a link that ended, isn't 0
pub record RisesWith (old new theirs : ℕ) : Type 0 where
  pub risen : 0 < theirs → HasRisen old new
  pub still : theirs ≡ 0 → new ≡ old
  pub never_falls : old ≤ new
