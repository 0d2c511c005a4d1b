-- What a link does that is asked and may have nothing now.
use Rattle.std.specs.Prelude.{◌≡◌, ℕ, Bool, true, false, List, Option, Some, None}
use Rattle.std.specs.Io.KnownBytes.{Keeps}
use Rattle.bosh_ports.specs.Faults.{HasRisen}
use Rattle.bosh_ports.specs.Sink.{Gives, CountsGive}
use Rattle.bosh_ports.specs.Source.{Takes, CountsTake}
use Rattle.bosh_ports.specs.declared.sink.Gave.{Gave}
use Rattle.bosh_ports.specs.declared.source.Got.{Got}

-- a take, or nothing where none came yet
abbrev pub PollTakes : Option (List ℕ) → Option (List ℕ) → List ℕ → Option Got → Type 0
PollTakes old new room None = Keeps old new
PollTakes old new room (Some got) = Takes old new room got

-- only a failed take moves the count of faults
abbrev pub PollCountsTake : ℕ → ℕ → Option Got → Type 0
PollCountsTake old new None = new ≡ old
PollCountsTake old new (Some got) = CountsTake old new got

-- a give, or nothing where there is no room now
abbrev pub PollGives : Option (List ℕ) → Option (List ℕ) → List ℕ → Option Gave → Type 0
PollGives old new bytes None = Keeps old new
PollGives old new bytes (Some gave) = Gives old new bytes gave

-- only a failed give moves the count of faults
abbrev pub PollCountsGive : ℕ → ℕ → Option Gave → Type 0
PollCountsGive old new None = new ≡ old
PollCountsGive old new (Some gave) = CountsGive old new gave

-- the count of waits rises by none, and by nothing else
abbrev pub CountsWait : {A : Type 0} → ℕ → ℕ → Option A → Type 0
CountsWait old new None = HasRisen old new
CountsWait old new (Some answer) = new ≡ old

-- the count of peers that left rises by yes, and by nothing else
abbrev pub CountsLeft : ℕ → ℕ → Bool → Type 0
CountsLeft old new true = HasRisen old new
CountsLeft old new false = new ≡ old
