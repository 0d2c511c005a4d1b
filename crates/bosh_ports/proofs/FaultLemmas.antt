-- Counts of faults over several calls.
use Rattle.std.proofs.Common.{ℕ, ◌≤◌, arith}
use Rattle.bosh_ports.specs.Faults.{HasRisen}

-- a rise after calls at which the count didn't fall
pub HasRisen-before : (old mid new : ℕ) → old ≤ mid → mid ≤ new → HasRisen mid new → HasRisen old new
HasRisen-before old mid new first then risen = λ small. grind (arith, risen)

-- a rise before such calls
pub HasRisen-after : (old mid new : ℕ) → HasRisen old mid → mid ≤ new → HasRisen old new
HasRisen-after old mid new risen then = λ small. grind (arith, risen)
