-- Counts of two, of which one rises.
use Rattle.std.proofs.Common.{◌≡◌, ◌+◌, ℕ, arith}
use Rattle.bosh_ports.specs.Faults.{HasRisen}
use Rattle.bosh_ports.specs.Memory.{counted_up}

pub risen_within : (old new own : ℕ) → HasRisen old new → HasRisen (old + own) (new + own)
risen_within old new own risen = λ less.
    let more = risen (omega (arith, less)) in
    omega (arith, more)

pub risen_itself : (within old new : ℕ) → new ≡ counted_up old → HasRisen (within + old) (within + new)
risen_itself within old new is = λ less. omega (arith, less, is)
