-- What comes of a request on a link.
use Rattle.std.specs.Prelude.{◌≡◌, ℕ, ◌<◌, List}
use Rattle.std.specs.Io.KnownBytes.{Keeps}
use Rattle.client_run.specs.declared.fault.Fault.{Fault as FaultKind}
use Rattle.client_run.specs.declared.fault.Fault.TheVariants as faults
use Rattle.client_run.specs.declared.line.Heard.{Heard}
use Rattle.client_run.specs.declared.line.Heard.TheVariants.{Body, Refused, Nothing, Fault, NoMemory}
use Rattle.bosh_http.specs.Responding.{Responds}
use Rattle.bosh_http.specs.declared.responding.ResponseIn.TheVariants.{Status}
use Rattle.client_run.specs.Working.{Wire, Exchanges, Hears, Refuses, Sends, TakesSome, Tries}

-- the next response was read, and was an answer, or was none; a fault is one that the link counted
abbrev pub IsHeard : Wire → Wire → ℕ → Heard → Type 0
IsHeard old new faults (Body answer) = Hears old new answer × (faults ≡ 0)
IsHeard old new faults (Refused status) = Keeps old.given new.given × Responds old.left new.left old.kept new.kept (Status status) × (faults ≡ 0)
IsHeard old new faults Nothing = Keeps old.given new.given × TakesSome old.left new.left × (faults ≡ 0)
IsHeard old new count (Fault fault) = Keeps old.given new.given × TakesSome old.left new.left × (0 < count) × (fault ≡ faults.Read)
IsHeard old new faults NoMemory = Keeps old.given new.given × TakesSome old.left new.left × (faults ≡ 0)

-- what failed: reading, where the request was given whole; or writing, after which nothing was read
abbrev pub FailsBy : Wire → Wire → List ℕ → FaultKind → Type 0
FailsBy old new body faults.Dial = ⊥
FailsBy old new body faults.Read = (asked : Wire) × Sends old asked body × Keeps asked.given new.given
FailsBy old new body faults.Write = Keeps old.left new.left × (new.kept ≡ old.kept)

-- the same of a request that was given, or was tried to be
abbrev pub HearsBy : Wire → Wire → List ℕ → ℕ → Heard → Type 0
HearsBy old new body faults (Body answer) = Exchanges old new body answer × (faults ≡ 0)
HearsBy old new body faults (Refused status) = Refuses old new body status × (faults ≡ 0)
HearsBy old new body faults Nothing = Tries old new body × (faults ≡ 0)
HearsBy old new body faults (Fault fault) = Tries old new body × (0 < faults) × FailsBy old new body fault
HearsBy old new body faults NoMemory = Tries old new body × (faults ≡ 0)
