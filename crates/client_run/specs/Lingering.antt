-- What talking came to, once the workers have ended too.
use Rattle.std.specs.Prelude.{◌≡◌, ◌⊎◌, ℕ, Bool, true, false, List, Option, IfSome, Result, Ok, Err}
use Rattle.std.specs.declared.alloc.AllocError.{AllocError}
use Rattle.bosh_ports.specs.Faults.{HasRisen}
use Rattle.line_reader.specs.Lines.{lines_of}
use Rattle.parked_gate.specs.Histories.{StartsWith}
use Rattle.parked_gate.specs.Passes.{Known}
use Rattle.client_run.specs.declared.attending.Attended.{Attended}
use Rattle.client_run.specs.declared.attending.Attended.TheVariants as attended
use Rattle.client_run.specs.declared.entry.Entry.{Entry}
use Rattle.client_run.specs.Adding.{Adds, AddsOnly, IsTalk, is_hand_out}
use Rattle.client_run.specs.Input.{IsFirstBad, PutsAll, TakesNoMore, WasFull}
use Rattle.client_run.specs.Queueing.{AsksLast, AsksToEnd}

-- talking added its entries, this held then, and after that there were hand-outs alone
pub record Spoke (input : Option (List ℕ)) (old new : Known Entry) (P : Known Entry → Type 0) : Type 0 where
  pub mid : Known Entry
  pub adds : Adds old mid (IsTalk input)
  pub holds : P mid
  pub begins : StartsWith new.seen mid.seen
  pub handed : AddsOnly is_hand_out mid new

-- What talking came to, by its causes, once both workers have ended; where it didn't end well a terminate was queued, and where the
-- sink failed nothing was done after that
unfoldable pub LingersBy : Option (List ℕ) → Known Entry → Known Entry → ℕ → ℕ → ℕ → ℕ → Result Attended AllocError → Type 0
LingersBy input old new reads later_reads writes later_writes (Ok attended.Done) =
    Spoke input old new (λ mid. PutsAll input old mid ⊎ TakesNoMore mid) × (later_reads ≡ reads) × (later_writes ≡ writes)
LingersBy input old new reads later_reads writes later_writes (Ok attended.Stuck) =
    Spoke input old new (λ mid. WasFull old.seen mid.seen) × (later_reads ≡ reads) × (later_writes ≡ writes)
LingersBy input old new reads later_reads writes later_writes (Ok (attended.Bad n)) =
    IfSome input (λ bytes. IsFirstBad (lines_of bytes) n) × AsksToEnd old new × (later_reads ≡ reads)
LingersBy input old new reads later_reads writes later_writes (Ok attended.ReadFault) = HasRisen reads later_reads × AsksToEnd old new
LingersBy input old new reads later_reads writes later_writes (Ok attended.WriteFault) = HasRisen writes later_writes × AsksLast old new × (later_reads ≡ reads)
LingersBy input old new reads later_reads writes later_writes (Err error) = Unit {0}

-- all that was handed out is written where talking ended well
abbrev pub is_linger_whole : Result Attended AllocError → Bool
is_linger_whole (Ok attended.Done) = true
is_linger_whole (Ok (attended.Bad n)) = false
is_linger_whole (Ok attended.ReadFault) = false
is_linger_whole (Ok attended.WriteFault) = false
is_linger_whole (Ok attended.Stuck) = true
is_linger_whole (Err error) = false
