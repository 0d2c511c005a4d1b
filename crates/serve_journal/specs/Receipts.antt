-- Whether something may leave the process.
use Rattle.std.specs.Prelude.{◌≡◌, ⊤, None, Some}
use Rattle.serve_journal.specs.declared.held_link.HeldLink.{HeldLink}
use Rattle.serve_journal.specs.declared.receipt.Mark.{Mark}
use Rattle.serve_journal.specs.declared.receipt.Leave.{Leave}
use Rattle.serve_journal.specs.declared.receipt.Leave.TheVariants as leaves
use Rattle.serve_journal.specs.declared.receipt.Receipt.{Receipt}

-- this holds of the receipt, where there is one
abbrev pub IfStored : Leave → (Receipt → Type 0) → Type 0
IfStored leaves.Free P = ⊤
IfStored (leaves.Stored receipt) P = P receipt
IfStored leaves.NotYet P = ⊤
IfStored leaves.Lost P = ⊤

abbrev pub ByLeave : {L : Type 0} → HeldLink L → HeldLink L → Leave → Type 0
ByLeave old new leaves.Free = old.keeper ≡ None
ByLeave old new (leaves.Stored receipt) = (first : Mark) → old.mark ≡ Some first → receipt.mark ≡ first
ByLeave old new leaves.NotYet = new.link ≡ old.link
ByLeave old new leaves.Lost = new.link ≡ old.link

-- Where entries are stored a link gives nothing but by a receipt for what was noted when the bytes at hand came; without one nothing is done to the
-- link within.
abbrev pub GivesBy : {L : Type 0} → HeldLink L → HeldLink L → Type 0
GivesBy old new = ByLeave old new new.leave
