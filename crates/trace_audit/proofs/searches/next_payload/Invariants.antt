use Rattle.std.proofs.Common.{ℕ, List}
use Rattle.trace_audit.specs.Stands.{IsOutwardAt, MarksTaken}
use Rattle.trace_audit.proofs.searches.next_payload.Given as goal

-- it is the same place as at the beginning
abbrev pub invariant-loop-index : goal.invariant-loop-index
invariant-loop-index l = (ids : List ℕ) (count : ℕ) → MarksTaken ids l.fn.counted l.fn.took → IsOutwardAt ids l.fn.counted l.fn.place count → IsOutwardAt ids l.fn.counted (record { index = l.index; offset = l.offset }) count
