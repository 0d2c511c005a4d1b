use Rattle.std.proofs.Common.{ℕ, List}
use Rattle.trace_audit.specs.Stands.{IsInwardAt, MarksCome}
use Rattle.trace_audit.proofs.searches.next_item.Given as goal

-- it is the same place as at the beginning
abbrev pub invariant-loop-index : goal.invariant-loop-index
invariant-loop-index l = (ids : List ℕ) (count : ℕ) → MarksCome ids l.fn.sent l.fn.came → IsInwardAt ids l.fn.sent l.fn.place count → IsInwardAt ids l.fn.sent (record { index = l.index; offset = l.offset }) count
