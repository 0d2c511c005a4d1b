use Rattle.std.proofs.Common.{◌≡◌, ◌+◌, drop}
use Rattle.trace_audit.specs.Rules.{are_next}
use Rattle.trace_audit.proofs.searches.handed_after.Given as goal

-- the payloads that are left have to be the next of what is left
abbrev pub invariant-loop-payload : goal.invariant-loop-payload
invariant-loop-payload l = record {
  place_is : l.place ≡ l.fn.handed + l.payload-index;
  same : are_next (drop l.fn.handed l.fn.gave) l.fn.payloads ≡ are_next (drop l.place l.fn.gave) (drop l.payload-index l.fn.payloads);
}
