use Rattle.std.proofs.Common.{◌≡◌, ◌≤◌, drop}
use Rattle.bosh_types.specs.Rid.{greatest_rid, rid_of}
use Rattle.bosh_types.proofs.RidLemmas.{rid_after}
use Rattle.bosh_types.proofs.rid.number.Given as goal

-- what the text writes is what the digits that are left write after the number so far
abbrev pub invariant-loop-digit : goal.invariant-loop-digit
invariant-loop-digit l = record {
  in_range : l.value ≤ greatest_rid;
  same : rid_of l.text ≡ rid_after l.value (drop l.digit-index l.text);
}
