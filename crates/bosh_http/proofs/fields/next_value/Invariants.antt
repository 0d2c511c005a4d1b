use Rattle.std.proofs.Common.{◌≡◌, ◌≤◌, length, All}
use Rattle.httparse.specs.Spans.{IsHeaderWithin}
use Rattle.bosh_http.specs.Fields.{values_at}
use Rattle.bosh_http.proofs.fields.next_value.Given as goal

abbrev pub invariant-loop-left : goal.invariant-loop-left
invariant-loop-left l = record {
  same : values_at l.bytes l.name l.headers ≡ values_at l.bytes l.name l.left;
  within : All (IsHeaderWithin (length l.bytes)) l.left;
  fewer : length l.left ≤ length l.headers;
}

abbrev pub decreases-loop-left : goal.decreases-loop-left
decreases-loop-left l = length l.left
