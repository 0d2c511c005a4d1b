use Rattle.std.proofs.Common.{◌≡◌, length, All, map}
use Rattle.httparse.specs.Spans.{IsHeaderWithin, header_bytes}
use Rattle.bosh_http.specs.Fields.{is_closing}
use Rattle.bosh_http.proofs.fields.is_closing.Given as goal

abbrev pub invariant-loop-value : goal.invariant-loop-value
invariant-loop-value l = record {
  same : is_closing l.minor (map (header_bytes l.bytes) l.headers) ≡ is_closing l.minor (map (header_bytes l.bytes) l.left);
  within : All (IsHeaderWithin (length l.bytes)) l.left;
}

abbrev pub decreases-loop-value : goal.decreases-loop-value
decreases-loop-value l = length l.left
