use Rattle.std.proofs.Common.{◌≢◌}
use Rattle.std.specs.List.{AllWithin}
use Rattle.stream_backend.specs.Lines.{Line}
use Rattle.stream_backend.proofs.lines.place_of.Given as goal

abbrev pub invariant-loop-at : goal.invariant-loop-at
invariant-loop-at g l = AllWithin (λ (line : Line). line.wire ≢ l.wire) l.lines 0 l.at
