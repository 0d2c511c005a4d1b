use Rattle.std.proofs.Common.{◌≡◌}
use Rattle.std.specs.Prelude.{slice_get}
use Rattle.stream_names.specs.Streams.{is_among}
use Rattle.stream_names.proofs.Numbers.{from}
use Rattle.stream_names.proofs.set.StreamSet.nth.Given as goal

-- so many are still to be left out of those from here on
abbrev pub invariant-loop-number : goal.invariant-loop-number
invariant-loop-number l = slice_get (from (is_among l.self) l.number) l.before ≡ slice_get l.self l.place
