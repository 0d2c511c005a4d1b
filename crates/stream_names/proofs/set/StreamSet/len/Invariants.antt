use Rattle.std.proofs.Common.{◌≡◌, ◌+◌, ◌≤◌, length}
use Rattle.stream_names.specs.Streams.{is_among}
use Rattle.stream_names.proofs.Numbers.{from}
use Rattle.stream_names.proofs.set.StreamSet.len.Given as goal

-- so many were counted, and those from here on are left
abbrev pub invariant-loop-number : goal.invariant-loop-number
invariant-loop-number l = record {
  few : l.count ≤ l.number;
  all : l.count + length (from (is_among l.self) l.number) ≡ length l.self;
}
