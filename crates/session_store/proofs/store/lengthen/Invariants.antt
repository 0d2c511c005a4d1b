use Rattle.std.proofs.Common.{◌≡◌, ◌≤◌, ◌+◌, ℕ, length, get_or, max, take}
use Rattle.session_store.proofs.store.lengthen.Given as goal

-- each place reads as before, what was there stands in front, and what is missing makes it long enough
abbrev pub invariant-loop-missing : goal.invariant-loop-missing
invariant-loop-missing l = record {
  reads : (other : ℕ) → get_or l.counts.items other 0 ≡ get_or l.fn.counts.items other 0;
  front : take (length l.fn.counts.items) l.counts.items ≡ l.fn.counts.items;
  fits : length l.fn.counts.items ≤ length l.counts.items;
  long : length l.counts.items + l.missing ≡ max l.fn.least (length l.fn.counts.items);
}

abbrev pub decreases-loop-missing : goal.decreases-loop-missing
decreases-loop-missing l = l.missing
