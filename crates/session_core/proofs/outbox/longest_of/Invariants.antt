use Rattle.std.proofs.Common.{◌≡◌, ◌≤◌, true, false, take}
use Rattle.std.specs.List.{list_any}
use Rattle.bosh_types.specs.Limits.{longest_stanza}
use Rattle.session_core.specs.Outward.{is_close, size_of_all}
use Rattle.session_core.proofs.Fronts.{all_of}
use Rattle.session_core.proofs.outbox.longest_of.Given as goal

-- so many of the first items fit one answer
abbrev pub invariant-loop-count : goal.invariant-loop-count
invariant-loop-count l = record {
  sum_is : l.bytes ≡ size_of_all (take l.count l.items);
  small : l.bytes ≤ longest_stanza;
  stanzas : list_any is_close (take l.count l.items) ≡ false;
  one : all_of l.stream (take l.count l.items) ≡ true;
}
