use Rattle.std.proofs.Common.{◌≡◌, ◌≤◌, true, take}
use Rattle.std.specs.List.{list_all}
use Rattle.bosh_types.specs.Limits.{longest_stanza}
use Rattle.bosh_client.specs.Outgoing.{is_stanza, same_stream, size_of_all, stream_in, stream_of}
use Rattle.bosh_client.proofs.queue.Queue.fitting.Given as goal

-- so many of the first items fit one body
abbrev pub invariant-loop-count : goal.invariant-loop-count
invariant-loop-count l = record {
  sum_is : l.bytes ≡ size_of_all (take l.count l.self-inside.items.items);
  small : l.bytes ≤ longest_stanza;
  together : list_all (λ item. same_stream (stream_in l.self-inside.items.items) (stream_of item)) (take l.count l.self-inside.items.items) ≡ true;
  stanzas : list_all is_stanza (take l.count l.self-inside.items.items) ≡ true;
}
