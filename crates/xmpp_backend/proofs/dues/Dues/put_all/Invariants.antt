use Rattle.std.proofs.Common.{◌≡◌, ◌+◌, length}
use Rattle.xmpp_backend.specs.Dues.{owes_all}
use Rattle.xmpp_backend.proofs.dues.Dues.put_all.Given as goal

-- what the whole leads to, the rest leads to, and there is memory for it
abbrev pub invariant-loop-owed : goal.invariant-loop-owed
invariant-loop-owed l = record {
  room : l.self.room ≡ length l.stanzas.items;
  owes : owes_all l.stanzas.items l.self.dues ≡ owes_all l.fn.stanzas.items l.fn.self.dues;
}

abbrev pub decreases-loop-owed : goal.decreases-loop-owed
decreases-loop-owed l = length l.stanzas.items
