use Rattle.std.proofs.Common.{◌≡◌, take, map}
use Rattle.xmpp_backend.proofs.owed.owed_in_turn.Given as goal

-- so many stanzas are there
abbrev pub invariant-loop-stanza : goal.invariant-loop-stanza
invariant-loop-stanza l = l.owed.items ≡ map (λ stanza. (l.wire, stanza)) (take l.stanza-index l.stanzas)
