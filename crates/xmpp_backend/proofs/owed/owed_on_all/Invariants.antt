use Rattle.std.proofs.Common.{◌≡◌, take, map}
use Rattle.xmpp_backend.proofs.owed.owed_on_all.Given as goal

-- so many wires have it
abbrev pub invariant-loop-wire : goal.invariant-loop-wire
invariant-loop-wire l = l.owed.items ≡ map (λ wire. (wire, l.stanza)) (take l.wire-index l.wires)
