use Rattle.std.proofs.Common.{◌≡◌, drop}
use Rattle.xmpp_backend.specs.Script.{are_stanzas}
use Rattle.xmpp_backend.proofs.stanza.are_stanzas.Given as goal

-- what holds of all of them, holds of the rest
abbrev pub invariant-loop-text : goal.invariant-loop-text
invariant-loop-text l = are_stanzas l.texts ≡ are_stanzas (drop l.text-index l.texts)
