use Rattle.std.proofs.Common.{◌≡◌, drop}
use Rattle.xmpp_backend.specs.Script.{are_answers}
use Rattle.xmpp_backend.proofs.stanza.are_answers.Given as goal

-- what holds of all of them, holds of the rest
abbrev pub invariant-loop-stanzas : goal.invariant-loop-stanzas
invariant-loop-stanzas l = are_answers l.answers ≡ are_answers (drop l.stanzas-index l.answers)
