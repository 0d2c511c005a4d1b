use Rattle.std.proofs.Common.{◌≡◌, ◌++◌, drop}
use Rattle.session_core.specs.Outward.{stanzas_in}
use Rattle.session_core.proofs.answering.payloads_of.Given as goal

-- the stanzas so far, and those of the items that are left
abbrev pub invariant-loop-item : goal.invariant-loop-item
invariant-loop-item l = stanzas_in l.items ≡ l.texts.items ++ stanzas_in (drop l.item-index l.items)
