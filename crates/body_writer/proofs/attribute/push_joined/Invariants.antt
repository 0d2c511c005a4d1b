use Rattle.std.proofs.Common.{◌≡◌, ◌++◌, drop}
use Rattle.body_writer.specs.Attribute.{joined}
use Rattle.body_writer.proofs.attribute.push_joined.Given as goal

-- what is to be written is what was written and the payloads that are left
abbrev pub invariant-loop-payload : goal.invariant-loop-payload
invariant-loop-payload l = l.fn.text.items ++ joined l.payloads ≡ l.text.items ++ joined (drop l.payload-index l.payloads)
