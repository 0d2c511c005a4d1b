use Rattle.std.proofs.Common.{◌≡◌, drop}
use Rattle.std.specs.Prelude.{None}
use Rattle.xmpp_stream.specs.Qualified.{has_namespace}
use Rattle.xmpp_stream.proofs.qualify.has_namespace.Given as goal

-- the tag has the attribute where what is left has it
abbrev pub invariant-loop-at : goal.invariant-loop-at
invariant-loop-at l = has_namespace None l.element ≡ has_namespace l.quote (drop l.at l.element)
