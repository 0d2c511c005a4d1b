use Rattle.std.proofs.Common.{◌≡◌, drop}
use Rattle.xmpp_stream.specs.Qualified.{name_length}
use Rattle.xmpp_stream.proofs.qualify.name_length.Given as goal

-- the name ends where what is left says
abbrev pub invariant-loop-at : goal.invariant-loop-at
invariant-loop-at l = name_length 0 l.element ≡ name_length l.at (drop l.at l.element)
