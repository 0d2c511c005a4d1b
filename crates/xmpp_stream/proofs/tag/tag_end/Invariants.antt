use Rattle.std.proofs.Common.{◌≡◌, drop}
use Rattle.std.specs.Prelude.{None}
use Rattle.xmpp_stream.specs.Tag.{tag_end}
use Rattle.xmpp_stream.proofs.tag.tag_end.Given as goal

-- the end is that of what is left
abbrev pub invariant-loop-at : goal.invariant-loop-at
invariant-loop-at l = tag_end 0 None l.text ≡ tag_end l.at l.quote (drop l.at l.text)
