use Rattle.std.proofs.Common.{◌≡◌, ◌++◌, drop}
use Rattle.body_writer.specs.Attribute.{escaped}
use Rattle.xmpp_stream.proofs.stream_text.push_escaped.Given as goal

-- what is to be written is what was written and the bytes that are left
abbrev pub invariant-loop-byte : goal.invariant-loop-byte
invariant-loop-byte l = l.fn.text.items ++ escaped l.value ≡ l.text.items ++ escaped (drop l.byte-index l.value)
