use Rattle.std.proofs.Common.{◌≡◌, ℕ, List, ◌++◌, drop}
use Rattle.stop_net.specs.Heard.{asked_by}
use Rattle.stop_net.proofs.heard.Heard.hear.Given as goal

-- what the whole text tells, the rest of it tells
abbrev pub invariant-loop-byte : goal.invariant-loop-byte
invariant-loop-byte l = (more : List ℕ) → asked_by l.self (drop l.byte-index l.bytes ++ more) ≡ asked_by l.initial.self (l.bytes ++ more)
