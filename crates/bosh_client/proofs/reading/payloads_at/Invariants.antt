use Rattle.std.proofs.Common.{◌≡◌, ◌++◌, drop, map}
use Rattle.body_cutter.specs.Pieces.{bytes_at}
use Rattle.bosh_client.proofs.reading.payloads_at.Given as goal

-- the pieces so far, and then those that are left
abbrev pub invariant-loop-span : goal.invariant-loop-span
invariant-loop-span l = map (bytes_at l.text) l.spans ≡ l.payloads ++ map (bytes_at l.text) (drop l.span-index l.spans)
