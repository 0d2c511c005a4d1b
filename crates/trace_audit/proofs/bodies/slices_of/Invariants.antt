use Rattle.std.proofs.Common.{◌≡◌, ◌++◌, drop, map}
use Rattle.body_cutter.specs.Pieces.{bytes_at}
use Rattle.trace_audit.proofs.bodies.slices_of.Given as goal

-- the slices so far, and those of the spans that are left
abbrev pub invariant-loop-span : goal.invariant-loop-span
invariant-loop-span l = map (bytes_at l.fn.text) l.spans ≡ l.slices.items ++ map (bytes_at l.fn.text) (drop l.span-index l.spans)
