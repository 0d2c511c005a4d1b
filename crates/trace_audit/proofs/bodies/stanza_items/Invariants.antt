use Rattle.std.proofs.Common.{◌≡◌, ◌++◌, drop, map}
use Rattle.body_cutter.specs.Pieces.{bytes_at}
use Rattle.trace_audit.specs.declared.line.Item.TheVariants.{Stanza}
use Rattle.trace_audit.proofs.bodies.stanza_items.Given as goal

-- the items so far, and those of the spans that are left
abbrev pub invariant-loop-span : goal.invariant-loop-span
invariant-loop-span l = map (λ span. Stanza (bytes_at l.fn.body span)) l.spans ≡ l.items.items ++ map (λ span. Stanza (bytes_at l.fn.body span)) (drop l.span-index l.spans)
