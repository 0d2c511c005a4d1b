use Rattle.std.proofs.Common.{◌≡◌, ◌++◌, drop}
use Rattle.script_text.specs.Stanza.{slices_of}
use Rattle.script_text.proofs.stanza.slices_of.Given as goal

-- the slices so far, and those of the spans that are left
abbrev pub invariant-loop-span : goal.invariant-loop-span
invariant-loop-span l = slices_of l.text l.spans ≡ l.slices.items ++ slices_of l.text (drop l.span-index l.spans)
