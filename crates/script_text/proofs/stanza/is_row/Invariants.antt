use Rattle.std.proofs.Common.{◌≡◌, drop}
use Rattle.script_text.specs.Stanza.{is_row}
use Rattle.script_text.proofs.stanza.is_row.Given as goal

-- what the whole is, the rest is from where the spans came to
abbrev pub invariant-loop-span : goal.invariant-loop-span
invariant-loop-span l = is_row l.fn.start l.spans l.fn.end ≡ is_row l.place (drop l.span-index l.spans) l.fn.end
