use Rattle.std.proofs.Common.{◌≡◌, ◌++◌, drop, map}
use Rattle.body_cutter.specs.Pieces.{bytes_at}
use Rattle.session_core.specs.Processed.{stanza_items}
use Rattle.session_core.proofs.processing.pass_stanzas.Given as goal

-- what has gone inward so far, and then what is left
abbrev pub invariant-loop-span : goal.invariant-loop-span
invariant-loop-span l =
    l.fn.inbox ++ stanza_items l.targets (map (bytes_at l.body) l.spans) ≡ l.inbox ++ stanza_items l.targets (map (bytes_at l.body) (drop l.span-index l.spans))
