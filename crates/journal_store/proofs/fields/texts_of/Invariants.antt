use Rattle.std.proofs.Common.{◌≡◌}
use Rattle.journal_store.specs.Reading.{texts_at}
use Rattle.journal_store.proofs.ReadLemmas.{with_front}
use Rattle.journal_store.proofs.fields.texts_of.Given as goal

-- the texts so far, and so many of the rest, are all
abbrev pub invariant-loop-left : goal.invariant-loop-left
invariant-loop-left l = with_front l.texts.items (texts_at l.left l.rest) ≡ texts_at l.count l.bytes

abbrev pub decreases-loop-left : goal.decreases-loop-left
decreases-loop-left l = l.left
