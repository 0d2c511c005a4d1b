use Rattle.session_core.specs.Journal.{Journal}
use Rattle.session_journal.specs.Stored.{IsJournalOf}
use Rattle.session_calls.specs.After.{left_in}
use Rattle.script_text.proofs.TakingLemmas.{TakesOn}
use Rattle.script_text.proofs.live.take_all.Given as goal

-- what was told, and what is left to tell, is all that goes inward
abbrev pub invariant-loop-item : goal.invariant-loop-item
invariant-loop-item l = (journal : Journal) → IsJournalOf l.fn.session journal → TakesOn l.number l.session l.lines.items l.fn.lines.items journal

abbrev pub decreases-loop-item : goal.decreases-loop-item
decreases-loop-item l = left_in l.session
