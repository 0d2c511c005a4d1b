use Rattle.std.proofs.Common.{drop}
use Rattle.session_core.specs.Journal.{Journal}
use Rattle.session_journal.specs.Stored.{IsJournalOf}
use Rattle.script_text.proofs.CollectingLemmas.{CollectsOn}
use Rattle.script_text.proofs.live.collect_all.Given as goal

-- what was collected, and what is left to collect, is all
abbrev pub invariant-loop-parked : goal.invariant-loop-parked
invariant-loop-parked l = (journal : Journal) → IsJournalOf l.fn.session journal
    → CollectsOn l.session l.lines.items l.left.items (drop l.parked-index l.parked) l.fn.lines.items l.parked journal
