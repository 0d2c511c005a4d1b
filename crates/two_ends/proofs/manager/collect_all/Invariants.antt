use Rattle.std.proofs.Common.{drop}
use Rattle.session_core.specs.Journal.{Journal}
use Rattle.session_journal.specs.Stored.{IsJournalOf}
use Rattle.two_ends.proofs.CollectingLemmas.{CollectsOn}
use Rattle.two_ends.proofs.manager.collect_all.Given as goal

-- what was collected, and what is left to collect, is all
abbrev pub invariant-loop-parked : goal.invariant-loop-parked
invariant-loop-parked l = (journal : Journal) → IsJournalOf l.fn.session journal
    → CollectsOn l.session l.told.items l.left.items (drop l.parked-index l.parked) l.fn.told.items l.parked journal
