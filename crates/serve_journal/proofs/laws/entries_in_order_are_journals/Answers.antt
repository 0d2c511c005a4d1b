use Rattle.serve_journal.proofs.OrderLemmas.{are_still_journals}
use Rattle.serve_journal.proofs.laws.entries_in_order_are_journals.Goals as goal

pub returns : goal.returns
returns c = are_still_journals
